use Rattle.std.proofs.Common.{[], refl, ◌∙◌}
use Rattle.pict_core.specs.Plain.{plain_val}
use Rattle.pict_desk.specs.Known.{known}
use Rattle.pict_desk.proofs.MadeOnce.{over_none, same_value}
use Rattle.pict_desk.proofs.Pairs.{zeros_are_pairs}
use Rattle.pict_desk.proofs.constants.make_constant.Goals as goal

pub word_of-word-requires-clause-over : goal.word_of-word-requires-clause-over
word_of-word-requires-clause-over c =
    let over = c.requires.over in
    let none = c.has_no_variable.ensures.0 cc in
    over_none over.0 (plain_val c.args.operand.now) none over.1

pub word_of-word-requires-clause-pairs : goal.word_of-word-requires-clause-pairs
word_of-word-requires-clause-pairs c = zeros_are_pairs c.reserve_room.new.desk.heap [] 0 refl

pub returns-clause-is : goal.returns-clause-is
returns-clause-is c =
    let v = plain_val c.args.operand.now in
    let none = c.has_no_variable.ensures.0 cc in
    let made = c.word_of-word.ensures.made in
    record { word = made.word; value = λ levels. made.value ∙ same_value v none (known c.reserve_room.new.desk.heap []) levels }
