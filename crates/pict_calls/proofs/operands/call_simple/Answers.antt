use Rattle.std.proofs.Common.{ℕ, List, sym, ap, ◌∙◌, subst}
use Rattle.pict_core.specs.Plain.{plain_val}
use Rattle.pict_core.specs.Primitives.{effect_of}
use Rattle.pict_desk.specs.Arguments.{operand_in}
use Rattle.pict_desk.specs.Pairs.{ArePairs}
use Rattle.pict_calls.proofs.operands.call_simple.Goals as goal

pub word_at_hand-requires-clause-pairs : goal.word_at_hand-requires-clause-pairs
word_at_hand-requires-clause-pairs c = let h = c.args.store.now.desk.heap in (h, subst (ArePairs h) (sym c.deref.ensures.value) c.requires.pairs)

pub returns-clause-adds : goal.returns-clause-adds
returns-clause-adds c e is =
    let h = c.args.store.now.desk.heap in
    let word = c.in-Some.ensures.word h (subst (ArePairs h) (sym c.deref.ensures.value) c.requires.pairs) in
    let same = word.value ∙ ap (λ (values : List (ℕ × ℕ)). operand_in h values (plain_val c.args.message.now)) c.deref.ensures.value in
    c.call.ensures.adds e (ap (effect_of c.args.p) same ∙ is)
