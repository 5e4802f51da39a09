use Rattle.std.proofs.Common.{ℕ, ◌≡◌, List, length, refl, sym, ap, ◌∙◌, subst}
use Rattle.pict_core.specs.Closed.{IsOver}
use Rattle.pict_core.specs.Plain.{plain_val}
use Rattle.pict_code.proofs.Lines.{on_err}
use Rattle.pict_desk.specs.Known.{known, operand_value}
use Rattle.pict_desk.specs.Needs.{IsMade, HasRoomFor}
use Rattle.pict_desk.specs.Pairs.{ArePairs}
use Rattle.pict_desk.proofs.Making.{pairs_keep, keeps_more}
use Rattle.pict_desk.proofs.MakingRoom.{keeps_words}
use Rattle.pict_picker.proofs.Effects.{makes_room, made_then}
use Rattle.pict_picker.proofs.calling.make_word.Goals as goal

pub word_of-word-requires : goal.word_of-word-requires
word_of-word-requires c =
    let old = c.args.desk.now in
    let mid = c.reserve_room.new.desk in
    let r = c.reserve_room.ensures.rest in
    let same : c.deref.result.now ≡ old.values.items = c.deref.ensures.value ∙ ap (λ v. v.items) r.values in
    record {
      over = subst (λ (vs : List (ℕ × ℕ)). IsOver (length vs) 0 (plain_val c.args.operand.now)) (sym same) c.requires.over;
      pairs = subst (ArePairs mid.heap) (sym same) (pairs_keep old.heap mid.heap (keeps_words old.heap mid.heap r.heap) old.values.items c.requires.pairs);
      room = subst (HasRoomFor mid.heap mid.pending) c.in_ok-need.ensures c.in_ok-reserve_room.ensures.room;
    }

pub returns : goal.returns
returns c =
    let old = c.args.desk.now in
    let mid = c.reserve_room.new.desk in
    let r = c.reserve_room.ensures.rest in
    let w = c.word_of-word in
    record {
      made = made_then old mid r w.new.heap w.result (plain_val c.args.operand.now)
          (subst (λ (vs : List (ℕ × ℕ)). IsMade mid.heap w.new.heap w.result (operand_value (known mid.heap vs) (plain_val c.args.operand.now))) c.deref.ensures.value w.ensures.made);
      rest = record { words = keeps_more old.heap mid.heap w.new.heap (keeps_words old.heap mid.heap r.heap) w.ensures.made.keeps; values = ap (λ v. v.items) r.values };
      refused = tt;
    }

pub returns-in_err-reserve_room-clause-rest : goal.returns-in_err-reserve_room-clause-rest
returns-in_err-reserve_room-clause-rest c = makes_room c.args.desk.now c.reserve_room.new.desk c.reserve_room.ensures.rest

pub returns-in_err-need-clause-refused : goal.returns-in_err-need-clause-refused
returns-in_err-need-clause-refused c = on_err c.from_residual.result (record { texts = refl; records = refl })

pub returns-in_err-reserve_room-clause-refused : goal.returns-in_err-reserve_room-clause-refused
returns-in_err-reserve_room-clause-refused c = on_err c.from_residual-in_err-reserve_room.result c.reserve_room.ensures.rest.heap
