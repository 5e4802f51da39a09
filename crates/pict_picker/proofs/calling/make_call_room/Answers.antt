use Rattle.std.proofs.Common.{◌≡◌, ℕ, length, map, Some, sym, ap, ◌∙◌, subst}
use Rattle.pict_core.specs.Plain.{plain_val, vals_of}
use Rattle.pict_core.specs.Primitives.{effect_of}
use Rattle.pict_prim.specs.declared.act.Need.{Need}
use Rattle.pict_desk.specs.Needs.{both_needs, needs_of, HasRoomFor}
use Rattle.pict_desk.specs.Arguments.{argument_of}
use Rattle.pict_picker.proofs.Effects.{room_stays}
use Rattle.pict_picker.proofs.calling.make_call_room.Goals as goal

with_bytes : ℕ → ℕ → Need
with_bytes fields bytes = record { records = 1; fields = fields; texts = 1; bytes = bytes }

pub returns-clause-room : goal.returns-clause-room
unfolding with_bytes
returns-clause-room c =
    let s = c.args.desk.now in
    let fields = c.args.fields.now in
    let new = c.reserve_room.new.desk in
    let need =
    c.in_ok-need.ensures
    ∙ ap (both_needs (with_bytes (length fields) c.max.result)) c.in_ok-need_of_all.ensures
    ∙ ap (λ n. both_needs (with_bytes (length fields) n) (needs_of (vals_of (map plain_val fields)))) c.max.ensures in
    record {
      bytes = c.answer_len-answered.result;
      at_most = λ labelled e is.
          c.answer_len-answered.ensures labelled e (subst (λ vs. effect_of c.args.p (argument_of s.heap vs fields labelled) ≡ Some e) (sym c.deref.ensures.value) is);
      room = subst (HasRoomFor new.heap new.pending) need c.in_ok-reserve_room.ensures.room;
    }

pub returns-in_err-need_of_all-clause-rest : goal.returns-in_err-need_of_all-clause-rest
returns-in_err-need_of_all-clause-rest c = room_stays c.args.desk.now

pub returns-in_err-need-clause-rest : goal.returns-in_err-need-clause-rest
returns-in_err-need-clause-rest c = room_stays c.args.desk.now
