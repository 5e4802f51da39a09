use Rattle.std.proofs.Common.{◌≡◌, length, IsSome, Some, refl, sym, ap, ◌∙◌, subst}
use Rattle.pict_core.specs.Primitives.{Effect, effect_of}
use Rattle.pict_prim.specs.Acts.{effect_act}
use Rattle.pict_desk.specs.Arguments.{argument_of}
use Rattle.pict_desk.specs.Pairs.{ArePairs}
use Rattle.pict_desk.proofs.Making.{keeps_all, keeps_more}
use Rattle.pict_desk.proofs.Reckoning.{argument_kept, room_then}
use Rattle.pict_picker.specs.Calling.{HasEffect}
use Rattle.pict_picker.proofs.Effects.{makes_room, same_effect, trap_stops, undone_traps}
use Rattle.pict_picker.proofs.calling.call_making.Goals as goal

pub divides_by_zero-requires-clause-pairs : goal.divides_by_zero-requires-clause-pairs
divides_by_zero-requires-clause-pairs c = let h = c.args.desk.now.heap in (h, subst (ArePairs h) (sym c.deref.ensures.value) c.requires.pairs)

pub decide-act-requires-clause-takes : goal.decide-act-requires-clause-takes
decide-act-requires-clause-takes c =
    let old = c.args.desk.now in
    let mid = c.make_call_room.new.desk in
    let r = c.make_call_room.ensures.rest in
    let taken = c.requires.takes.0 in
    let same = argument_kept old mid r.heap (ap (λ v. v.items) r.values) c.args.fields.now taken in
    (taken, subst (λ v. IsSome (effect_of c.args.p v)) (sym same) c.requires.takes.1)

pub finish-requires-clause-room : goal.finish-requires-clause-room
finish-requires-clause-room c =
    let old = c.args.desk.now in
    let mid = c.make_call_room.new.desk in
    let made = c.decide-act.new.desk in
    let k = c.make_call_room.ensures.rest in
    let r = c.in_ok-make_call_room.ensures.room in
    let taken = c.requires.takes.0 in
    let same = argument_kept old mid k.heap (ap (λ v. v.items) k.values) c.args.fields.now taken in
    let effect = sym (ap (effect_of c.args.p) same) ∙ c.decide-act.ensures.effect taken in
    room_then mid.heap made.heap mid.pending c.decide-act.result (length c.args.fields.now) r.bytes _ r.room c.decide-act.ensures.used (r.at_most taken (effect_act made.heap c.decide-act.result) effect)

pub returns-then-divides_by_zero-clause-effect : goal.returns-then-divides_by_zero-clause-effect
returns-then-divides_by_zero-clause-effect c labelled e is =
    let old = c.args.desk.now in
    let zero = c.divides_by_zero.ensures old.heap labelled e (subst (ArePairs old.heap) (sym c.deref.ensures.value) c.requires.pairs)
    (subst (λ vs. effect_of c.args.p (argument_of old.heap vs c.args.fields.now labelled) ≡ Some e) (sym c.deref.ensures.value) is) in
    trap_stops old.heap e c.args.at (zero.0 c.if-divides_by_zero.true)

pub returns-then-divides_by_zero-clause-rest : goal.returns-then-divides_by_zero-clause-rest
returns-then-divides_by_zero-clause-rest c = record { words = keeps_all c.args.desk.now.heap; values = refl }

pub returns-clause-effect : goal.returns-clause-effect
returns-clause-effect c labelled e is =
    let old = c.args.desk.now in
    let mid = c.make_call_room.new.desk in
    let r = c.make_call_room.ensures.rest in
    let same = argument_kept old mid r.heap (ap (λ v. v.items) r.values) c.args.fields.now labelled in
    let found = sym (ap (effect_of c.args.p) same) ∙ c.decide-act.ensures.effect labelled in
    subst (λ (x : Effect). HasEffect c.finish.new.heap x c.args.at c.finish.result)
    (same_effect _ e (effect_of c.args.p (argument_of old.heap old.values.items c.args.fields.now labelled)) found is) c.finish.ensures.effect

pub returns-clause-rest : goal.returns-clause-rest
returns-clause-rest c =
    let old = c.args.desk.now in
    let mid = c.make_call_room.new.desk in
    let made = c.decide-act.new.desk in
    let m = makes_room old mid c.make_call_room.ensures.rest in
    record {
      words = keeps_more old.heap made.heap c.finish.new.heap (keeps_more old.heap mid.heap made.heap m.words c.decide-act.ensures.keeps) c.finish.ensures.keeps;
      values = ap (λ v. v.items) c.decide-act.ensures.values ∙ m.values;
    }

pub returns-in_err-make_call_room-clause-rest : goal.returns-in_err-make_call_room-clause-rest
returns-in_err-make_call_room-clause-rest c = makes_room c.args.desk.now c.make_call_room.new.desk c.make_call_room.ensures.rest

-- what is known not to divide by zero is done
pub returns-clause-undone : goal.returns-clause-undone
returns-clause-undone c u =
    let old = c.args.desk.now in
    let mid = c.make_call_room.new.desk in
    let made = c.decide-act.new.desk in
    let r = c.make_call_room.ensures.rest in
    let labelled = c.requires.takes.0 in
    let e = effect_act made.heap c.decide-act.result in
    let same = argument_kept old mid r.heap (ap (λ v. v.items) r.values) c.args.fields.now labelled in
    let found = sym (ap (effect_of c.args.p) same) ∙ c.decide-act.ensures.effect labelled in
    let zero = c.divides_by_zero.ensures old.heap labelled e (subst (ArePairs old.heap) (sym c.deref.ensures.value) c.requires.pairs)
    (subst (λ vs. effect_of c.args.p (argument_of old.heap vs c.args.fields.now labelled) ≡ Some e) (sym c.deref.ensures.value) found) in
    let t = zero.1 (undone_traps c.finish.new.heap e c.args.at c.finish.result c.finish.ensures.effect u) in
    let f = c.if-divides_by_zero.false in
    cc

pub returns-then-divides_by_zero-clause-undone : goal.returns-then-divides_by_zero-clause-undone
returns-then-divides_by_zero-clause-undone c u = record { texts = refl; records = refl }

pub returns-in_err-make_call_room-clause-undone : goal.returns-in_err-make_call_room-clause-undone
returns-in_err-make_call_room-clause-undone c u = c.make_call_room.ensures.rest.heap
