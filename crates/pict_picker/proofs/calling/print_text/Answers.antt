use Rattle.std.proofs.Common.{IsSome, Some, sym, ap, subst, refl}
use Rattle.pict_syntax.specs.declared.primitive.Primitive.TheVariants as primitive
use Rattle.pict_core.specs.Primitives.{Effect, Nothing, effect_of}
use Rattle.pict_core.specs.Term.{Val, Text}
use Rattle.pict_prim.specs.Printed.{printed_of}
use Rattle.pict_desk.proofs.Making.{keeps_more}
use Rattle.pict_picker.proofs.Effects.{acted_printed, makes_room, same_effect}
use Rattle.pict_picker.proofs.calling.print_text.Goals as goal

abbrev prints_bytes : Val → Effect
prints_bytes v = record { printed = printed_of v; leaves = Nothing }

pub returns-clause-effect : goal.returns-clause-effect
returns-clause-effect c at e is =
    let h = c.add_text-text.new.self in
    let w = c.add_text-text.result in
    acted_printed h at w e
    (same_effect _ e (effect_of primitive.Print (Text c.args.bytes.now)) (ap (λ v. Some (prints_bytes v)) (sym c.add_text-text.ensures.value)) is)
    (record { word = c.add_text-text.ensures.word; printed = subst (λ v. IsSome (printed_of v)) (sym c.add_text-text.ensures.value) refl })

pub returns-clause-rest : goal.returns-clause-rest
returns-clause-rest c =
    let old = c.args.desk.now in
    let mid = c.reserve_room.new.desk in
    let m = makes_room old mid c.reserve_room.ensures.rest in
    record { words = keeps_more old.heap mid.heap c.add_text-text.new.self m.words c.add_text-text.ensures.keeps; values = m.values }

pub returns-in_err-reserve_room-clause-rest : goal.returns-in_err-reserve_room-clause-rest
returns-in_err-reserve_room-clause-rest c = makes_room c.args.desk.now c.reserve_room.new.desk c.reserve_room.ensures.rest

pub returns-clause-undone : goal.returns-clause-undone
returns-clause-undone c u = absurd u

pub returns-in_err-reserve_room-clause-undone : goal.returns-in_err-reserve_room-clause-undone
returns-in_err-reserve_room-clause-undone c u = c.reserve_room.ensures.rest.heap
