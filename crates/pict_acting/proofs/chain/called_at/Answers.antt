use Rattle.std.proofs.Common.{◌≡◌, length, refl, ap, ◌∙◌, subst}
use Rattle.pict_core.specs.Closed.{IsOver}
use Rattle.pict_core.specs.Plain.{plain_val}
use Rattle.pict_core.specs.Term.{PrimitiveVal, Val}
use Rattle.pict_code.specs.Instruction as op
use Rattle.pict_code.specs.Plain.{plain_op}
use Rattle.pict_desk.proofs.Recording.{record_val}
use Rattle.pict_acting.proofs.CallNodes.{plain_primitive, calls_of}
use Rattle.pict_acting.proofs.chain.called_at.Goals as goal

pub answer_at-requires-clause-over : goal.answer_at-requires-clause-over
answer_at-requires-clause-over c =
    let m = c.in-Out.message in
    let form = record_val m c.in-Fields.positional c.in-Fields.labelled c.deref.result.now c.in-Fields.labelled.items c.in-Fields.is c.deref.ensures.value refl in
    (subst (IsOver (length c.args.values.now) 0) form (c.requires.over (plain_val c.in-Out.chan) (plain_val m) c.in-Out.field-2 (ap plain_op c.in-Out.is))).0

pub returns-in-Fields : goal.returns-in-Fields
returns-in-Fields c h pairs =
    let m = c.in-Out.message in
    let p = c.in-Prim.p in
    let to : plain_val c.in-Out.chan ≡ PrimitiveVal p = ap plain_val c.in-Prim.is ∙ plain_primitive p in
    let is : plain_op c.args.instruction.now ≡ op.Out (PrimitiveVal p) (plain_val m) c.in-Out.field-2 =
    ap plain_op c.in-Out.is ∙ ap (λ (v : Val). op.Out v (plain_val m) c.in-Out.field-2) to in
    calls_of h c.args.values.now p c.args.level (plain_op c.args.instruction.now) m c.in-Out.field-2 c.in-Fields.positional c.in-Fields.labelled c.deref.result.now is c.in-Fields.is
    c.deref.ensures.value c.answer_at.result (c.answer_at.ensures h pairs)
