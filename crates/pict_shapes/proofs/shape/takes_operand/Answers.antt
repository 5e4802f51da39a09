use Rattle.std.proofs.Common.{sym, ap, ◌∙◌, refl}
use Rattle.pict_core.specs.Primitives.{effect_of}
use Rattle.pict_core.specs.Term.{Record}
use Rattle.pict_shapes.specs.Fitting.{values_in, fields_in}
use Rattle.pict_shapes.specs.Shapes.{is_effect, has_operands}
use Rattle.pict_shapes.proofs.Matched.{record_in}
use Rattle.pict_shapes.proofs.Taken.{primitives_take_shapes}
use Rattle.pict_shapes.proofs.shape.takes_operand.Goals as goal

pub takes-requires : goal.takes-requires
takes-requires c = record { word = (c.in-Some.ensures.word c.args.heap.now c.requires.pairs).word }

pub returns-in-Fields : goal.returns-in-Fields
returns-in-Fields c =
    let h = c.args.heap.now in
    let values = c.args.values.now in
    let fields = c.deref.result.now in
    let labelled = fields_in h values c.in-Fields.labelled.items in
    c.fields_have.ensures labelled
    ∙ ap (λ s. has_operands s (Record (values_in h values fields) labelled)) c.operands-in-Fields.ensures
    ∙ sym (primitives_take_shapes c.args.p (Record (values_in h values fields) labelled))
    ∙ ap (λ v. is_effect (effect_of c.args.p v)) (sym (record_in h values c.args.operand.now c.in-Fields.positional c.in-Fields.labelled fields c.in-Fields.labelled.items c.in-Fields.is c.deref.ensures.value refl))
