use Rattle.std.proofs.Common.{sym, ap, ◌∙◌}
use Rattle.std.specs.Prelude.{◌&&◌}
use Rattle.pict_core.specs.Plain.{plain_val}
use Rattle.pict_core.specs.Term.{Record}
use Rattle.pict_desk.specs.Arguments.{operand_in}
use Rattle.pict_shapes.specs.Fitting.{values_in}
use Rattle.pict_shapes.specs.Shapes.{is_kind, has_operands}
use Rattle.pict_shapes.proofs.Having.{one_field, no_one, two_fields, no_two}
use Rattle.pict_shapes.proofs.shape.fields_have.Goals as goal

pub returns-then-fields-ne2 : goal.returns-then-fields-ne2
returns-then-fields-ne2 c ls =
    no_one c.args.heap.now c.args.values.now ls c.in-One.a c.in-One.field-1 c.args.fields.now c.if-fields-ne2.true
    ∙ sym (ap (λ s. has_operands s (Record (values_in c.args.heap.now c.args.values.now c.args.fields.now) ls)) c.in-One.is)

pub returns-then-fields-ne3 : goal.returns-then-fields-ne3
returns-then-fields-ne3 c ls =
    no_two c.args.heap.now c.args.values.now ls c.in-Two.a c.in-Two.b c.in-Two.field-2 c.args.fields.now c.if-fields-ne3.true
    ∙ sym (ap (λ s. has_operands s (Record (values_in c.args.heap.now c.args.values.now c.args.fields.now) ls)) c.in-Two.is)

pub returns-else-fields-ne2 : goal.returns-else-fields-ne2
returns-else-fields-ne2 c ls =
    c.operand_is.ensures ∙ one_field c.args.heap.now c.args.values.now ls c.in-One.a c.in-One.field-1 c.args.fields.now c.index-fields-0.result c.if-fields-ne2.false c.index-fields-0.is
    ∙ sym (ap (λ s. has_operands s (Record (values_in c.args.heap.now c.args.values.now c.args.fields.now) ls)) c.in-One.is)

pub returns-else-not-operand_is : goal.returns-else-not-operand_is
returns-else-not-operand_is c ls =
    let h = c.args.heap.now in
    let values = c.args.values.now in
    let second = is_kind c.in-Two.b (operand_in h values (plain_val c.index-fields-1.result)) in
    c.operand_is-in-Two-2.ensures ∙ ap (λ z. z && second) c.if-not-operand_is.ensures
    ∙ two_fields h values ls c.in-Two.a c.in-Two.b c.in-Two.field-2 c.args.fields.now c.index-fields-0-in-Two.result c.index-fields-1.result c.if-fields-ne3.false c.index-fields-0-in-Two.is c.index-fields-1.is
    ∙ sym (ap (λ s. has_operands s (Record (values_in h values c.args.fields.now) ls)) c.in-Two.is)
