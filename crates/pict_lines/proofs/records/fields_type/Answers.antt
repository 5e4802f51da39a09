-- A record type without type fields.
use Rattle.std.proofs.Common.{List, ◌∙◌, ap}
use Rattle.pict_types.specs.declared.types.Bound.{Bound}
use Rattle.pict_types.specs.Plain.{plain_bounds, plain_labels, plain_record, plain_types}
use Rattle.pict_types.specs.Types.{Fields}
use Rattle.pict_types.proofs.Rows.{plain_fields}
use Rattle.pict_lines.proofs.records.fields_type.Goals as goal

pub returns : goal.returns
returns c =
    plain_fields c.in_ok-new.field-0
    ∙ ap plain_record c.in_ok-new.ensures.ok
    ∙ ap (λ (b : List Bound). Fields (plain_bounds b) (plain_types c.args.positional.items) (plain_labels c.args.labelled.items)) c.new-binders.ensures.items
