-- A record type without type fields and labels.
use Rattle.pict_infer.proofs.RecordTypes.{only_positional}
use Rattle.pict_infer.proofs.primitives.record_of.Goals as goal

pub returns : goal.returns
returns c = only_positional c.in_ok-new.field-0 c.new-binders.result c.args.positional c.new-labelled.result c.in_ok-new.ensures.ok c.new-binders.ensures.items c.new-labelled.ensures.items
