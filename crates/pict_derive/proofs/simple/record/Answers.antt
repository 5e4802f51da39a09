-- The fields, in order.
use Rattle.pict_derive.proofs.LabelOrder.{record_is}
use Rattle.pict_derive.proofs.simple.record.Goals as goal

pub returns : goal.returns
returns c = record_is c.args.names.now c.args.positional c.args.labelled c.sort_labels.new.items c.in_ok-sort_labels.ensures.sorted
