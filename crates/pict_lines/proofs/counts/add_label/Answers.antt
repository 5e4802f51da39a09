-- The set has one label more.
use Rattle.pict_lines.proofs.Labels.{label_added}
use Rattle.pict_lines.proofs.counts.add_label.Goals as goal

pub returns : goal.returns
returns c = label_added c.args.written.now c.insert.new.self c.args.label c.in_ok-insert.ensures.updates.0
