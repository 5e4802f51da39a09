-- None at first, then one more, and all.
use Rattle.pict_lines.proofs.Labels.{all_labels, labels_more, no_labels}
use Rattle.pict_lines.proofs.counts.labels_of.Goals as goal

pub loop-l-init : goal.loop-l-init
loop-l-init c = no_labels c.new-written.result c.args.ls.now c.new-written.ensures.empty

pub loop-l-preserved : goal.loop-l-preserved
loop-l-preserved c = labels_more c.args.ls.now c.loop-l.l-index c.l-item.result c.loop-l.written c.add_label.new.written c.loop-l-test.true c.l-item.is c.loop-l.invariant c.in_ok-add_label.ensures

pub returns : goal.returns
returns c = all_labels c.args.ls.now c.loop-l.l-index c.loop-l.written c.loop-l-test.false c.loop-l.invariant
