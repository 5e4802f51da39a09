-- The lengths are the counts.
use Rattle.pict_lines.proofs.CountEnds.{values_counted}
use Rattle.pict_lines.proofs.counts.as_many.Goals as goal

pub returns : goal.returns
returns c = values_counted c.args.vs.now c.args.ps.now
