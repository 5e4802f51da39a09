use Rattle.pict_desk.proofs.Tagged.{truth_by_second}
use Rattle.pict_desk.proofs.kinds.is_true.Goals as goal

pub returns : goal.returns
returns c h is = let r = c.requires in truth_by_second r.0 h c.args.pair r.1 r.2 r.3
