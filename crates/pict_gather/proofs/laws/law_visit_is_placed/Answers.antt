use Rattle.pict_gather.proofs.Placed.{visit_is_placed}
use Rattle.pict_gather.proofs.laws.law_visit_is_placed.Goals as goal

pub returns : goal.returns
returns c = visit_is_placed
