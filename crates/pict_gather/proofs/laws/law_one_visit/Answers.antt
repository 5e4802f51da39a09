use Rattle.pict_gather.proofs.OneVisit.{one_visit}
use Rattle.pict_gather.proofs.laws.law_one_visit.Goals as goal

pub returns : goal.returns
returns c = one_visit
