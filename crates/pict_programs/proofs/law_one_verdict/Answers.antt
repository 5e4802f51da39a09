-- Where tokens have one tree, they have one verdict.
use Rattle.pict_programs.proofs.Once.{one_verdict}
use Rattle.pict_programs.proofs.law_one_verdict.Goals as goal

pub returns : goal.returns
returns c = one_verdict
