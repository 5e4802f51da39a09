use Rattle.pict_core.proofs.OneRun.{one_run}
use Rattle.pict_core.proofs.laws.law_runs_are_one.Goals as goal

pub returns : goal.returns
returns c = one_run
