use Rattle.pict_reduction.proofs.FreeRuns.{free_runs_reach}
use Rattle.pict_reduction.proofs.laws.law_free_runs_reach.Goals as goal

pub returns : goal.returns
returns c = free_runs_reach
