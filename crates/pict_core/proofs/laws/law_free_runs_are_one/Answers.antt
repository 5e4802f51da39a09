use Rattle.pict_core.proofs.FreeRuns.{free_runs_are_one}
use Rattle.pict_core.proofs.laws.law_free_runs_are_one.Goals as goal

pub returns : goal.returns
returns c = free_runs_are_one
