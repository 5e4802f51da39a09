use Rattle.pict_exploration.proofs.Ending.{finished_runs}
use Rattle.pict_exploration.proofs.laws.law_finished_runs_are_found.Goals as goal

pub returns : goal.returns
returns c = finished_runs
