use Rattle.pict_exploration.proofs.Covering.{runs_go_on}
use Rattle.pict_exploration.proofs.laws.law_runs_go_on_to_found.Goals as goal

pub returns : goal.returns
returns c = runs_go_on
