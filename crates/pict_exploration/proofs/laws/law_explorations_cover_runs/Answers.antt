use Rattle.pict_exploration.proofs.Covering.{cover_runs}
use Rattle.pict_exploration.proofs.laws.law_explorations_cover_runs.Goals as goal

pub returns : goal.returns
returns c = cover_runs
