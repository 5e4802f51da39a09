use Rattle.pict_exploration.proofs.Covering.{cover_reductions}
use Rattle.pict_exploration.proofs.laws.law_explorations_cover_reductions.Goals as goal

pub returns : goal.returns
returns c = cover_reductions
