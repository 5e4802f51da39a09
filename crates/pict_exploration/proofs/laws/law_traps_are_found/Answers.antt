use Rattle.pict_exploration.proofs.Trapping.{traps_found}
use Rattle.pict_exploration.proofs.laws.law_traps_are_found.Goals as goal

pub returns : goal.returns
returns c = traps_found
