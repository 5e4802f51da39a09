use Rattle.pict_core.proofs.Deeds.{acts_are_placed}
use Rattle.pict_core.proofs.laws.law_acts_are_placed.Goals as goal

pub returns : goal.returns
returns c = acts_are_placed
