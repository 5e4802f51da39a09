use Rattle.pict_core.proofs.Placing.{wrong_places}
use Rattle.pict_core.proofs.laws.law_wrong_places_are_wrong.Goals as goal

pub returns : goal.returns
returns c = wrong_places
