use Rattle.pict_core.proofs.Placing.{places_are_free}
use Rattle.pict_core.proofs.laws.law_places_are_free.Goals as goal

pub returns : goal.returns
returns c = places_are_free
