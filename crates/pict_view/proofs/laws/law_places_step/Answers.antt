use Rattle.pict_view.proofs.AtPlaces.{places_step}
use Rattle.pict_view.proofs.laws.law_places_step.Goals as goal

pub returns : goal.returns
returns c = places_step
