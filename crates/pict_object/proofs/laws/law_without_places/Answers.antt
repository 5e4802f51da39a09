use Rattle.pict_object.proofs.Whole.{without_places}
use Rattle.pict_object.proofs.laws.law_without_places.Goals as goal

pub returns : goal.returns
returns c = without_places
