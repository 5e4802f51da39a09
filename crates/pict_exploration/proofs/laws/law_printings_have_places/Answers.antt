use Rattle.pict_exploration.proofs.Covering.{printings_have_places}
use Rattle.pict_exploration.proofs.laws.law_printings_have_places.Goals as goal

pub returns : goal.returns
returns c = printings_have_places
