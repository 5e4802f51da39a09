use Rattle.pict_core.proofs.Everywhere.{choices_have_places}
use Rattle.pict_core.proofs.laws.law_choices_have_places.Goals as goal

pub returns : goal.returns
returns c = choices_have_places
