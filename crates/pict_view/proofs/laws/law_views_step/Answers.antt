use Rattle.pict_view.proofs.AtPlaces.{views_step}
use Rattle.pict_view.proofs.laws.law_views_step.Goals as goal

pub returns : goal.returns
returns c = views_step
