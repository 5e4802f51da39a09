use Rattle.pict_view.proofs.Seen.{places_are_seen}
use Rattle.pict_view.proofs.laws.law_places_are_seen.Goals as goal

pub returns : goal.returns
returns c = places_are_seen
