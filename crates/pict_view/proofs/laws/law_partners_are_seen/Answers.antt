use Rattle.pict_view.proofs.Seen.{partners_are_seen}
use Rattle.pict_view.proofs.laws.law_partners_are_seen.Goals as goal

pub returns : goal.returns
returns c = partners_are_seen
