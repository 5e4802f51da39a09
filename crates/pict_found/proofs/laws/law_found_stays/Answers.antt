use Rattle.pict_found.proofs.Kept.{found_kept}
use Rattle.pict_found.proofs.laws.law_found_stays.Goals as goal

pub returns : goal.returns
returns c = found_kept
