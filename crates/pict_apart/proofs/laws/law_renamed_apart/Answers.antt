use Rattle.pict_apart.proofs.Same.{same_core}
use Rattle.pict_apart.proofs.laws.law_renamed_apart.Goals as goal

pub returns : goal.returns
returns c = same_core
