use Rattle.pict_built.proofs.Deciding.{decided}
use Rattle.pict_built.proofs.laws.law_bytes_are_decided.Goals as goal

pub returns : goal.returns
returns c = decided
