use Rattle.pict_alike.proofs.Equal.{alike_is_equal}
use Rattle.pict_alike.proofs.laws.law_alike_is_equal.Goals as goal

pub returns : goal.returns
returns c = alike_is_equal
