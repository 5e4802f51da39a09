-- It is shown for tokens with imports before them and without.
use Rattle.pict_follow.proofs.Alike.{kinds_decide}
use Rattle.pict_follow.proofs.laws.law_kinds_decide.Goals as goal

pub returns : goal.returns
returns c = kinds_decide
