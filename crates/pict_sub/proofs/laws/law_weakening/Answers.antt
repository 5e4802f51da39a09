use Rattle.pict_sub.proofs.Renamed.{weakened}
use Rattle.pict_sub.proofs.laws.law_weakening.Goals as goal

pub returns : goal.returns
returns c = λ f c d s t x p. weakened x p
