use Rattle.pict_front.proofs.Placed.{refused_is_placed}
use Rattle.pict_front.proofs.laws.law_refused_is_placed.Goals as goal

pub returns : goal.returns
returns c = refused_is_placed
