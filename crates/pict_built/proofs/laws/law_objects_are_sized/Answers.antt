use Rattle.pict_built.proofs.Sized.{sized}
use Rattle.pict_built.proofs.laws.law_objects_are_sized.Goals as goal

pub returns : goal.returns
returns c = sized
