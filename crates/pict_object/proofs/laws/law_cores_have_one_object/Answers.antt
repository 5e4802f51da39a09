use Rattle.pict_object.proofs.Objects.{one_object}
use Rattle.pict_object.proofs.laws.law_cores_have_one_object.Goals as goal

pub returns : goal.returns
returns c = one_object
