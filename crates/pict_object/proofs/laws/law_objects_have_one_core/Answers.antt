use Rattle.pict_object.proofs.Objects.{one_core}
use Rattle.pict_object.proofs.laws.law_objects_have_one_core.Goals as goal

pub returns : goal.returns
returns c = one_core
