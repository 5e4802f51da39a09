use Rattle.pict_front.proofs.ObjectCores.{accepted_has_object}
use Rattle.pict_front.proofs.laws.law_accepted_has_object.Goals as goal

pub returns : goal.returns
returns c = accepted_has_object
