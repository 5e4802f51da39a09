use Rattle.pict_front.proofs.TypedPrograms.{accepted_is_typed}
use Rattle.pict_front.proofs.laws.law_accepted_is_typed.Goals as goal

pub returns : goal.returns
returns c = accepted_is_typed
