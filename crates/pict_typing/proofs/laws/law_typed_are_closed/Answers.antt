use Rattle.pict_typing.proofs.Within.{typed_are_closed}
use Rattle.pict_typing.proofs.laws.law_typed_are_closed.Goals as goal

pub returns : goal.returns
returns c = typed_are_closed
