use Rattle.pict_typing.proofs.Shaped.{effects_by_shape}
use Rattle.pict_typing.proofs.laws.law_effects_by_shape.Goals as goal

pub returns : goal.returns
returns c = effects_by_shape
