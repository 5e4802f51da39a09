use Rattle.pict_bridge.proofs.Growing.{value_grown}
use Rattle.pict_bridge.proofs.laws.law_grown_values.Goals as goal

pub returns : goal.returns
returns c = λ f w u v t k g h. value_grown k g h
