use Rattle.pict_network.proofs.Freed.{unions_are_configurations}
use Rattle.pict_network.proofs.laws.law_unions_are_configurations.Goals as goal

pub returns : goal.returns
returns c = unions_are_configurations
