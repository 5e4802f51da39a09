use Rattle.pict_network.proofs.Freed.{openings_are_networks}
use Rattle.pict_network.proofs.laws.law_openings_are_networks.Goals as goal

pub returns : goal.returns
returns c = openings_are_networks
