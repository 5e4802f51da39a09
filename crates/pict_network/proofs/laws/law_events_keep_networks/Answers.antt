use Rattle.pict_network.proofs.Keeping.{events_keep_networks}
use Rattle.pict_network.proofs.laws.law_events_keep_networks.Goals as goal

pub returns : goal.returns
returns c = events_keep_networks
