use Rattle.pict_network.proofs.Running.{seeds_run_networks}
use Rattle.pict_network.proofs.laws.law_seeds_run_networks.Goals as goal

pub returns : goal.returns
returns c = seeds_run_networks
