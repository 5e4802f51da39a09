use Rattle.pict_network.proofs.Seeds.{seeds_choose_runs}
use Rattle.pict_network.proofs.laws.law_seeds_choose_runs.Goals as goal

pub returns : goal.returns
returns c = seeds_choose_runs
