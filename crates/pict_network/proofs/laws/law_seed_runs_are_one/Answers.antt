use Rattle.pict_network.proofs.Seeds.{seed_runs_are_one}
use Rattle.pict_network.proofs.laws.law_seed_runs_are_one.Goals as goal

pub returns : goal.returns
returns c = seed_runs_are_one
