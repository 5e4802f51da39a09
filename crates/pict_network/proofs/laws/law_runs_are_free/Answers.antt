use Rattle.pict_network.proofs.Running.{runs_are_free}
use Rattle.pict_network.proofs.laws.law_runs_are_free.Goals as goal

pub returns : goal.returns
returns c = runs_are_free
