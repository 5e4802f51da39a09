use Rattle.pict_network.proofs.Alone.{one_site_runs_oldest_first}
use Rattle.pict_network.proofs.laws.law_one_site_runs_oldest_first.Goals as goal

pub returns : goal.returns
returns c = one_site_runs_oldest_first
