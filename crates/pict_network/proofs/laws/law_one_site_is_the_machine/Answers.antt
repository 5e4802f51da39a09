use Rattle.pict_network.proofs.Alone.{one_site_is_the_machine}
use Rattle.pict_network.proofs.laws.law_one_site_is_the_machine.Goals as goal

pub returns : goal.returns
returns c = one_site_is_the_machine
