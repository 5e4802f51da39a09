use Rattle.std.proofs.Common.{◌-◌, subst, IfOk}
use Rattle.pict_core.specs.Plain.{plain_core}
use Rattle.pict_code.specs.Plain.{plain_code}
use Rattle.pict_machine.proofs.Codes.{codes_of_closed}
use Rattle.pict_network.specs.Network.{opening_network}
use Rattle.pict_sites.specs.Network.{StandsForNetwork}
use Rattle.pict_top.proofs.siting.load_network.Goals as goal

pub load-requires-clause-code : goal.load-requires-clause-code
load-requires-clause-code c = (codes_of_closed (plain_core c.args.core.now) (plain_code c.in_ok-code.code) c.requires.closed c.in_ok-code.ensures).0

pub returns-clause-stands : goal.returns-clause-stands
returns-clause-stands c =
    let code = codes_of_closed (plain_core c.args.core.now) (plain_code c.in_ok-code.code) c.requires.closed c.in_ok-code.ensures in
    subst (λ p. IfOk c.load.result (λ network. StandsForNetwork network (opening_network (c.args.sites - 1) p))) code.1 c.load.ensures.stands
