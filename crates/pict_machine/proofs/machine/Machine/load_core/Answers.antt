use Rattle.std.proofs.Common.{◌≡◌, subst, IfOk}
use Rattle.pict_core.specs.Configuration.{opening}
use Rattle.pict_core.specs.Plain.{plain_core}
use Rattle.pict_code.specs.Plain.{plain_code}
use Rattle.pict_view.specs.View.{StandsFor}
use Rattle.pict_machine.specs.Machine.{core_in, view_of}
use Rattle.pict_machine.proofs.Codes.{codes_of_closed}
use Rattle.pict_machine.proofs.machine.Machine.load_core.Goals as goal

pub load-requires : goal.load-requires
load-requires c = record { code = (codes_of_closed (plain_core c.args.core) (plain_code c.in_ok-code.code) c.requires.closed c.in_ok-code.ensures).0 }

pub returns-clause-stands : goal.returns-clause-stands
returns-clause-stands c =
    let code = codes_of_closed (plain_core c.args.core) (plain_code c.in_ok-code.code) c.requires.closed c.in_ok-code.ensures in
    subst (λ p. IfOk c.load.result (λ m. StandsFor (view_of m) (opening p))) code.1 c.load.ensures.stands

pub returns-clause-code : goal.returns-clause-code
returns-clause-code c =
    let code = codes_of_closed (plain_core c.args.core) (plain_code c.in_ok-code.code) c.requires.closed c.in_ok-code.ensures in
    subst (λ p. IfOk c.load.result (λ m. core_in m ≡ p)) code.1 c.load.ensures.code
