use Rattle.std.proofs.Common.{sym, subst}
use Rattle.pict_core.specs.Plain.{plain_core}
use Rattle.pict_code.specs.Plain.{plain_code}
use Rattle.pict_reduction.specs.Reached.{NoFreeRunIsWrong}
use Rattle.pict_machine.proofs.Codes.{codes_of_closed}
use Rattle.pict_machine_tests.proofs.Gently.{gently_right}
use Rattle.pict_machine_tests.proofs.replays.answer.Goals as goal

pub replay-requires-clause-code : goal.replay-requires-clause-code
replay-requires-clause-code c = (codes_of_closed (plain_core c.args.process.now) (plain_code c.in_ok-code.code) c.requires.under c.in_ok-code.ensures).0

pub replay-requires-clause-right : goal.replay-requires-clause-right
replay-requires-clause-right c =
    let code = codes_of_closed (plain_core c.args.process.now) (plain_code c.in_ok-code.code) c.requires.under c.in_ok-code.ensures in
    subst NoFreeRunIsWrong (sym code.1) (gently_right (plain_core c.args.process.now) c.requires.under c.requires.gentle)
