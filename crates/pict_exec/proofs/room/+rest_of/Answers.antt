use Rattle.std.proofs.Common.{ap, arith}
use Rattle.pict_core.specs.Plain.{plain_core, plain_pat, plain_val, core_of}
use Rattle.pict_exec.proofs.Rooms.{input_rest, input_none}
use Rattle.pict_exec.proofs.room.+rest_of.Goals as goal

pub returns-in-In-clause-rest : goal.returns-in-In-clause-rest
returns-in-In-clause-rest t c =
    input_rest (plain_core c.args.core.now) (plain_core (core_of c.in-In.body)) (plain_core c.core-in-In.result.now) c.args.around c.saturating_add.result c.args.left c.in_ok-behind.behind
    (plain_val c.in-In.chan) c.in-In.replicated (plain_pat c.in-In.pattern) (ap plain_core c.in-In.is) (ap plain_core c.core-in-In.ensures)
    (omega (arith, c.variables.ensures, c.saturating_add.ensures)) (omega (arith, c.in_ok-behind.ensures)) c.requires.few c.rest_of-in-In.result c.rest_of-in-In.ensures.rest

pub returns-in-In-clause-none : goal.returns-in-In-clause-none
returns-in-In-clause-none t c none =
    input_none (plain_core c.args.core.now) (plain_core (core_of c.in-In.body)) (plain_core c.core-in-In.result.now) c.args.around c.saturating_add.result c.args.left c.in_ok-behind.behind
    (plain_val c.in-In.chan) c.in-In.replicated (plain_pat c.in-In.pattern) (ap plain_core c.in-In.is) (ap plain_core c.core-in-In.ensures)
    (omega (arith, c.variables.ensures, c.saturating_add.ensures)) (omega (arith, c.in_ok-behind.ensures)) c.requires.few (c.rest_of-in-In.ensures.none none)
