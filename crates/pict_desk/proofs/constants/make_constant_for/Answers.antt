use Rattle.std.proofs.Common.{ap}
use Rattle.pict_code.specs.Plain.{plain_op}
use Rattle.pict_core.specs.Plain.{plain_val}
use Rattle.pict_desk.proofs.constants.make_constant_for.Goals as goal

pub make_constant-requires : goal.make_constant-requires
make_constant-requires c = record { over = c.requires.over (plain_val c.in-Out.field-0) (plain_val c.in-Out.message) c.in-Out.field-2 (ap plain_op c.in-Out.is) }
