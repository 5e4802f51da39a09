use Rattle.std.proofs.Common.{ap}
use Rattle.pict_core.specs.Plain.{plain_val}
use Rattle.pict_code.specs.Plain.{plain_op}
use Rattle.pict_picker.proofs.Acts.{no_other}
use Rattle.pict_picker.proofs.meeting.input_of.Goals as goal

pub returns-in-In : goal.returns-in-In
returns-in-In c = (plain_val c.in-In.field-0, ap plain_op c.in-In.is)

pub returns-in-Serve : goal.returns-in-Serve
returns-in-Serve c = (plain_val c.in-Serve.field-0, ap plain_op c.in-Serve.is)

pub unreachable-requires : goal.unreachable-requires
unreachable-requires c = let i = c.requires in no_other c.args.op.now i.0 i.1 i.2 i.3 i.4 c.in_default.not-In c.in_default.not-Serve
