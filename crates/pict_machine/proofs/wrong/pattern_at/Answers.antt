use Rattle.pict_meetings.proofs.Ops.{is_in_op, is_serve_op, is_input_op}
use Rattle.pict_machine.proofs.Asking.{same_pattern}
use Rattle.pict_machine.proofs.wrong.pattern_at.Goals as goal

pub returns-in-In : goal.returns-in-In
returns-in-In c replicated pattern part i =
    same_pattern (is_in_op c.args.code.now c.args.number c.index-code-number.result c.requires.inside c.index-code-number.is c.in-In.field-0 c.in-In.pattern c.in-In.field-2 c.in-In.is) i

pub returns-in-Serve : goal.returns-in-Serve
returns-in-Serve c replicated pattern part i =
    same_pattern (is_serve_op c.args.code.now c.args.number c.index-code-number.result c.requires.inside c.index-code-number.is c.in-Serve.field-0 c.in-Serve.pattern c.in-Serve.field-2 c.in-Serve.is) i

pub unreachable-requires : goal.unreachable-requires
unreachable-requires c =
    let i = c.requires.input in
    is_input_op c.args.code.now c.args.number c.index-code-number.result c.requires.inside c.index-code-number.is i.0 i.1 i.2 i.3 c.in_default.not-In c.in_default.not-Serve
