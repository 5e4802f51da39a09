-- A written type argument, expanded or refused.
use Rattle.pict_syntax.specs.PlainTrees.{type_of}
use Rattle.pict_types.specs.Plain.{plain_arg}
use Rattle.pict_normal.specs.Written.{arg_stop_in, normal_arg_in}
use Rattle.pict_lines.proofs.Stepping.{argument_err, argument_ok}
use Rattle.pict_lines.proofs.records.expanded_argument.Goals as goal

pub returns-in-Ok-clause-answer : goal.returns-in-Ok-clause-answer
returns-in-Ok-clause-answer c =
    rw (c.context.ensures.names, c.context.ensures.entries) at (argument_ok (arg_stop_in c.context.result.now (type_of c.args.t.now)) (normal_arg_in c.context.result.now (type_of c.args.t.now)) (plain_arg c.in-Ok.a) c.in-Ok.ensures.allowed c.in-Ok.ensures.normal)

pub returns-in-Err-clause-answer : goal.returns-in-Err-clause-answer
returns-in-Err-clause-answer c =
    rw (c.context.ensures.names, c.context.ensures.entries) at (argument_err (arg_stop_in c.context.result.now (type_of c.args.t.now)) (normal_arg_in c.context.result.now (type_of c.args.t.now)) c.in-Err.e c.refusal.result c.refusal.ensures c.in-Err.ensures.refused)
