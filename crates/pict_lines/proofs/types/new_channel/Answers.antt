-- The type is that of a channel, and then the channel is known.
use Rattle.std.proofs.Common.{rules}
use Rattle.pict_syntax.specs.PlainTrees.{type_of}
use Rattle.pict_types.specs.Plain.{plain}
use Rattle.pict_infer.specs.Environments.{environment_of}
use Rattle.pict_lines.proofs.TypeEnds.{new_done, new_refused}
use Rattle.pict_lines.proofs.types.new_channel.Goals as goal

pub returns-in_err-has-clause-answer : goal.returns-in_err-has-clause-answer
returns-in_err-has-clause-answer c =
    let h = new_refused (environment_of c.args.env.now) c.args.id.span c.args.id (type_of c.args.t.now) c.in_err-has.field-0.0 c.in_err-has.ensures in
    search (rules, h)

pub returns-clause-answer : goal.returns-clause-answer
returns-clause-answer c =
    new_done (environment_of c.args.env.now) (environment_of c.push_value.new.self) c.args.id.span c.args.id (type_of c.args.t.now) (plain c.in_ok-has.has) c.in_ok-has.ensures c.in_ok-push_value.ensures.known
