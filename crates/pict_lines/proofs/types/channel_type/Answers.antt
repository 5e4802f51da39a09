-- The type isn't expanded, or it is and is that of a channel, or isn't.
use Rattle.std.proofs.Common.{sym, ◌∙◌}
use Rattle.pict_syntax.specs.PlainTrees.{type_of}
use Rattle.pict_types.specs.Plain.{plain}
use Rattle.pict_infer.specs.Environments.{environment_of}
use Rattle.pict_lines.proofs.TypeEnds.{channel_no, channel_refused, channel_yes}
use Rattle.pict_lines.proofs.types.channel_type.Goals as goal

pub returns-then-is_both : goal.returns-then-is_both
returns-then-is_both c = channel_yes (environment_of c.args.env.now) (type_of c.args.t.now) (plain c.in-Ok.u) c.in-Ok.ensures.answer (sym c.is_both.ensures ∙ c.if-is_both.true)

pub returns-else-is_both : goal.returns-else-is_both
returns-else-is_both c = rw c.type_span.ensures (channel_no (environment_of c.args.env.now) (type_of c.args.t.now) (plain c.in-Ok.u) c.in-Ok.ensures.answer (sym c.is_both.ensures ∙ c.if-is_both.false))

pub returns-in-Err : goal.returns-in-Err
returns-in-Err c = channel_refused (environment_of c.args.env.now) (type_of c.args.t.now) c.in-Err.e c.in-Err.ensures.answer
