-- The type is expanded, and then it is known.
use Rattle.std.proofs.Common.{rules}
use Rattle.pict_syntax.specs.PlainTrees.{type_of}
use Rattle.pict_types.specs.Plain.{plain}
use Rattle.pict_infer.specs.Environments.{environment_of}
use Rattle.pict_lines.proofs.TypeEnds.{alias_done, alias_refused}
use Rattle.pict_lines.proofs.types.alias.Goals as goal

pub returns-in_err-body-clause-answer : goal.returns-in_err-body-clause-answer
returns-in_err-body-clause-answer c =
    let h = alias_refused (environment_of c.args.env.now) c.args.id.span c.args.id (type_of c.args.t.now) c.in_err-body.field-0.0 c.in_err-body.ensures.answer in
    search (rules, h)

pub returns-clause-answer : goal.returns-clause-answer
returns-clause-answer c =
    alias_done (environment_of c.args.env.now) (environment_of c.define.new.self) c.args.id.span c.args.id (type_of c.args.t.now) (plain c.in_ok-body.body) c.in_ok-body.ensures.answer c.in_ok-define.ensures.known
