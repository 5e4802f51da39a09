-- A written type is expanded, or refused.
use Rattle.std.proofs.Common.{sym, subst}
use Rattle.pict_syntax.specs.PlainTrees.{type_of}
use Rattle.pict_types.specs.Plain.{plain}
use Rattle.pict_normal.specs.Written.{normal_in, stop_in}
use Rattle.pict_infer.specs.Answering.{IsRefused}
use Rattle.pict_infer.specs.Places.{environment_in}
use Rattle.pict_infer.specs.Steps as steps
use Rattle.pict_infer.proofs.Forming.{expanded_ok, expanded_err}
use Rattle.pict_infer.proofs.formed.expanded.Goals as goal

pub returns-in-Ok-clause-answer : goal.returns-in-Ok-clause-answer
returns-in-Ok-clause-answer c =
    expanded_ok (stop_in c.args.c.now (type_of c.args.t.now)) (normal_in c.args.c.now (type_of c.args.t.now)) (plain c.in-Ok.u) c.in-Ok.ensures.allowed c.in-Ok.ensures.normal

pub returns-in-Err-clause-answer : goal.returns-in-Err-clause-answer
returns-in-Err-clause-answer c =
    subst (IsRefused (steps.expanded (environment_in c.args.c.now) (type_of c.args.t.now))) (sym c.refusal.ensures)
    (expanded_err (stop_in c.args.c.now (type_of c.args.t.now)) (normal_in c.args.c.now (type_of c.args.t.now)) c.in-Err.e c.in-Err.ensures.refused)
