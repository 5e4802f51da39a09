-- An unfolding within the limits, and one past a limit.
use Rattle.std.proofs.Common.{◌∙◌, ap, sym, subst, Err}
use Rattle.pict_types.specs.Plain.{plain}
use Rattle.pict_types.specs.PlainContext.{plain_context}
use Rattle.pict_types.specs.Recursion.{unfolded}
use Rattle.pict_normal.specs.Normal.{size_stop}
use Rattle.pict_infer.specs.Answering.{IsRefused}
use Rattle.pict_infer.specs.Places.{environment_in}
use Rattle.pict_infer.specs.Steps as steps
use Rattle.pict_infer.proofs.Forming.{expanded_ok, unfolded_err}
use Rattle.pict_infer.proofs.formed.unfolded.Goals as goal
use Rattle.pict_normal.proofs.Expanded.{size_clear}

pub returns-in-Ok-clause-answer : goal.returns-in-Ok-clause-answer
returns-in-Ok-clause-answer c =
    let d = plain_context c.args.c.now in
    let t = unfolded (plain c.args.t.now) in
    expanded_ok (size_stop d t c.args.span) t (plain c.in-Ok.u) (size_clear d t c.args.span c.in-Ok.ensures.within.0 c.in-Ok.ensures.within.1) c.in-Ok.ensures.unfolding

pub returns-in-Err-clause-answer : goal.returns-in-Err-clause-answer
returns-in-Err-clause-answer c =
    subst (IsRefused (steps.unfolded (environment_in c.args.c.now) (plain c.args.t.now) c.args.span)) (sym c.size_refusal.ensures)
    (unfolded_err (plain_context c.args.c.now) (unfolded (plain c.args.t.now)) c.args.span c.in-Err.e (λ h. c.unfold.ensures.too_heavy (c.in-Err.is ∙ ap Err h)) (λ h. c.unfold.ensures.too_high (c.in-Err.is ∙ ap Err h)))
