use Rattle.std.proofs.Common.{length, take, subst}
use Rattle.pict_web.specs.Told.{IsCopied}
use Rattle.pict_web.specs.Stepped.{steps_of}
use Rattle.pict_web.proofs.Telling.{told_in, told_none}
use Rattle.pict_web.proofs.steps.pict_web_steps.Goals as goal

pub returns-in-Ok-clause-stepped : goal.returns-in-Ok-clause-stepped
returns-in-Ok-clause-stepped c =
    let out = c.hand_over.new.out in
    let printed = c.hand_over.new.lengths.printed in
    let copied = subst (λ lines. IsCopied lines (length out) c.hand_over.result (take printed out)) c.deref.ensures.value c.hand_over.ensures.copied in
    told_in steps_of c.args.bare _ c.in-Ok.lines.items out printed c.hand_over.result c.number.result c.number.ensures c.in-Ok.ensures copied

pub returns-in-Err-clause-stepped : goal.returns-in-Err-clause-stepped
returns-in-Err-clause-stepped c = told_none steps_of c.args.bare _ _ c.in-Err.status _ c.number-in-Err.ensures c.in-Err.ensures
