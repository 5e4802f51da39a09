-- The last positional field is for the answer, or it isn't, or there is none.
use Rattle.std.proofs.Common.{◌≡◌, ◌∙◌, ◌-◌, get_or, length, ap, arith}
use Rattle.pict_types.specs.Plain.{plain}
use Rattle.pict_infer.specs.Environments.{environment_of}
use Rattle.pict_lines.proofs.Answering.{answers_empty, answers_none, answers_some}
use Rattle.pict_lines.proofs.HeadForms.{no_function_here}
use Rattle.pict_lines.proofs.answers.answer_in.Goals as goal

pub returns-then-count-eq0-clause-refused : goal.returns-then-count-eq0-clause-refused
returns-then-count-eq0-clause-refused c = no_function_here _ c.args.at (answers_empty (environment_of c.args.env.now) c.args.r.now (omega arith))

pub returns-in-Some-clause-ok : goal.returns-in-Some-clause-ok
returns-in-Some-clause-ok c =
    let h = rw (c.deref.ensures.value, c.context.ensures.entries) at (rw c.in-Some.is at c.in_ok-u.ensures.some) in
    let n : c.len-count.result ≡ length c.args.r.now.positional.items = omega arith in
    answers_some (environment_of c.args.env.now) c.args.r.now c.index-last.result.now (plain c.in-Some.u) (omega arith) (c.index-last.ensures ∙ ap (λ k. get_or c.args.r.now.positional.items (k - 1) c.index-last.result.now) n) h

pub returns-in-None-clause-refused : goal.returns-in-None-clause-refused
returns-in-None-clause-refused c =
    let h = rw (c.deref.ensures.value, c.context.ensures.entries) at (rw c.in-None.is at c.in_ok-u.ensures.none) in
    let n : c.len-count.result ≡ length c.args.r.now.positional.items = omega arith in
    no_function_here _ c.args.at (answers_none (environment_of c.args.env.now) c.args.r.now c.index-last.result.now (omega arith) (c.index-last.ensures ∙ ap (λ k. get_or c.args.r.now.positional.items (k - 1) c.index-last.result.now) n) h)
