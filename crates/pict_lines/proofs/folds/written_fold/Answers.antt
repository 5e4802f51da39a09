-- The expansion, and then the unfolding.
use Rattle.pict_syntax.specs.PlainTrees.{type_of}
use Rattle.pict_types.specs.Plain.{plain}
use Rattle.pict_infer.specs.Environments.{environment_of}
use Rattle.pict_infer.proofs.Handed.{answer_err}
use Rattle.pict_lines.specs.Folds.{annotated_types}
use Rattle.pict_lines.specs.Lines.{fold_written}
use Rattle.pict_lines.proofs.Stepping.{fold_expands, fold_formed, fold_stuck}
use Rattle.pict_lines.proofs.folds.written_fold.Goals as goal

pub returns-in_err-folded-clause-answer : goal.returns-in_err-folded-clause-answer
returns-in_err-folded-clause-answer c =
    let e = environment_of c.args.env.now in
    let err = c.in_err-folded.field-0.0 in
    answer_err (fold_written e (type_of c.args.t.now) c.args.span) annotated_types c.from_residual.result err c.from_residual.ensures.1 (fold_expands e (type_of c.args.t.now) c.args.span err c.in_err-folded.ensures.answer)

pub returns-in-Ok-clause-answer : goal.returns-in-Ok-clause-answer
returns-in-Ok-clause-answer c =
    fold_formed (environment_of c.args.env.now) (type_of c.args.t.now) c.args.span (plain c.in_ok-folded.folded) (plain c.in-Ok.unfolding) c.in_ok-folded.ensures.answer (rw c.type_span.ensures at c.in-Ok.ensures.answer)

pub returns-in-Err-clause-answer : goal.returns-in-Err-clause-answer
returns-in-Err-clause-answer c =
    fold_stuck (environment_of c.args.env.now) (type_of c.args.t.now) c.args.span (plain c.in_ok-folded.folded) c.in-Err.e c.in_ok-folded.ensures.answer (rw c.type_span.ensures at c.in-Err.ensures.answer)
