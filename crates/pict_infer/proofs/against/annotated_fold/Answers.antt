-- The annotation of a fold: each way in which it ends.
use Rattle.std.proofs.Common.{Some}
use Rattle.pict_syntax.specs.PlainTrees.{type_of}
use Rattle.pict_types.specs.Plain.{plain}
use Rattle.pict_infer.specs.Places.{environment_in}
use Rattle.pict_infer.specs.Steps.{fold_unfolded}
use Rattle.pict_infer.proofs.Forming.{recursive_is}
use Rattle.pict_infer.proofs.Handed.{answer_err}
use Rattle.pict_infer.proofs.PatternLines.{fold_answer, fold_not_below, fold_not_recursive, fold_refused}
use Rattle.pict_infer.proofs.against.annotated_fold.Goals as goal

pub returns-in_err-folded-clause-answer : goal.returns-in_err-folded-clause-answer
returns-in_err-folded-clause-answer c =
    let e = environment_in c.args.c.now in
    let a = type_of c.args.annotation.now in
    let t = plain c.args.t.now in
    let err = c.in_err-folded.field-0.0 in
    answer_err (fold_unfolded e (Some a) t c.args.span) plain c.from_residual.result err c.from_residual.ensures.1
    (fold_refused e c.args.span a t err c.in_err-folded.ensures.answer)

pub returns-in_err-recursive-clause-answer : goal.returns-in_err-recursive-clause-answer
returns-in_err-recursive-clause-answer c =
    let e = environment_in c.args.c.now in
    let a = type_of c.args.annotation.now in
    let t = plain c.args.t.now in
    let err = c.in_err-recursive.field-0.0 in
    answer_err (fold_unfolded e (Some a) t c.args.span) plain c.from_residual-in_err-recursive.result err c.from_residual-in_err-recursive.ensures.1
    (fold_not_recursive e c.args.span a t (plain c.in_ok-folded.folded) err c.in_ok-folded.ensures.answer c.in_err-recursive.ensures)

pub returns-in_err-below-clause-answer : goal.returns-in_err-below-clause-answer
returns-in_err-below-clause-answer c =
    let e = environment_in c.args.c.now in
    let a = type_of c.args.annotation.now in
    let t = plain c.args.t.now in
    let err = c.in_err-below.field-0.0 in
    answer_err (fold_unfolded e (Some a) t c.args.span) plain c.from_residual-in_err-below.result err c.from_residual-in_err-below.ensures.1
    (fold_not_below e c.args.span a t (plain c.in_ok-folded.folded) err c.in_ok-folded.ensures.answer c.in_ok-recursive.ensures c.in_err-below.ensures)

pub unfolded-requires-clause-recursive : goal.unfolded-requires-clause-recursive
unfolded-requires-clause-recursive c = recursive_is (plain c.in_ok-folded.folded) c.args.span c.in_ok-recursive.ensures

pub returns-clause-answer : goal.returns-clause-answer
returns-clause-answer c =
    fold_answer (environment_in c.args.c.now) c.args.span (type_of c.args.annotation.now) (plain c.args.t.now) (plain c.in_ok-folded.folded) c.unfolded.result
    c.in_ok-folded.ensures.answer c.in_ok-recursive.ensures c.in_ok-below.ensures c.unfolded.ensures.answer
