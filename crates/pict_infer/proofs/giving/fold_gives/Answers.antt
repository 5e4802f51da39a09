-- A fold: each way in which it ends.
use Rattle.pict_syntax.specs.PlainTrees.{annotation_of, pat_of}
use Rattle.pict_syntax.specs.Trees.{fold_pat}
use Rattle.pict_types.specs.Plain.{plain}
use Rattle.pict_rules.specs.Rules.{pattern_gives}
use Rattle.pict_rules.specs.Typing.{rule}
use Rattle.pict_infer.specs.Adding.{extension_of}
use Rattle.pict_infer.specs.Giving.{typed_pattern}
use Rattle.pict_infer.specs.Places.{environment_in}
use Rattle.pict_infer.proofs.Forming.{recursive_is}
use Rattle.pict_infer.proofs.Handed.{answer_err}
use Rattle.pict_infer.proofs.GivingAsked.{inner_asked}
use Rattle.pict_infer.proofs.GivingLines.{fold_inner_refused, fold_not_recursive, fold_refused, fold_too_big, fold_typed}
use Rattle.pict_infer.proofs.giving.fold_gives.Goals as goal

pub returns-in_err-has-clause-answer : goal.returns-in_err-has-clause-answer
returns-in_err-has-clause-answer c =
    let e = environment_in c.args.c.now in
    let a = annotation_of c.args.annotation.now in
    let p = pat_of c.args.inner.now in
    let err = c.in_err-has.field-0.0 in
    answer_err (rule e (pattern_gives (fold_pat c.args.span a p))) typed_pattern c.from_residual.result err c.from_residual.ensures.1 (fold_refused e c.args.span a p err c.in_err-has.ensures.answer)

pub returns-in_err-recursive-clause-answer : goal.returns-in_err-recursive-clause-answer
returns-in_err-recursive-clause-answer c =
    let e = environment_in c.args.c.now in
    let a = annotation_of c.args.annotation.now in
    let p = pat_of c.args.inner.now in
    let err = c.in_err-recursive.field-0.0 in
    answer_err (rule e (pattern_gives (fold_pat c.args.span a p))) typed_pattern c.from_residual-in_err-recursive.result err c.from_residual-in_err-recursive.ensures.1
    (fold_not_recursive e c.args.span a p (plain c.in_ok-has.has) err c.in_ok-has.ensures.answer c.in_err-recursive.ensures)

pub unfolded-requires-clause-recursive : goal.unfolded-requires-clause-recursive
unfolded-requires-clause-recursive c = recursive_is (plain c.in_ok-has.has) c.args.span c.in_ok-recursive.ensures

pub returns-in_err-unfolding-clause-answer : goal.returns-in_err-unfolding-clause-answer
returns-in_err-unfolding-clause-answer c =
    let e = environment_in c.args.c.now in
    let a = annotation_of c.args.annotation.now in
    let p = pat_of c.args.inner.now in
    let err = c.in_err-unfolding.field-0.0 in
    answer_err (rule e (pattern_gives (fold_pat c.args.span a p))) typed_pattern c.from_residual-in_err-unfolding.result err c.from_residual-in_err-unfolding.ensures.1
    (fold_too_big e c.args.span a p (plain c.in_ok-has.has) err c.in_ok-has.ensures.answer c.in_ok-recursive.ensures c.in_err-unfolding.ensures.answer)

pub against-requires : goal.against-requires
against-requires c =
    record { right = inner_asked (environment_in c.args.c.now) c.args.span (annotation_of c.args.annotation.now) (pat_of c.args.inner.now) (plain c.in_ok-unfolding.unfolding) c.requires.right c.in_ok-unfolding.ensures.formed }

pub returns-in_err-adds-clause-answer : goal.returns-in_err-adds-clause-answer
returns-in_err-adds-clause-answer c =
    let e = environment_in c.args.c.now in
    let a = annotation_of c.args.annotation.now in
    let p = pat_of c.args.inner.now in
    let err = c.in_err-adds.field-0.0 in
    answer_err (rule e (pattern_gives (fold_pat c.args.span a p))) typed_pattern c.from_residual-in_err-adds.result err c.from_residual-in_err-adds.ensures.1
    (fold_inner_refused e c.args.span a p (plain c.in_ok-has.has) (plain c.in_ok-unfolding.unfolding) err c.in_ok-has.ensures.answer c.in_ok-recursive.ensures c.in_ok-unfolding.ensures.answer c.in_err-adds.ensures.answer)

pub returns-clause-answer : goal.returns-clause-answer
returns-clause-answer c =
    fold_typed (environment_in c.args.c.now) c.args.span (annotation_of c.args.annotation.now) (pat_of c.args.inner.now) (plain c.in_ok-has.has) (plain c.in_ok-unfolding.unfolding) (extension_of c.in_ok-adds.adds)
    c.in_ok-has.ensures.answer c.in_ok-recursive.ensures c.in_ok-unfolding.ensures.answer c.in_ok-adds.ensures.answer
