-- What a type exposes to is recursive, or it isn't.
use Rattle.std.proofs.Common.{None, ◌∙◌, subst, sym}
use Rattle.pict_types.specs.Plain.{plain}
use Rattle.pict_types.specs.PlainContext.{IsWrittenIn, type_context}
use Rattle.pict_sub.specs.Exposing.{exposure}
use Rattle.pict_infer.specs.Places.{environment_in}
use Rattle.pict_infer.specs.Steps.{fold_unfolded}
use Rattle.pict_infer.proofs.Forming.{recursive_is, changed_or_same_formed, changed_or_same_is}
use Rattle.pict_infer.proofs.Handed.{answer_err}
use Rattle.pict_infer.proofs.PatternLines.{exposed_answer, exposed_not_recursive}
use Rattle.pict_infer.proofs.against.exposed_fold.Goals as goal

pub returns-in_err-recursive-clause-answer : goal.returns-in_err-recursive-clause-answer
returns-in_err-recursive-clause-answer c =
    let e = environment_in c.args.c.now in
    let t = c.args.t.now in
    let err = c.in_err-recursive.field-0.0 in
    let is = c.changed_or_same-folded.ensures ∙ changed_or_same_is (exposure (type_context c.args.c.now) (plain t)) c.in_ok-followed.followed t c.in_ok-followed.ensures.none c.in_ok-followed.ensures.some in
    answer_err (fold_unfolded e None (plain t) c.args.span) plain c.from_residual-in_err-recursive.result err c.from_residual-in_err-recursive.ensures.1
    (exposed_not_recursive e c.args.span (plain t) (plain c.changed_or_same-folded.result.now) err is c.in_err-recursive.ensures)

pub unfolded-requires-clause-recursive : goal.unfolded-requires-clause-recursive
unfolded-requires-clause-recursive c = recursive_is (plain c.changed_or_same-folded.result.now) c.args.span c.in_ok-recursive.ensures

pub unfolded-requires-clause-t : goal.unfolded-requires-clause-t
unfolded-requires-clause-t c =
    subst (IsWrittenIn c.args.c.now) (sym c.changed_or_same-folded.ensures)
    (changed_or_same_formed (IsWrittenIn c.args.c.now) c.in_ok-followed.followed c.args.t.now c.requires.t c.in_ok-followed.ensures.formed)

pub returns-clause-answer : goal.returns-clause-answer
returns-clause-answer c =
    let e = environment_in c.args.c.now in
    let t = c.args.t.now in
    let is = c.changed_or_same-folded.ensures ∙ changed_or_same_is (exposure (type_context c.args.c.now) (plain t)) c.in_ok-followed.followed t c.in_ok-followed.ensures.none c.in_ok-followed.ensures.some in
    exposed_answer e c.args.span (plain t) (plain c.changed_or_same-folded.result.now) c.unfolded.result is c.in_ok-recursive.ensures c.unfolded.ensures.answer
