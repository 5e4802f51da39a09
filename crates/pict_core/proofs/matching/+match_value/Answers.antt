use Rattle.std.proofs.Common.{arith, ◌<◌, length}
use Rattle.pict_core.proofs.Matched.{found_more, uneven_slices, positional_step, labelled_step, match_record, at_label}
use Rattle.pict_core.proofs.matching.+match_value.Goals as goal

pub match_into-returns-in_ok-match_labelled-in-Fields-value : goal.match_into-returns-in_ok-match_labelled-in-Fields-value
match_into-returns-in_ok-match_labelled-in-Fields-value t c =
    match_record _ _ _ _ _ _ _ _ _ _ c.in-Fields.is c.in-Fields-value.is _ _ _ _ c.deref.ensures.value c.deref-in-Fields-value.ensures.value c.deref-then-branch.ensures.value c.deref-then-branch-2.ensures.value
    (rw c.if-branch.true at c.in_ok-match_positional-in-Fields-value.ensures) c.in_ok-match_labelled-in-Fields-value.ensures

pub match_labelled-loop-field-preserved : goal.match_labelled-loop-field-preserved
match_labelled-loop-field-preserved t c =
    let h : c.loop-field.field-index < length c.args.patterns.now = omega arith in
    found_more _ _ _ _ _ _ _ c.loop-field.invariant (labelled_step _ _ _ _ h c.field-item.is)
    (at_label _ _ _ _ _ c.in-Some.ensures (rw c.if-not-branch.false at c.in_ok-match_into-in-Some.ensures))

pub match_positional-returns-then-patterns-values : goal.match_positional-returns-then-patterns-values
match_positional-returns-then-patterns-values t c = uneven_slices _ _ _ c.if-patterns-values.true

pub match_positional-loop-i-preserved : goal.match_positional-loop-i-preserved
match_positional-loop-i-preserved t c =
    let h : c.loop-i.i < length c.args.patterns.now = omega arith in
    let k : c.loop-i.i < length c.args.values.now = omega arith in
    found_more _ _ _ _ _ _ _ c.loop-i.invariant (positional_step _ _ _ _ _ h k c.index-patterns-i.is c.index-values-i.is) (rw c.if-not-branch.false at c.in_ok-match_into.ensures)
