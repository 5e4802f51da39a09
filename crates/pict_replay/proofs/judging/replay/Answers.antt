use Rattle.std.proofs.Common.{◌≡◌, ◌+◌, length, map, sym, ap, ◌∙◌, subst, arith, Ok}
use Rattle.std.proofs.lemmas.List.{get_or_default}
use Rattle.pict_code.specs.Plain.{plain_code}
use Rattle.pict_code.specs.ReadBack.{core_of}
use Rattle.pict_trace.specs.Plain.{plain_line}
use Rattle.pict_picker.specs.Picker.{view_of}
use Rattle.pict_replay.specs.Plain.{place_of}
use Rattle.pict_replay.specs.Least.{AreLeast}
use Rattle.pict_replay.specs.Replayed.{IsFault}
use Rattle.pict_replay.proofs.Onward.{begun, stands_right}
use Rattle.pict_replay.proofs.Rounds.{late_fault, step_fault, step_done, left_fault, all_agree, slice_within}
use Rattle.pict_replay.proofs.judging.replay.Goals as goal

pub loop-done-init : goal.loop-done-init
loop-done-init c = record {
  kept = c.in_ok-picker.ensures.kept;
  channels = let none = c.in_ok-picker.ensures.channels in omega (arith, none);
  within = omega arith;
  so_far = begun (core_of (plain_code c.args.code)) (map plain_line c.args.expected.now) (view_of c.in_ok-picker.picker) c.load.ensures.is c.in_ok-picker.ensures.stands;
}

pub returns-then-is_overdue-clause-no : goal.returns-then-is_overdue-clause-no
returns-then-is_overdue-clause-no c number e =
    let same : c.loop-done.done + 1 ≡ number = cc in
    subst (IsFault (core_of (plain_code c.args.code)) (map place_of c.args.choices.now) (map plain_line c.args.expected.now)) same
    (late_fault _ c.args.choices.now c.args.expected.now c.loop-done.done c.loop-done.used _ c.loop-done.invariant.so_far (omega arith) c.deref.result.now c.is_overdue.result (subst (AreLeast (map plain_line c.args.expected.now)) (sym c.deref.ensures.value) c.in_ok-least.ensures) c.is_overdue.ensures c.if-is_overdue.true)

pub take_choice-requires-clause-right : goal.take_choice-requires-clause-right
take_choice-requires-clause-right c = stands_right _ _ _ _ _ c.loop-done.invariant.so_far c.requires.code.closed c.requires.right

pub returns-then-not-as_given-clause-no : goal.returns-then-not-as_given-clause-no
returns-then-not-as_given-clause-no c number e =
    let same : c.loop-done.done + 1 ≡ number = cc in
    subst (IsFault (core_of (plain_code c.args.code)) (map place_of c.args.choices.now) (map plain_line c.args.expected.now)) same
    (step_fault _ c.args.choices.now c.args.expected.now c.loop-done.done c.loop-done.used _ c.loop-done.invariant.so_far (omega arith) _ (omega arith)
    (c.take_choice.ensures.fails (c.in_ok-as_given.was ∙ ap Ok c.if-not-as_given.true)) (get_or_default c.args.choices.now c.loop-done.done _ _ (omega arith)))

pub loop-done-preserved : goal.loop-done-preserved
loop-done-preserved c = record {
  kept = c.take_choice.ensures.kept;
  channels = omega (arith, c.loop-done.invariant.channels, c.take_choice.ensures.channels);
  within =
      let few = c.loop-done.invariant.within in
      let some = c.count_used-used.ensures.within in
      slice_within c.args.expected.now c.loop-done.used c.count_used-used.result few some;
  so_far = step_done _ c.args.choices.now c.args.expected.now c.loop-done.done c.loop-done.used _ c.loop-done.invariant.so_far (omega arith) _ (omega arith)
      (view_of c.take_choice.new.picker) (c.take_choice.ensures.as_given (c.in_ok-as_given.was ∙ ap Ok c.if-not-as_given.false)) (get_or_default c.args.choices.now c.loop-done.done _ _ (omega arith))
      c.deref.result.now c.is_overdue.result (subst (AreLeast (map plain_line c.args.expected.now)) (sym c.deref.ensures.value) c.in_ok-least.ensures) c.is_overdue.ensures c.if-is_overdue.false c.count_used-used.result c.count_used-used.ensures.after;
}

pub returns-then-used-lines-clause-no : goal.returns-then-used-lines-clause-no
returns-then-used-lines-clause-no c number e =
    let same : length c.args.choices.now + 1 ≡ number = cc in
    subst (IsFault (core_of (plain_code c.args.code)) (map place_of c.args.choices.now) (map plain_line c.args.expected.now)) same
    (left_fault _ c.args.choices.now c.args.expected.now c.loop-done.done c.loop-done.used _ c.loop-done.invariant.so_far (omega arith) (omega arith) (omega arith))

pub returns-clause-yes : goal.returns-clause-yes
returns-clause-yes c e = all_agree _ c.args.choices.now c.args.expected.now c.loop-done.done c.loop-done.used _ c.loop-done.invariant.so_far (omega arith) (omega arith) (omega arith)
