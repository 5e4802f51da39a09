use Rattle.std.proofs.Common.{◌≡◌, ◌+◌, ℕ, [], false, inr, refl, subst, arith}
use Rattle.pict_view.proofs.Runs.{still_right}
use Rattle.pict_machine.specs.Going.{GoesPast}
use Rattle.pict_machine.specs.Machine.{running_view}
use Rattle.pict_machine.proofs.Bounding.{spends_none, spends_on, spends_up}
use Rattle.pict_machine.proofs.Going.{passed_on, has_event, not_true, past_both, stood_of, none_next}
use Rattle.pict_desk.proofs.Making.{keeps_more}
use Rattle.pict_machine.proofs.machine.Machine.skip_quiet.Goals as goal

pub make_steps-requires-clause-right : goal.make_steps-requires-clause-right
make_steps-requires-clause-right c = still_right _ _ _ _ _ (omega arith) c.requires.right (stood_of _ _ _ _ c.loop-step.invariant.past)

pub returns-then-not-has_next-clause-gone : goal.returns-then-not-has_next-clause-gone
returns-then-not-has_next-clause-gone c =
    let n : c.has_next.result ≡ false = cc in
    record {
      between = running_view c.loop-step.self;
      few = omega arith;
      past = c.loop-step.invariant.past;
      then = (refl, inr (none_next (running_view c.loop-step.self) c.has_next.result n c.has_next.ensures));
    }

pub returns-then-not-is_passed-clause-gone : goal.returns-then-not-is_passed-clause-gone
returns-then-not-is_passed-clause-gone c =
    let no : c.is_passed.result ≡ false = cc in
    let made = c.in-Ok.ensures.made in
    let within = c.in-Ok.ensures.within in
    let left = c.loop-step.invariant.within in
    record {
      between = made.between;
      few = omega (arith, within, left);
      past = past_both _ _ _ _ _ _ c.loop-step.invariant.past made.past;
      then = (omega (arith, within, left), λ passed. not_true c.is_passed.result no (c.is_passed.ensures.1 passed), has_event _ _ _ _ c.is_passed.result no c.is_passed.ensures made.then);
    }

pub returns-then-not-is_passed-clause-spends : goal.returns-then-not-is_passed-clause-spends
returns-then-not-is_passed-clause-spends c = spends_on c.args.self.now c.loop-step.self c.make_steps.new.self c.loop-step.step 1 _ c.loop-step.invariant.spends c.in-Ok.ensures.spends (omega arith)

pub returns-then-not-is_passed-clause-spends_passed : goal.returns-then-not-is_passed-clause-spends_passed
returns-then-not-is_passed-clause-spends_passed c =
    spends_on c.args.self.now c.loop-step.self c.make_steps.new.self c.loop-step.step 1 _ c.loop-step.invariant.spends c.in-Ok.ensures.spends (omega arith)

pub loop-step-preserved : goal.loop-step-preserved
loop-step-preserved c =
    let passed = c.is_passed.ensures.0 cc in
    let made = c.in-Ok.ensures.made in
    let within = c.in-Ok.ensures.within in
    let left = c.loop-step.invariant.within in
    let count : c.loop-step.step + c.in-Ok.field-0.quiet + 1 ≡ c.loop-step.step + (c.in-Ok.field-0.quiet + 1) = omega arith in
    record {
      within = omega (arith, within, left);
      kept = c.in-Ok.ensures.kept;
      few = let k = c.in-Ok.ensures.channels in let low = c.loop-step.invariant.few in omega (arith, k, low);
      spends = spends_on c.args.self.now c.loop-step.self c.make_steps.new.self c.loop-step.step 1 _ c.loop-step.invariant.spends c.in-Ok.ensures.spends (omega arith);
      keeps = keeps_more _ _ _ c.loop-step.invariant.keeps c.in-Ok.ensures.keeps;
      past = subst (λ (k : ℕ). GoesPast c.args.passes k (running_view c.args.self.now) (running_view c.make_steps.new.self)) count
          (passed_on _ _ _ made.between _ _ (past_both _ _ _ _ _ _ c.loop-step.invariant.past made.past) passed made.then);
    }

pub loop-step-init : goal.loop-step-init
loop-step-init c = record {
  within = omega arith;
  kept = c.requires.kept;
  few = omega arith;
  spends = spends_none c.args.self.now;
  keeps = search;
  past = λ C is s. (C, [], tt, (refl, refl), is, s);
}

pub returns-in-Err-clause-spends : goal.returns-in-Err-clause-spends
returns-in-Err-clause-spends c = spends_on c.args.self.now c.loop-step.self c.make_steps.new.self c.loop-step.step 1 _ c.loop-step.invariant.spends c.in-Err.ensures.spends (omega arith)

pub returns-in-Err-clause-spends_passed : goal.returns-in-Err-clause-spends_passed
returns-in-Err-clause-spends_passed c = spends_on c.args.self.now c.loop-step.self c.make_steps.new.self c.loop-step.step 1 _ c.loop-step.invariant.spends c.in-Err.ensures.spends (omega arith)

pub returns-then-not-has_next-clause-spends : goal.returns-then-not-has_next-clause-spends
returns-then-not-has_next-clause-spends c = spends_up c.args.self.now c.loop-step.self c.loop-step.step _ c.loop-step.invariant.spends (omega arith)

pub returns-then-not-has_next-clause-spends_passed : goal.returns-then-not-has_next-clause-spends_passed
returns-then-not-has_next-clause-spends_passed c = spends_up c.args.self.now c.loop-step.self c.loop-step.step _ c.loop-step.invariant.spends (omega arith)

pub returns-clause-spends : goal.returns-clause-spends
returns-clause-spends c = spends_up c.args.self.now c.loop-step.self _ _ c.loop-step.invariant.spends (omega arith)

pub returns-clause-spends_passed : goal.returns-clause-spends_passed
returns-clause-spends_passed c = spends_up c.args.self.now c.loop-step.self _ _ c.loop-step.invariant.spends (omega arith)
