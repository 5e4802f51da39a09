use Rattle.std.proofs.Common.{rules, [], ◌∷◌, ap, sym, subst, arith}
use Rattle.pict_core.specs.Plain.{plain_core}
use Rattle.pict_core.specs.Configuration.{Ready, opening}
use Rattle.pict_reference.specs.Plain.{configuration_of}
use Rattle.pict_stepper.specs.Steps.{IsOutcome}
use Rattle.pict_stepper.proofs.Following.{Follows, none_yet, one_more, tells_from, ends_beside}
use Rattle.pict_stepper.proofs.run.follow.Goals as goal

pub steps-preserved : goal.steps-preserved
steps-preserved c =
    let p = plain_core c.args.process in
    let C = configuration_of c.steps.last in
    let D = configuration_of c.next.new.reference in
    record {
      few = omega (arith, c.steps-test.true, c.len.ensures, c.in_ok-push-in-Taken.ensures.len);
      follows = subst (λ ts. Follows p ts D) (sym c.in_ok-push-in-Taken.ensures.items)
          (one_more p c.steps.steps.items c.in-Taken.step C D c.steps.invariant.follows (subst (λ o. IsOutcome C o D) c.in-Taken.is c.in_ok-step.ensures));
    }

pub steps-init : goal.steps-init
steps-init c =
    let p = plain_core c.args.process in
    record {
      few = omega arith;
      follows = subst (λ C. Follows p c.new-steps.result.items C) (sym c.in_ok-last.ensures)
          (subst (λ ts. Follows p ts (opening p)) (sym c.new-steps.ensures.items) (none_yet p c.requires.closed));
    }

pub returns-in-Ended : goal.returns-in-Ended
returns-in-Ended c =
    let f = c.steps.invariant.follows in
    record {
      steps = search rules;
      told = tells_from (plain_core c.args.process) _ _ _ f (ap (λ q. record { stamp = 0; mark = Ready; process = q } ∷ []) c.in_ok-copy.ensures);
      few = c.steps.invariant.few;
      ends = search rules;
      divides = λ at e. omega (arith, c.steps-test.true, c.len.ensures);
    }

pub returns : goal.returns
returns c =
    let f = c.steps.invariant.follows in
    record {
      steps = f.leads;
      told = tells_from (plain_core c.args.process) _ _ _ f (ap (λ q. record { stamp = 0; mark = Ready; process = q } ∷ []) c.in_ok-copy.ensures);
      few = c.steps.invariant.few;
      ends = ends_beside _ _ (configuration_of c.steps.last) _ (omega (arith, c.steps-test.false, c.len.ensures, c.steps.invariant.few)) c.end_of-end.ensures.ends;
      divides = λ at e. absurd (c.end_of-end.ensures.no_trap at e);
    }
