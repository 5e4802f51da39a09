use Rattle.std.proofs.Common.{map, subst}
use Rattle.pict_core.specs.Step.{next}
use Rattle.pict_reference.specs.Plain.{plain_entry, configuration_of, IsOutcome}
use Rattle.pict_stepper.specs.Steps.{IsTurn}
use Rattle.pict_stepper.proofs.Turns.{turn_taken}
use Rattle.pict_stepper.proofs.run.next.Goals as goal

pub returns-in_ok-step-in-Steps-Some : goal.returns-in_ok-step-in-Steps-Some
returns-in_ok-step-in-Steps-Some c =
    let C = configuration_of c.args.reference.now in
    let D = configuration_of c.next.new.self in
    let es = map plain_entry c.entries.result.now in
    turn_taken C D es (map plain_entry c.entries-in-Steps-Some.result.now) c.in-Steps-Some.turn c.in-Steps-Some.label c.next_stamp-from.result c.in_ok-step-in-Steps-Some.step
    c.entries.ensures c.entries-in-Steps-Some.ensures c.next_stamp-from.ensures
    (subst (IsTurn es) c.in-Steps-Some.is-1 c.in_ok-turn.ensures) c.requires.is
    (subst (λ o. IsOutcome o (next C) C D) c.in-Steps-Some.is-0 (c.in_ok-label.ensures c.requires.is)) c.in_ok-step-in-Steps-Some.ensures
