use Rattle.std.proofs.Common.{refl}
use Rattle.std.proofs.lemmas.Option.{slice_get_read}
use Rattle.pict_orders.specs.Plain.{configuration_of}
use Rattle.pict_orders.proofs.Going.{goes_to_full, found_full}
use Rattle.pict_orders.proofs.Trying.{try_steps, try_trap, try_wrong, try_finished}
use Rattle.pict_orders.proofs.search.Search.try_at.Goals as goal

pub returns-then-not-has_room-clause-goes : goal.returns-then-not-has_room-clause-goes
returns-then-not-has_room-clause-goes c = λ p u h there.
    goes_to_full p c.args.self.now _ h
    (found_full p c.args.self.now c.args.number c.index.result.now (configuration_of c.in_ok-state.state) (slice_get_read _ _ _ _ refl c.requires c.index.ensures) c.in_ok-state.ensures
    (c.has_room.ensures.full c.if-not-has_room.true) h)

pub returns-in-Steps-clause-goes : goal.returns-in-Steps-clause-goes
returns-in-Steps-clause-goes c =
    try_steps c.args.self.now c.args.number c.index.result.now (configuration_of c.in_ok-state.state) (configuration_of c.step_at.new.self) c.args.choice c.in_ok-outcome.outcome c.requires c.index.ensures c.in_ok-state.ensures
    c.in_ok-outcome.ensures c.go_on.new.self c.go_on.result c.in-Steps.label c.in-Steps.is c.go_on.ensures.goes

pub returns-in_ok-push-in-Traps-clause-goes : goal.returns-in_ok-push-in-Traps-clause-goes
returns-in_ok-push-in-Traps-clause-goes c =
    try_trap c.args.self.now _ c.args.number c.index.result.now (configuration_of c.in_ok-state.state) (configuration_of c.step_at.new.self)
    (record { vertex = c.args.number; choice = c.args.choice; at = c.in-Traps.at }) c.in_ok-outcome.outcome c.requires c.index.ensures c.in_ok-state.ensures
    c.in_ok-outcome.ensures c.in-Traps.is refl c.in_ok-push-in-Traps.ensures.items refl

pub returns-in-Wrong-clause-goes : goal.returns-in-Wrong-clause-goes
returns-in-Wrong-clause-goes c = λ p u h there.
    try_wrong c.args.self.now c.args.number c.index.result.now (configuration_of c.in_ok-state.state) (configuration_of c.step_at.new.self) c.args.choice c.in_ok-outcome.outcome c.requires c.index.ensures c.in_ok-state.ensures
    c.in_ok-outcome.ensures c.in-Wrong.is p u h

pub returns-in-Finished-clause-goes : goal.returns-in-Finished-clause-goes
returns-in-Finished-clause-goes c = λ p u h there.
    try_finished c.args.self.now c.args.number c.index.result.now (configuration_of c.in_ok-state.state) (configuration_of c.step_at.new.self) c.args.choice c.in_ok-outcome.outcome c.requires c.index.ensures
    c.in_ok-state.ensures c.in_ok-outcome.ensures c.in-Finished.is p u h
