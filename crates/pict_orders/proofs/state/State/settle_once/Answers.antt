use Rattle.std.proofs.Common.{List, refl, ap, ◌∙◌, map, subst, None}
use Rattle.std.proofs.lemmas.List.{map-append}
use Rattle.pict_shared.specs.declared.held.Held.{Held}
use Rattle.pict_shared.specs.Plain.{plain_held}
use Rattle.pict_orders.specs.Plain.{configuration_of, place_of}
use Rattle.pict_orders.specs.Settling.{FirstQuiet}
use Rattle.pict_orders.proofs.Quietly.{settled_by}
use Rattle.pict_orders.proofs.state.State.settle_once.Goals as goal

pub returns-in_ok-push-in-Some-clause-settles : goal.returns-in_ok-push-in-Some-clause-settles
returns-in_ok-push-in-Some-clause-settles c =
    settled_by (configuration_of c.args.self.now) _ _ _ _ _ _ (subst (λ (l : List Held). FirstQuiet (map plain_held l) c.in_ok-first_quiet.field-0) c.deref.ensures.value c.in_ok-first_quiet.ensures)
    c.in-Some.is (ap (map place_of) c.in_ok-push-in-Some.ensures.items ∙ map-append place_of _ _) c.in_ok-step_at-in-Some.ensures

pub returns-then-not-has_room-clause-settles : goal.returns-then-not-has_room-clause-settles
returns-then-not-has_room-clause-settles c = λ is. (refl, refl, c.has_room.ensures.full c.if-not-has_room.true)

pub returns-in-None-clause-settles : goal.returns-in-None-clause-settles
returns-in-None-clause-settles c = λ is.
    let none = subst (λ (l : List Held). FirstQuiet (map plain_held l) None) c.deref.ensures.value (subst (FirstQuiet (map plain_held c.deref.result.now)) c.in-None.is c.in_ok-first_quiet.ensures) in
    (refl, refl, record { still = none.0; none = none.1 })
