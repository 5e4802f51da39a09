use Rattle.std.proofs.Common.{◌≡◌, ◌↔◌, sym, map, subst}
use Rattle.std.specs.Prelude.{IsTrue, IfOk}
use Rattle.std.proofs.lemmas.Bool.{iff_false}
use Rattle.pict_core.specs.Run.{shown}
use Rattle.pict_trace.specs.Plain.{plain_line}
use Rattle.pict_heap.specs.HeapState.{HeapState}
use Rattle.pict_picker.specs.Events.{label_of, trap_of}
use Rattle.pict_picker.specs.Picker.{view_of, heap_of}
use Rattle.pict_replay.specs.Plain.{place_of}
use Rattle.pict_replay.specs.Replayed.{given}
use Rattle.pict_replay.proofs.Plainly.{said, denied}
use Rattle.pict_replay.proofs.Taking.{may_take, taken, not_taken, trapped, nowhere}
use Rattle.pict_replay.proofs.turn.take_choice.Goals as goal

pub returns-then-not-is_place-clause-fails : goal.returns-then-not-is_place-clause-fails
returns-then-not-is_place-clause-fails c e C is stands = nowhere c.args.number C (place_of c.args.choice) (map plain_line c.args.unused.now) (iff_false (c.is_place.ensures C stands) c.if-not-is_place.true)

pub step_choice-requires-clause-right : goal.step_choice-requires-clause-right
step_choice-requires-clause-right c =
    may_take (view_of c.args.picker.now) (place_of c.args.choice) c.requires.right (λ C stands. (c.is_place.ensures C stands).0 c.if-not-is_place.false)

pub returns-in-Some-clause-fails : goal.returns-in-Some-clause-fails
returns-in-Some-clause-fails c e C is stands =
    let did = c.in_ok-did.did in
    trapped c.args.number C (place_of c.args.choice) (map plain_line c.args.unused.now) (label_of (heap_of c.step_choice.new.self) did) (trap_of did) c.in-Some.field-0 (view_of c.step_choice.new.self)
    (sym c.in-Some.ensures) (c.in_ok-did.ensures.ok C is stands)

pub returns-in-None-clause-as_given : goal.returns-in-None-clause-as_given
returns-in-None-clause-as_given c e C is stands =
    let did = c.in_ok-did.did in
    let h = heap_of c.step_choice.new.self in
    let lines = map plain_line c.args.unused.now in
    let tested = subst (λ (x : HeapState). IfOk c.shows_given.result (λ same. IsTrue same ↔ (shown c.args.number (label_of x did) ≡ given c.args.number lines))) c.heap.ensures c.shows_given.ensures in
    taken c.args.number C (place_of c.args.choice) lines (label_of h did) (trap_of did) (view_of c.step_choice.new.self) (sym c.in-None.ensures) (c.in_ok-did.ensures.ok C is stands)
    ((c.is_place.ensures C stands).0 c.if-not-is_place.false) (said c.shows_given.result (shown c.args.number (label_of h did) ≡ given c.args.number lines) tested e)

pub returns-in-None-clause-fails : goal.returns-in-None-clause-fails
returns-in-None-clause-fails c e C is stands =
    let did = c.in_ok-did.did in
    let h = heap_of c.step_choice.new.self in
    let lines = map plain_line c.args.unused.now in
    let tested = subst (λ (x : HeapState). IfOk c.shows_given.result (λ same. IsTrue same ↔ (shown c.args.number (label_of x did) ≡ given c.args.number lines))) c.heap.ensures c.shows_given.ensures in
    not_taken c.args.number C (place_of c.args.choice) lines (label_of h did) (trap_of did) (view_of c.step_choice.new.self) (sym c.in-None.ensures) (c.in_ok-did.ensures.ok C is stands)
    (denied c.shows_given.result (shown c.args.number (label_of h did) ≡ given c.args.number lines) tested e)
