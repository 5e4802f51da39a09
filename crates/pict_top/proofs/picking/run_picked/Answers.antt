use Rattle.std.proofs.Common.{◌≡◌, ◌+◌, ℕ, List, Err, sym, ap, ◌∙◌, subst, arith}
use Rattle.std.specs.Io.KnownBytes.{Appends}
use Rattle.rand_pcg.specs.Lcg.{Lcg}
use Rattle.pict_heap.specs.HeapState.{HeapState}
use Rattle.pict_machine.specs.declared.event.RunError.TheVariants as broken
use Rattle.pict_outside.specs.Bytes.{AppendsFront}
use Rattle.pict_outside.proofs.Gaining.{keeps_same}
use Rattle.pict_core.specs.Plain.{plain_core}
use Rattle.pict_core.specs.Places.{Place}
use Rattle.pict_core.specs.Step.{Label}
use Rattle.pict_picker.specs.Events.{label_of, trap_of}
use Rattle.pict_picker.specs.Picker.{view_of, heap_of}
use Rattle.pict_top.specs.Changes.{change_of}
use Rattle.pict_top.specs.Notes.{place_of, note_text, notes_in}
use Rattle.pict_top.specs.Picking.{PicksAndShows}
use Rattle.pict_machine.specs.declared.event.End.TheVariants.{Done, Trap}
use Rattle.pict_top.proofs.Picked.{HasPicked, begun, step_right, run_done, run_trapped, leads_of, traps_of}
use Rattle.pict_top.proofs.Recording.{wrote_nothing, picked_finished, picked_ended, picked_on, picked_torn, picked_so_far, picked_nothing, failed_within, rose_since}
use Rattle.pict_top.proofs.picking.run_picked.Goals as goal

pub returns-in-Err-clause-memory : goal.returns-in-Err-clause-memory
returns-in-Err-clause-memory g c is =
    picked_nothing (plain_core c.args.core.now) c.args.seed c.args.fuel _ (change_of g.O.Sink.taken g.O.Sink.faults c.args.out.now c.args.out.now) c.requires.closed c.requires.right (keeps_same _)

pub loop-done-init : goal.loop-done-init
loop-done-init g c =
    let p = plain_core c.args.core.now in
    let v = view_of c.in-Ok.picker in
    let told = g.O.Sink.taken c.args.out.now in
    let Wrote : List Place → List (ℕ × Label) → Type 0 = λ places labels. Appends told told (notes_in c.args.note c.args.names.now places labels) in
    record {
      within = omega arith;
      kept = c.in-Ok.ensures.kept;
      channels = let none = c.in-Ok.ensures.channels in omega (arith, none);
      so_far = subst (λ (h : Lcg). HasPicked p c.args.seed 0 v h Wrote) (sym c.new-chooser.ensures) (begun p c.args.seed v Wrote c.in-Ok.ensures.is c.in-Ok.ensures.stands (wrote_nothing c.args.note c.args.names.now told));
      faults_stay = omega arith;
    }

pub returns-in-None-clause-ran : goal.returns-in-None-clause-ran
returns-in-None-clause-ran g c =
    let s = c.loop-done.invariant.so_far in
    picked_finished (plain_core c.args.core.now) c.args.seed c.args.fuel c.args.note c.args.names.now Done _ s.places s.labels
    (run_done _ _ _ _ _ _ s c.args.fuel c.loop-done.invariant.within (c.pick_place.ensures.none c.in-None.is)) s.wrote

pub step_choice-requires-clause-right : goal.step_choice-requires-clause-right
step_choice-requires-clause-right g c =
    step_right _ _ _ _ _ _ c.loop-done.invariant.so_far (place_of c.in-Some.place) _ c.in-Some.ensures.picked c.in-Some.ensures.some c.requires.closed c.requires.right

pub returns-in-Err-step_choice-clause-memory : goal.returns-in-Err-step_choice-clause-memory
returns-in-Err-step_choice-clause-memory g c is =
    picked_so_far (plain_core c.args.core.now) c.args.seed c.args.fuel c.args.note c.args.names.now c.loop-done.done (view_of c.loop-done.picker) c.loop-done.chooser
    (change_of g.O.Sink.taken g.O.Sink.faults c.args.out.now c.loop-done.out) c.requires.closed c.requires.right c.loop-done.invariant.within c.loop-done.invariant.so_far

pub returns-in-Some-trap-clause-ran : goal.returns-in-Some-trap-clause-ran
returns-in-Some-trap-clause-ran g c =
    let s = c.loop-done.invariant.so_far in
    let did = c.in-Ok-step_choice.did in
    let at = c.in-Some-trap.at in
    picked_finished (plain_core c.args.core.now) c.args.seed c.args.fuel c.args.note c.args.names.now (Trap at) _ s.places s.labels
    (run_trapped _ _ _ _ _ _ s c.args.fuel (place_of c.in-Some.place) _ at c.loop-done-test.true c.in-Some.ensures.picked
    (traps_of (label_of (heap_of c.step_choice.new.self) did) (trap_of did) at s.last (place_of c.in-Some.place) (view_of c.step_choice.new.self) (sym c.in-Some-trap.ensures) (c.in-Ok-step_choice.ensures.ok s.last s.is s.stands))) s.wrote

pub returns-in-Err-write_note-clause-memory : goal.returns-in-Err-write_note-clause-memory
returns-in-Err-write_note-clause-memory g c is =
    let did = c.in-Ok-step_choice.did in
    let place = place_of c.in-Some.place in
    let label = label_of (heap_of c.step_choice.new.self) did in
    let w = view_of c.step_choice.new.self in
    picked_torn (plain_core c.args.core.now) c.args.seed c.args.fuel c.args.note c.args.names.now c.loop-done.done (view_of c.loop-done.picker) w c.loop-done.chooser c.pick_place.new.chooser
    (change_of g.O.Sink.taken g.O.Sink.faults c.args.out.now c.write_note.new.out) (g.O.Sink.taken c.loop-done.out) place label c.loop-done.invariant.so_far c.in-Some.ensures.picked
    (λ C is stands. leads_of label (trap_of did) C place w (sym c.in-None-trap.ensures) (c.in-Ok-step_choice.ensures.ok C is stands)) c.requires.closed c.requires.right c.loop-done-test.true
    (subst (λ (h : HeapState). AppendsFront (g.O.Sink.taken c.loop-done.out) (g.O.Sink.taken c.write_note.new.out) (note_text c.args.note c.args.names.now place (c.loop-done.done + 1) (label_of h did))) c.heap.ensures c.in-Err-write_note.ensures.part)

pub returns-in-Err-write_note-clause-sink : goal.returns-in-Err-write_note-clause-sink
returns-in-Err-write_note-clause-sink g c is =
    let did = c.in-Ok-step_choice.did in
    let place = place_of c.in-Some.place in
    let label = label_of (heap_of c.step_choice.new.self) did in
    let w = view_of c.step_choice.new.self in
    let out = change_of g.O.Sink.taken g.O.Sink.faults c.args.out.now c.write_note.new.out in
    let same : c.in-Err-write_note.error ≡ broken.Sink = cc in
    let failed = c.write_note.ensures.sink (c.in-Err-write_note.is ∙ ap Err same) in
    failed_within (PicksAndShows (plain_core c.args.core.now) c.args.seed c.args.fuel (notes_in c.args.note c.args.names.now)) out (rose_since _ (g.O.Sink.faults c.loop-done.out) _ c.loop-done.invariant.faults_stay failed)
    (picked_torn (plain_core c.args.core.now) c.args.seed c.args.fuel c.args.note c.args.names.now c.loop-done.done (view_of c.loop-done.picker) w c.loop-done.chooser c.pick_place.new.chooser
    out (g.O.Sink.taken c.loop-done.out) place label c.loop-done.invariant.so_far c.in-Some.ensures.picked
    (λ C is stands. leads_of label (trap_of did) C place w (sym c.in-None-trap.ensures) (c.in-Ok-step_choice.ensures.ok C is stands)) c.requires.closed c.requires.right c.loop-done-test.true
    (subst (λ (h : HeapState). AppendsFront (g.O.Sink.taken c.loop-done.out) (g.O.Sink.taken c.write_note.new.out) (note_text c.args.note c.args.names.now place (c.loop-done.done + 1) (label_of h did))) c.heap.ensures c.in-Err-write_note.ensures.part))

pub loop-done-preserved : goal.loop-done-preserved
loop-done-preserved g c =
    let did = c.in-Ok-step_choice.did in
    let place = place_of c.in-Some.place in
    let label = label_of (heap_of c.step_choice.new.self) did in
    let w = view_of c.step_choice.new.self in
    let lt = c.loop-done-test.true in
    record {
      within = omega (arith, lt);
      kept = c.step_choice.ensures.kept;
      channels = omega (arith, c.loop-done.invariant.channels, c.step_choice.ensures.channels);
      so_far = picked_on (plain_core c.args.core.now) c.args.seed c.args.fuel c.args.note c.args.names.now c.loop-done.done (view_of c.loop-done.picker) w c.loop-done.chooser c.pick_place.new.chooser
          (change_of g.O.Sink.taken g.O.Sink.faults c.args.out.now c.write_note.new.out) (g.O.Sink.taken c.loop-done.out) place label c.loop-done.invariant.so_far c.in-Some.ensures.picked
          (λ C is stands. leads_of label (trap_of did) C place w (sym c.in-None-trap.ensures) (c.in-Ok-step_choice.ensures.ok C is stands))
          (subst (λ (h : HeapState). Appends (g.O.Sink.taken c.loop-done.out) (g.O.Sink.taken c.write_note.new.out) (note_text c.args.note c.args.names.now place (c.loop-done.done + 1) (label_of h did))) c.heap.ensures c.in-Ok-write_note.ensures.all);
      faults_stay = omega (arith, c.loop-done.invariant.faults_stay, c.write_note.ensures.faults_stay);
    }

pub returns-clause-ran : goal.returns-clause-ran
returns-clause-ran g c =
    let within = c.loop-done.invariant.within in
    let spent = c.loop-done-test.false in
    picked_ended (plain_core c.args.core.now) c.args.seed c.args.fuel c.args.note c.args.names.now c.loop-done.done (view_of c.loop-done.picker) c.loop-done.chooser c.end_without_fuel.result
    (change_of g.O.Sink.taken g.O.Sink.faults c.args.out.now c.loop-done.out) (omega (arith, within, spent)) c.end_without_fuel.ensures c.loop-done.invariant.so_far
