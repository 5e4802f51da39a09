-- A step of a machine that runs, by what the step of who has the turn does, and who has the turn set down afterwards.
use Rattle.std.proofs.Common.{ℕ, ◌+◌, ◌≤◌, ◌≡◌, ◌≢◌, List, [], get_or, length, refl, sym, ap, ◌∙◌, subst, arith, ⊎_elim, Result, Ok, Err, IfOk, OnErr}
use Rattle.std.proofs.lemmas.Bool.{cases_eq}
use Rattle.std.specs.declared.alloc.AllocError.{AllocError}
use Rattle.pict_syntax.specs.declared.span.Span.{Span}
use Rattle.pict_core.specs.Configuration.{Configuration, IsConfiguration}
use Rattle.pict_code.specs.Plain.{plain_code}
use Rattle.pict_queue.specs.QueuesState.{IsHeld, LosesNoQueue}
use Rattle.pict_queue.specs.Contents.{contents, KeepsOtherContents, HoldsNoMore}
use Rattle.pict_heap.specs.HeapState.{HeapState, KeepsWords}
use Rattle.pict_view.specs.View.{View, StandsFor, KeepsApart}
use Rattle.pict_view.specs.Right.{IsRightFor}
use Rattle.pict_view.specs.Stepping.{IsStepOf}
use Rattle.pict_region.specs.RegionState.{spare}
use Rattle.pict_prim.specs.Acts.{UsesNeed}
use Rattle.pict_desk.specs.Needs.{no_need}
use Rattle.pict_turns.specs.Acting.{IsStore, HasActing, IsRefused, KeepsSpare}
use Rattle.pict_desk.specs.Room.{KeepsHeap}
use Rattle.pict_turns.specs.Turns.{TakesTurn, TakesOneBlock}
use Rattle.pict_turns.specs.Views.{acting_words, ready_words}
use Rattle.pict_turns.specs.declared.store.Store.{Store}
use Rattle.pict_turns.specs.declared.turn.Turn.TheVariants.{Nobody}
use Rattle.pict_desk.proofs.MakingRoom.{keeps_words}
use Rattle.pict_turns.proofs.Turns.{words_nobody, view_nobody, same_words}
use Rattle.pict_desk.specs.Constants.{AreConstants}
use Rattle.pict_turns.specs.Shown.{label_shown, trap_shown, IsShownOf}
use Rattle.pict_machine.specs.Machine.{core_in, view_of, running_view, heap_of, channels_of, IsMachine, IsRunning, IsUnchanged}
use Rattle.pict_turns.specs.Stepping.{GivesTurn, Acts, IsStepBy}
use Rattle.pict_machine.specs.declared.machine.Machine.{Machine}
use Rattle.pict_turns.specs.declared.event.Shown.{Shown}
use Rattle.pict_turns.specs.declared.event.Shown.TheVariants as shows
use Rattle.pict_turns.proofs.Given.{refused_contents, refused_view, step_of, apart_after, rested_view}
use Rattle.pict_desk.proofs.MadeOnce.{constants_keep}

-- ---- between two calls

module _ (m : Machine) (kept : IsMachine m) where
  pub idle_view : running_view m ≡ view_of m
  idle_view = view_nobody (core_in m) m.store (words_nobody (core_in m) m.store kept.idle)

-- ---- the turn is set down

module _ (m : Machine) (kept : IsRunning m) (new : Store) (heap : new.desk.heap ≡ m.store.desk.heap) (ready : contents new.queues 0 ≡ ready_words (core_in m) m.store)
    (others : KeepsOtherContents m.store.queues new.queues 0) (count : length new.queues.queues ≡ length m.store.queues.queues) where
  abbrev rested : Machine
  rested = record m { store = new }

  pub view_rested : view_of rested ≡ running_view m
  view_rested = rested_view (core_in m) m.store new heap ready others count

  pub machine_rested : IsStore (core_in m) new → new.turn ≡ Nobody → HoldsNoMore m.store.queues new.queues → IsMachine rested
  machine_rested store idle no_more = record {
    running = record {
      code = kept.code;
      store = store;
      apart = subst KeepsApart (sym (view_nobody (core_in m) new (words_nobody (core_in m) new idle) ∙ view_rested)) kept.apart;
      none_held = λ block held. kept.none_held block (no_more block held);
      constants = subst (λ (h : HeapState). AreConstants h (plain_code m.code) m.constants.items) (sym heap) kept.constants;
    };
    idle = idle;
  }

-- ---- a step

module _ (old : Machine) (taken new : Store) (given : GivesTurn (core_in old) old.store taken) (kept : IsRunning old) where
  abbrev after : Machine
  after = record old { store = new }

  pub none_held : HoldsNoMore taken.queues new.queues → (block : ℕ) → ¬ IsHeld new.queues block
  none_held no_more block held = kept.none_held block (given.no_more block (no_more block held))

  -- what was made once is there still
  pub still_constant : KeepsWords (heap_of old) new.desk.heap → AreConstants new.desk.heap (plain_code old.code) old.constants.items
  still_constant keeps = constants_keep (heap_of old) new.desk.heap keeps (plain_code old.code) old.constants.items kept.constants

  pub from_old : KeepsWords taken.desk.heap new.desk.heap → KeepsWords (heap_of old) new.desk.heap
  from_old = subst (λ (h : HeapState). KeepsWords h new.desk.heap) given.heap

  -- ---- a refused step

  still_view : IsRefused (core_in old) taken new → running_view after ≡ running_view old
  still_view = refused_view (core_in old) old.store taken given new

  refused_keeps : IsRefused (core_in old) taken new → KeepsWords (heap_of old) new.desk.heap
  refused_keeps r = from_old (keeps_words taken.desk.heap new.desk.heap r.heap)

  pub still_kept : IsRefused (core_in old) taken new → IsRunning after
  still_kept r = record {
    code = kept.code;
    store = r.store;
    apart = subst KeepsApart (sym (still_view r)) kept.apart;
    none_held = none_held r.no_more;
    constants = still_constant (refused_keeps r);
  }

  still_few : IsRefused (core_in old) taken new → channels_of after ≤ channels_of old + 1
  still_few r = let same = r.queues in let count = given.queues in omega (arith, same, count)

  -- ---- a step that is done

  done_keeps : (e : Shown) → Acts (core_in old) taken new e → KeepsWords (heap_of old) new.desk.heap
  done_keeps shows.Quiet a = from_old a.done.keeps
  done_keeps (shows.Comm channel word) a = from_old a.done.keeps
  done_keeps (shows.Print word) a = from_old a.done.keeps
  done_keeps (shows.Trapped at) a = refused_keeps a.1

  module _ (right : IsRightFor (running_view old) 1) where
    machine_by : (e : Shown) → IsStore (core_in old) new → HoldsNoMore taken.queues new.queues → Acts (core_in old) taken new e → IsRunning after
    machine_by e store no_more a = record {
      code = kept.code;
      store = store;
      apart = apart_after (core_in old) old.store taken given new kept.apart right.configuration right.is right.stands e a;
      none_held = none_held no_more;
      constants = still_constant (done_keeps e a);
    }

    done_kept : (e : Shown) → Acts (core_in old) taken new e → IsRunning after
    done_kept shows.Quiet a = machine_by shows.Quiet a.done.store a.done.no_more a
    done_kept (shows.Comm channel word) a = machine_by (shows.Comm channel word) a.done.store a.done.no_more a
    done_kept (shows.Print word) a = machine_by (shows.Print word) a.done.store a.done.no_more a
    done_kept (shows.Trapped at) a = still_kept a.1

    pub step_kept : (r : Result Shown AllocError) → IsStepBy (core_in old) taken new r → IsRunning after
    step_kept (Ok e) a = done_kept e a
    step_kept (Err e) b = still_kept b

  pub grown : length new.queues.queues ≤ length taken.queues.queues + 1 → channels_of after ≤ channels_of old + 1
  grown more = let count = given.queues in omega (arith, more, count)

  done_few : (e : Shown) → Acts (core_in old) taken new e → channels_of after ≤ channels_of old + 1
  done_few shows.Quiet a = grown a.done.queues
  done_few (shows.Comm channel word) a = grown a.done.queues
  done_few (shows.Print word) a = grown a.done.queues
  done_few (shows.Trapped at) a = still_few a.1

  pub done_event : (e : Shown) → Acts (core_in old) taken new e → IsShownOf new.desk.heap e
  done_event shows.Quiet a = tt
  done_event (shows.Comm channel word) a = a.event
  done_event (shows.Print word) a = a.event
  done_event (shows.Trapped at) a = tt

  -- no queue is lost
  pub grown_queues : LosesNoQueue taken.queues new.queues → LosesNoQueue old.store.queues new.queues
  grown_queues least = let count = given.queues in let left = given.spare_queues in omega (arith, count, left, least)

  refused_queues : IsRefused (core_in old) taken new → LosesNoQueue old.store.queues new.queues
  refused_queues r = let same = r.queues in let more = r.spare.queues in grown_queues (omega (arith, same, more))

  done_queues : (e : Shown) → Acts (core_in old) taken new e → LosesNoQueue old.store.queues new.queues
  done_queues shows.Quiet a = grown_queues a.done.no_loss
  done_queues (shows.Comm channel word) a = grown_queues a.done.no_loss
  done_queues (shows.Print word) a = grown_queues a.done.no_loss
  done_queues (shows.Trapped at) a = refused_queues a.1

  -- ---- both

  pub step_queues : (r : Result Shown AllocError) → IsStepBy (core_in old) taken new r → LosesNoQueue old.store.queues new.queues
  step_queues (Ok e) a = done_queues e a
  step_queues (Err e) b = refused_queues b

  pub step_ok : (r : Result Shown AllocError) → IsStepBy (core_in old) taken new r
      → IfOk r (λ e. (C : Configuration) → IsConfiguration C → StandsFor (running_view old) C → IsStepOf C (label_shown new.desk.heap e) (trap_shown e) (running_view after))
  step_ok (Ok e) a = λ C is stands. step_of (core_in old) old.store taken given new kept.apart C is stands e a
  step_ok (Err e) a = tt

  pub step_event : (r : Result Shown AllocError) → IsStepBy (core_in old) taken new r → IfOk r (IsShownOf new.desk.heap)
  step_event (Ok e) a = done_event e a
  step_event (Err e) a = tt

  pub step_refused : (r : Result Shown AllocError) → IsStepBy (core_in old) taken new r → OnErr r (running_view after ≡ running_view old)
  step_refused (Ok e) b = tt
  step_refused (Err e) b = still_view b

  pub step_keeps : (r : Result Shown AllocError) → IsStepBy (core_in old) taken new r → KeepsWords (heap_of old) new.desk.heap
  step_keeps (Ok e) a = done_keeps e a
  step_keeps (Err e) b = refused_keeps b

  pub step_few : (r : Result Shown AllocError) → IsStepBy (core_in old) taken new r → channels_of after ≤ channels_of old + 1
  step_few (Ok e) a = done_few e a
  step_few (Err e) b = still_few b

-- ---- a step between two calls

-- the turn is taken, who has it acts, and the turn is set down
module _ (old : Machine) (kept : IsMachine old) (taken acted new : Store) (acting : HasActing (core_in old) taken) (t : TakesTurn (core_in old) old.store taken)
    (given : GivesTurn (core_in old) old.store taken) (heap : new.desk.heap ≡ acted.desk.heap) (ready : contents new.queues 0 ≡ ready_words (core_in old) acted)
    (others : KeepsOtherContents acted.queues new.queues 0) (count : length new.queues.queues ≡ length acted.queues.queues) where
  abbrev last : Machine
  last = record old { store = new }

  last_view : view_of last ≡ running_view (record old { store = acted })
  last_view = rested_view (core_in old) acted new heap ready others count

  -- a free block was taken back for who had the turn, and no more
  spare_kept : TakesOneBlock acted.queues new.queues (length (acting_words (core_in old) acted) + 1) → IsRefused (core_in old) taken acted → KeepsSpare old.store new
  spare_kept down r =
      let width = length (acting_words (core_in old) acted) + 1 in
      let same : length (acting_words (core_in old) taken) + 1 ≡ width =
      ap (λ (ws : List (List ℕ)). length (get_or ws 0 []) + 1) (sym (same_words (core_in old) taken acted r.turn r.values)) in
      let freed : spare taken.queues.region width ≡ spare old.store.queues.region width + 1 =
      subst (λ (w : ℕ). spare taken.queues.region w ≡ spare old.store.queues.region w + 1) same t.freed in
      record {
        blocks = λ w. ⊎_elim
            (λ (here : w ≡ width).
            let more = r.spare.blocks width in
            let back = down.own in
            subst (λ (k : ℕ). spare old.store.queues.region k ≤ spare new.queues.region k) (sym here) (omega (arith, freed, more, back)))
            (λ (apart : w ≢ width). let first = t.spare w in let more = r.spare.blocks w in let back = down.others w apart in omega (arith, first, more, back))
            (cases_eq w width);
        queues = let first = t.spare_queues in let more = r.spare.queues in let back = down.queues in omega (arith, first, more, back);
        room = subst (λ (h : HeapState). UsesNeed (heap_of old).room h.room no_need) (sym heap)
            (subst (λ (h : HeapState). UsesNeed h.room acted.desk.heap.room no_need) t.heap r.spare.room);
      }

  unchanged : TakesOneBlock acted.queues new.queues (length (acting_words (core_in old) acted) + 1) → IsRefused (core_in old) taken acted → IsUnchanged old last
  unchanged down r = record {
    code = refl;
    constants = refl;
    queues = count ∙ r.queues ∙ t.queues;
    contents = refused_contents (core_in old) old.store taken acted new acting t r ready others;
    heap = subst (λ (h : HeapState). KeepsHeap (heap_of old) h) (sym heap) (subst (λ (h : HeapState). KeepsHeap h acted.desk.heap) t.heap r.heap);
    view = last_view ∙ still_view old taken acted given kept.running r ∙ idle_view old kept;
    spare = spare_kept down r;
  }

  pub whole_ok : (r : Result Shown AllocError) → IsStepBy (core_in old) taken acted r
      → IfOk r (λ e. (C : Configuration) → IsConfiguration C → StandsFor (view_of old) C → IsStepOf C (label_shown new.desk.heap e) (trap_shown e) (view_of last))
  whole_ok r s =
      subst (λ (h : HeapState). IfOk r (λ e. (C : Configuration) → IsConfiguration C → StandsFor (view_of old) C → IsStepOf C (label_shown h e) (trap_shown e) (view_of last))) (sym heap)
      (subst (λ (v : View). IfOk r (λ e. (C : Configuration) → IsConfiguration C → StandsFor (view_of old) C → IsStepOf C (label_shown acted.desk.heap e) (trap_shown e) v)) (sym last_view)
      (subst (λ (v : View). IfOk r (λ e. (C : Configuration) → IsConfiguration C → StandsFor v C → IsStepOf C (label_shown acted.desk.heap e) (trap_shown e) (running_view (record old { store = acted })))) (idle_view old kept)
      (step_ok old taken acted given kept.running r s)))

  pub whole_event : (r : Result Shown AllocError) → IsStepBy (core_in old) taken acted r → IfOk r (IsShownOf new.desk.heap)
  whole_event r s = subst (λ (h : HeapState). IfOk r (IsShownOf h)) (sym heap) (step_event old taken acted given kept.running r s)

  pub whole_trapped : TakesOneBlock acted.queues new.queues (length (acting_words (core_in old) acted) + 1) → (r : Result Shown AllocError) → IsStepBy (core_in old) taken acted r
      → (at : Span) → r ≡ Ok (shows.Trapped at) → IsUnchanged old last
  whole_trapped down r s at e = let acts : IsStepBy (core_in old) taken acted (Ok (shows.Trapped at)) = subst (IsStepBy (core_in old) taken acted) e s in unchanged down acts.1

  pub whole_refused : TakesOneBlock acted.queues new.queues (length (acting_words (core_in old) acted) + 1) → (r : Result Shown AllocError) → IsStepBy (core_in old) taken acted r
      → OnErr r (IsUnchanged old last)
  whole_refused down (Ok e) b = tt
  whole_refused down (Err e) b = unchanged down b

  pub whole_keeps : (r : Result Shown AllocError) → IsStepBy (core_in old) taken acted r → KeepsWords (heap_of old) new.desk.heap
  whole_keeps r s = subst (λ (h : HeapState). KeepsWords (heap_of old) h) (sym heap) (step_keeps old taken acted given kept.running r s)

  pub whole_queues : TakesOneBlock acted.queues new.queues (length (acting_words (core_in old) acted) + 1) → (r : Result Shown AllocError) → IsStepBy (core_in old) taken acted r
      → LosesNoQueue old.store.queues new.queues
  whole_queues down r s = let least = step_queues old taken acted given kept.running r s in let back = down.queues in omega (arith, least, count, back)

  pub whole_few : (r : Result Shown AllocError) → IsStepBy (core_in old) taken acted r → channels_of last ≤ channels_of old + 1
  whole_few r s = let e = step_few old taken acted given kept.running r s in omega (arith, e, count)

  pub whole_kept : IsStore (core_in old) new → new.turn ≡ Nobody → HoldsNoMore acted.queues new.queues → IsRightFor (view_of old) 1 → (r : Result Shown AllocError) → IsStepBy (core_in old) taken acted r → IsMachine last
  whole_kept store idle no_more right r s =
      machine_rested (record old { store = acted })
      (step_kept old taken acted given kept.running (subst (λ (v : View). IsRightFor v 1) (sym (idle_view old kept)) right) r s)
      new heap ready others count store idle no_more
