-- A step of a machine that runs, where communications may be passed over: such a one shows nothing.
use Rattle.std.proofs.Common.{◌+◌, ◌≤◌, ◌≡◌, Bool, [], refl, sym, ap, ◌∙◌, subst, ⊎_elim, inl, inr, Result, Ok, Err, IfOk, OnErr}
use Rattle.std.specs.declared.alloc.AllocError.{AllocError}
use Rattle.pict_core.specs.Configuration.{Configuration, IsConfiguration}
use Rattle.pict_core.specs.Step.{Comm, next}
use Rattle.pict_heap.specs.HeapState.{KeepsWords}
use Rattle.pict_queue.specs.QueuesState.{LosesNoQueue}
use Rattle.pict_view.specs.Laws.{Simulates}
use Rattle.pict_view.specs.Moved.{Moves}
use Rattle.pict_view.specs.Placed.{next_view}
use Rattle.pict_view.specs.Right.{IsRightFor}
use Rattle.pict_view.specs.View.{StandsFor}
use Rattle.pict_view.proofs.AtPlaces.{views_step}
use Rattle.pict_turns.specs.Stepping.{GivesTurn, IsStepBy}
use Rattle.pict_turns.specs.declared.store.Store.{Store}
use Rattle.pict_turns.specs.declared.event.Shown.{Shown}
use Rattle.pict_turns.proofs.Given.{given_view, step_of}
use Rattle.pict_meetings.specs.PassedOver.{PassesOver, IsStepOrPassed}
use Rattle.pict_machine.specs.Going.{GoesPast, ShowsOrPasses}
use Rattle.pict_machine.specs.Machine.{core_in, running_view, heap_of, IsRunning}
use Rattle.pict_machine.specs.declared.machine.Machine.{Machine}
use Rattle.pict_machine.proofs.Going.{label_past}
use Rattle.pict_machine.proofs.Steps.{none_held, still_constant, from_old, done_event, grown_queues, step_kept, step_refused, step_queues}

module _ (old : Machine) (taken new : Store) (given : GivesTurn (core_in old) old.store taken) (kept : IsRunning old) (passes : Bool) (r : Result Shown AllocError) where
  abbrev after : Machine
  after = record old { store = new }

  -- ---- a communication that shows nothing

  module _ (p : PassesOver passes (core_in old) taken new r) where
    passed_keeps : KeepsWords (heap_of old) new.desk.heap
    passed_keeps = from_old old taken new given kept p.done.keeps

    passed_moves : (C : Configuration) → IsConfiguration C → StandsFor (running_view old) C → Simulates (running_view old) (next C) (Moves (running_view after) (Comm p.channel p.value))
    passed_moves C is stands =
        subst (Simulates (running_view old) (next C)) (ap next_view (sym (given_view (core_in old) old.store taken given)) ∙ p.done.moves) (views_step (running_view old) C kept.apart is stands)

    passed_kept : IsRightFor (running_view old) 1 → IsRunning after
    passed_kept right = record {
      code = kept.code;
      store = p.done.store;
      apart = (passed_moves right.configuration right.is right.stands).1;
      none_held = none_held old taken new given kept p.done.no_more;
      constants = still_constant old taken new given kept passed_keeps;
    }

    passed_past : GoesPast passes 1 (running_view old) (running_view after)
    passed_past =
        label_past passes 0 (Comm p.channel p.value) (running_view old) (running_view old) (running_view after) (λ C is stands. (C, [], tt, (refl, refl), is, stands))
        (λ m. (p.told, tt)) (λ D is stands. (passed_moves D is stands).0)

  -- ---- either

  pub over_kept : IsRightFor (running_view old) 1 → IsStepOrPassed passes (core_in old) taken new r → IsRunning after
  over_kept right = ⊎_elim (step_kept old taken new given kept right r) (λ p. passed_kept p right)

  pub over_refused : IsStepOrPassed passes (core_in old) taken new r → OnErr r (running_view after ≡ running_view old)
  over_refused = ⊎_elim (step_refused old taken new given kept r) (λ p. subst (λ (x : Result Shown AllocError). OnErr x (running_view after ≡ running_view old)) (sym p.shows) tt)

  pub over_queues : IsStepOrPassed passes (core_in old) taken new r → LosesNoQueue old.store.queues new.queues
  over_queues = ⊎_elim (step_queues old taken new given kept r) (λ p. grown_queues old taken new given kept p.done.no_loss)

  shows_by : (x : Result Shown AllocError) → IsStepBy (core_in old) taken new x → IfOk x (ShowsOrPasses passes (running_view old) after)
  shows_by (Ok e) a = inl (record { step = λ C is stands. step_of (core_in old) old.store taken given new kept.apart C is stands e a; event = done_event old taken new given kept e a })
  shows_by (Err e) a = tt

  pub over_made : IsStepOrPassed passes (core_in old) taken new r → IfOk r (ShowsOrPasses passes (running_view old) after)
  over_made = ⊎_elim (shows_by r) (λ p. subst (λ (x : Result Shown AllocError). IfOk x (ShowsOrPasses passes (running_view old) after)) (sym p.shows) (inr (refl, passed_past p)))
