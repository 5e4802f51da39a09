-- From steps that are made in one go to steps of a run.
use Rattle.std.proofs.Common.{ℕ, ◌+◌, ◌≤◌, ◌≡◌, Bool, false, [], length, refl, sym, subst, arith, inl}
use Rattle.std.proofs.Math.Nat.{one-mul}
use Rattle.pict_core.specs.Configuration.{Configuration, IsConfiguration}
use Rattle.pict_core.specs.Step.{Label, Quiet, next}
use Rattle.pict_code.specs.Plain.{plain_code}
use Rattle.pict_heap.specs.HeapState.{HeapState, KeepsWords, LosesNoRoom}
use Rattle.pict_queue.specs.QueuesState.{CostsAtMost, LosesNoQueue}
use Rattle.pict_view.specs.Laws.{Simulates}
use Rattle.pict_view.specs.Moved.{Moves}
use Rattle.pict_view.specs.Placed.{next_view}
use Rattle.pict_view.specs.Right.{IsRightFor}
use Rattle.pict_view.specs.View.{View, StandsFor, KeepsApart}
use Rattle.pict_view.proofs.AtPlaces.{views_step}
use Rattle.pict_desk.proofs.MadeOnce.{constants_keep}
use Rattle.pict_desk.proofs.MakingRoom.{keeps_words}
use Rattle.pict_turns.specs.Reserving.{OnlyReserves}
use Rattle.pict_turns.specs.declared.store.Store.{Store}
use Rattle.pict_turns.proofs.Room.{store_still, view_still}
use Rattle.pict_acting.specs.Bounds.{greatest_cost, half_cost, MakesFew}
use Rattle.pict_acting.specs.Opening.{MakesWait}
use Rattle.pict_acting.proofs.Bounding.{total_kept, turn_half}
use Rattle.pict_desk.specs.Constants.{AreConstants}
use Rattle.pict_turns.specs.Stepping.{GivesTurn}
use Rattle.pict_turns.proofs.Given.{given_view}
use Rattle.pict_machine.specs.declared.stepping.Steps.{Steps}
use Rattle.pict_machine.specs.Bounds.{SpendsAtMost}
use Rattle.pict_acting.specs.Chain.{MakesCall}
use Rattle.pict_machine.specs.Going.{GoesPast, MakesSteps, ShowsOrPasses}
use Rattle.pict_machine.specs.Machine.{IsRunning, core_in, running_view, heap_of}
use Rattle.pict_acting.specs.declared.chain.Received.{Received}
use Rattle.pict_turns.specs.declared.event.Shown.{Shown}
use Rattle.pict_turns.specs.declared.event.Shown.TheVariants as shows
use Rattle.pict_machine.specs.declared.machine.Machine.{Machine}
use Rattle.pict_machine.proofs.Going.{one_past}

-- ---- views that move

-- a view that keeps outputs and inputs apart, and stands for some configuration
record Stands (v : View) : Type 0 where
  apart : KeepsApart v
  configuration : Configuration
  is : IsConfiguration configuration
  stands : StandsFor v configuration

simulated : (v u : View) (label : Label) → next_view v ≡ Moves u label → KeepsApart v → (C : Configuration) → IsConfiguration C → StandsFor v C → Simulates v (next C) (Moves u label)
simulated v u label moves apart C is stands = subst (Simulates v (next C)) moves (views_step v C apart is stands)

moved : (v u : View) (label : Label) → next_view v ≡ Moves u label → Stands v → Stands u
moved v u label moves s =
    let x = simulated v u label moves s.apart s.configuration s.is s.stands in
    record { apart = x.1; configuration = x.0.after; is = x.0.is; stands = x.0.stands }

quiet_past : (n : ℕ) (h : HeapState) (v w u : View) → GoesPast false n v w → next_view w ≡ Moves u Quiet → Stands w → GoesPast false (n + 1) v u
quiet_past n h v w u past moves s = one_past false n h shows.Quiet v w u past tt (λ D is stands. (simulated w u Quiet moves s.apart D is stands).0)

-- ---- the call is made

module _ (old : Machine) (new : Store) (received : Received) (kept : IsRunning old) (right : IsRightFor (running_view old) 1) (m : MakesCall (core_in old) old.store new received) where
  abbrev called : Machine
  called = record old { store = new }

  first : Stands (running_view old)
  first = record { apart = kept.apart; configuration = right.configuration; is = right.is; stands = right.stands }

  opened : Stands m.opened
  opened = moved (running_view old) m.opened Quiet m.opens first

  forked : Stands m.forked
  forked = moved m.opened m.forked Quiet m.forks opened

  waiting : Stands m.waiting
  waiting = moved m.forked m.waiting Quiet m.waits forked

  answered : Stands m.answered
  answered = moved m.waiting m.answered Quiet m.answers waiting

  last : Stands (running_view called)
  last = moved m.answered (running_view called) _ m.receives answered

  pub called_kept : IsRunning called
  called_kept = record {
    code = kept.code;
    store = m.store;
    apart = last.apart;
    none_held = λ block held. kept.none_held block (m.no_more block held);
    constants = constants_keep (heap_of old) new.desk.heap m.keeps (plain_code old.code) old.constants.items kept.constants;
  }

  past : GoesPast false 4 (running_view old) m.answered
  past =
      let h = new.desk.heap in
      let v = running_view old in
      let none : GoesPast false 0 v v = λ C is stands. (C, [], tt, (refl, refl), is, stands) in
      quiet_past 3 h v m.waiting m.answered (quiet_past 2 h v m.forked m.waiting (quiet_past 1 h v m.opened m.forked (quiet_past 0 h v v m.opened none m.opens first) m.forks opened) m.waits forked) m.answers waiting

  pub called_steps : (passes : Bool) → MakesSteps passes old called (record { quiet = 4; event = shows.Comm received.channel received.value })
  called_steps passes = record {
    between = m.answered;
    past = past;
    then = inl (record {
      step = λ D is stands. (simulated m.answered (running_view called) _ m.receives answered.apart D is stands).0;
      event = m.pair;
    });
  }

-- ---- a reader waits at a new channel

module _ (old : Machine) (new : Store) (kept : IsRunning old) (right : IsRightFor (running_view old) 1) (m : MakesWait (core_in old) old.store new) where
  abbrev waited : Machine
  waited = record old { store = new }

  begun : Stands (running_view old)
  begun = record { apart = kept.apart; configuration = right.configuration; is = right.is; stands = right.stands }

  channel_made : Stands m.opened
  channel_made = moved (running_view old) m.opened Quiet m.opens begun

  parts_made : Stands m.forked
  parts_made = moved m.opened m.forked Quiet m.forks channel_made

  reader_waits : Stands (running_view waited)
  reader_waits = moved m.forked (running_view waited) Quiet m.waits parts_made

  pub waited_kept : IsRunning waited
  waited_kept = record {
    code = kept.code;
    store = m.store;
    apart = reader_waits.apart;
    none_held = λ block held. kept.none_held block (m.no_more block held);
    constants = constants_keep (heap_of old) new.desk.heap m.keeps (plain_code old.code) old.constants.items kept.constants;
  }

  two_past : GoesPast false 2 (running_view old) m.forked
  two_past =
      let h = new.desk.heap in
      let v = running_view old in
      let none : GoesPast false 0 v v = λ C is stands. (C, [], tt, (refl, refl), is, stands) in
      quiet_past 1 h v m.opened m.forked (quiet_past 0 h v v m.opened none m.opens begun) m.forks channel_made

  pub waited_steps : (passes : Bool) → MakesSteps passes old waited (record { quiet = 2; event = shows.Quiet })
  waited_steps passes = record {
    between = m.forked;
    past = two_past;
    then = inl (record {
      step = λ D is stands. (simulated m.forked (running_view waited) Quiet m.waits parts_made.apart D is stands).0;
      event = tt;
    });
  }

-- one step, with this event
pub one_made : (passes : Bool) (old new : Machine) (event : Shown) → ShowsOrPasses passes (running_view old) new event → MakesSteps passes old new (record { quiet = 0; event = event })
one_made passes old new event has = record { between = running_view old; past = λ C is stands. (C, [], tt, (refl, refl), is, stands); then = has }

-- ---- memory is wanting

module _ (old : Machine) (new : Store) (kept : IsRunning old) (only : OnlyReserves old.store new) where
  abbrev reserved : Machine
  reserved = record old { store = new }

  pub reserved_view : running_view reserved ≡ running_view old
  reserved_view = view_still (core_in old) old.store new only

  pub reserved_keeps : KeepsWords (heap_of old) new.desk.heap
  reserved_keeps = keeps_words (heap_of old) new.desk.heap only.heap

  pub reserved_kept : IsRunning reserved
  reserved_kept = record {
    code = kept.code;
    store = store_still (core_in old) old.store new only kept.store;
    apart = subst KeepsApart (sym reserved_view) kept.apart;
    none_held = λ block held. kept.none_held block (only.no_more block held);
    constants = constants_keep (heap_of old) new.desk.heap reserved_keeps (plain_code old.code) old.constants.items kept.constants;
  }

-- ---- what it costs

pub spends_once : (old : Machine) (new : Store) → CostsAtMost (greatest_cost (core_in old)) old.store.queues new.queues → MakesFew (core_in old) 1 old.store.queues new.queues
    → LosesNoQueue old.store.queues new.queues → LosesNoRoom (heap_of old).room new.desk.heap.room → SpendsAtMost 1 old (record old { store = new })
spends_once old new work blocks queues room =
    let one = one-mul (greatest_cost (core_in old)) in
    let least = work.least in
    let most = work.most in
    record { code = refl; work = record { least = least; most = omega (arith, most, one) }; blocks = blocks; queues = queues; room = room }

-- ---- after who has the turn is known

module _ (old : Machine) (taken : Store) (given : GivesTurn (core_in old) old.store taken) (kept : IsRunning old) where
  abbrev turned : Machine
  turned = record old { store = taken }

  pub turned_view : running_view turned ≡ running_view old
  turned_view = given_view (core_in old) old.store taken given

  pub turned_kept : IsRunning turned
  turned_kept = record {
    code = kept.code;
    store = given.acting.store;
    apart = subst KeepsApart (sym turned_view) kept.apart;
    none_held = λ block held. kept.none_held block (given.no_more block held);
    constants = subst (λ (h : HeapState). AreConstants h (plain_code old.code) old.constants.items) (sym given.heap) kept.constants;
  }

  pub turned_right : IsRightFor (running_view old) 1 → IsRightFor (running_view turned) 1
  turned_right = subst (λ (v : View). IsRightFor v 1) (sym turned_view)

  pub steps_from : (passes : Bool) (new : Store) (steps : Steps) → MakesSteps passes turned (record old { store = new }) steps → MakesSteps passes old (record old { store = new }) steps
  steps_from passes new steps m = record { between = m.between; past = subst (λ (v : View). GoesPast false steps.quiet v m.between) turned_view m.past; then = m.then }

  pub keeps_from : (h : HeapState) → KeepsWords taken.desk.heap h → KeepsWords (heap_of old) h
  keeps_from h = subst (λ (g : HeapState). KeepsWords g h) given.heap

  pub channels_from : (new : Store) → length new.queues.queues ≡ length taken.queues.queues + 1 → length new.queues.queues ≤ length old.store.queues.queues + 1
  channels_from new more = let count = given.queues in omega (arith, more, count)

  pub spends_from : (new : Store) → CostsAtMost (half_cost (core_in old)) taken.queues new.queues → MakesFew (core_in old) 1 taken.queues new.queues → LosesNoQueue taken.queues new.queues
      → LosesNoRoom taken.desk.heap.room new.desk.heap.room → SpendsAtMost 1 old (record old { store = new })
  spends_from new work blocks queues room =
      let half = turn_half (core_in old) taken in
      let turn_least = given.work.least in
      let turn_most = given.work.most in
      let least = work.least in
      let most = work.most in
      let count = given.queues in
      let spare = given.spare_queues in
      spends_once old new (record { least = omega (arith, turn_least, least); most = omega (arith, half, turn_most, most) })
      (record {
        least = λ width. let d = blocks.least width in let e = given.blocks width in omega (arith, d, e);
        few = λ widths distinct. let d = blocks.few widths distinct in let e = total_kept old.store.queues taken.queues widths given.blocks in omega (arith, d, e);
        others = λ width apart. let d = blocks.others width apart in let e = given.blocks width in omega (arith, d, e);
      })
      (omega (arith, count, spare, queues))
      (subst (λ (h : HeapState). LosesNoRoom h.room new.desk.heap.room) given.heap room)
