-- From what an act leaves in a store to the step of what the store stands for.
use Rattle.std.proofs.Common.{ℕ, ◌+◌, ◌≤◌, ◌≡◌, ◌≢◌, List, ◌∷◌, ◌++◌, length, map, Some, refl, sym, ap, ◌∙◌, subst, arith, Option, None, IsSome}
use Rattle.std.specs.List.{AllByRecursion}
use Rattle.pict_syntax.specs.declared.primitive.Primitive.{Primitive}
use Rattle.pict_syntax.specs.declared.span.Span.{Span}
use Rattle.pict_core.specs.Term.{Val, PrimitiveVal, Process, Out}
use Rattle.pict_core.specs.Deed.{leaves, performs}
use Rattle.pict_core.specs.Primitives.{Effect, Leaves, Nothing, Answer, Trap, effect_of}
use Rattle.pict_core.specs.Step.{Label, Quiet, printing}
use Rattle.pict_code.specs.Nodes.{nodes_of}
use Rattle.pict_blocks.specs.Keeping.{kept_words}
use Rattle.pict_heap.specs.HeapState.{value_of, KeepsWords}
use Rattle.pict_prim.specs.Printed.{printed_of}
use Rattle.pict_region.specs.RegionState.{spare}
use Rattle.pict_queue.specs.QueuesState.{QueuesState, IsQueue}
use Rattle.pict_queue.specs.Contents.{contents, HoldsNoMore}
use Rattle.pict_view.specs.Moved.{Moved, Moves, Stops}
use Rattle.pict_view.specs.View.{View}
use Rattle.pict_view.specs.Placed.{next_view}
use Rattle.pict_view.proofs.Rows.{put, act}
use Rattle.pict_blocks.specs.Blocks.{process_of, view_of_contents}
use Rattle.pict_desk.specs.Known.{value_in}
use Rattle.pict_desk.specs.Pairs.{ArePairs}
use Rattle.pict_desk.proofs.Making.{pairs_keep, keeps_more}
use Rattle.pict_turns.specs.Acting.{IsStore, IsDone, HasBlockFor}
use Rattle.pict_turns.specs.Reserving.{OnlyReserves}
use Rattle.pict_turns.specs.Turns.{IsTurn, handing, turn_cost}
use Rattle.pict_turns.specs.Views.{channel_lists, IsBlock, AreWaiting, words_of_turn, turn_words, acting_words, view_with_turn}
use Rattle.pict_turns.specs.declared.store.Store.{Store}
use Rattle.pict_turns.specs.declared.turn.Turn.{Turn}
use Rattle.pict_turns.proofs.Views.{block_same, blocks_stay}
use Rattle.pict_turns.proofs.Rows.{store_by, view_kept, done_by}
use Rattle.pict_turns.proofs.Room.{reserves_nothing, acting_words_still, acting_still, view_still, refused_still, done_after, refused_after}
use Rattle.pict_desk.proofs.MakingRoom.{value_kept}
use Rattle.pict_turns.proofs.Turns.{nobody_turn, nobody_room, cost_nobody, same_words, acting_block}
use Rattle.pict_calls.specs.Calling.{CallsOn}
use Rattle.pict_calls.specs.Finishing.{IsAnswered, IsTurnAfter, HasActed}
use Rattle.pict_calls.proofs.Answering.{HasRoomToAnswer}
use Rattle.pict_turns.specs.Stepping.{Acts}
use Rattle.pict_turns.specs.Shown.{label_shown}
use Rattle.pict_turns.specs.declared.event.Shown.{Shown}
use Rattle.pict_turns.specs.declared.event.Shown.TheVariants as shows

pub some_is : {A : Type 0} (o : Option A) → IsSome o → (x : A) × (o ≡ Some x)
some_is None is = cc
some_is (Some x) is = (x, refl)

-- ---- a step

module _ (core : Process) (old new : Store) (p : Primitive) (v : Val) (at : Span) (e : Effect) (event : Shown)
    (on : CallsOn core old p v at) (is : effect_of p v ≡ Some e) (h : HasActed old new e at event) where
  -- the other ready processes, and the lists of the channels
  rest : List Process
  rest = map (process_of core (value_in new.desk.heap)) (contents old.queues 0)

  lists : List (List Process)
  lists = map (map (process_of core (value_in new.desk.heap))) (channel_lists old.queues)

  -- what the output leaves
  abbrev leave : Label → Leaves → Moved View
  leave label l = put rest lists (Out (PrimitiveVal p) v at) (leaves at label l)

  moved : next_view (view_of_contents core (value_in new.desk.heap) (acting_words core old ∷ contents old.queues 0) (channel_lists old.queues)) ≡ leave (printing e.printed) e.leaves
  unfolding rest lists
  moved =
      ap (act rest lists) (block_same old.desk.heap new.desk.heap h.keeps core (acting_words core old) (acting_block core old on.acting) ∙ on.output)
      ∙ ap (λ o. put rest lists (Out (PrimitiveVal p) v at) (performs at o)) is

  left : (to answer : Val) (r : IsAnswered new.desk.heap to answer at new.turn) → process_of core (value_in new.desk.heap) (kept_words r.kept) ≡ Out to answer at
  left to answer r =
      ap (λ x. Out x (value_in new.desk.heap r.kept.message.0 r.kept.message.1) r.kept.at) r.is.to_is ∙ ap (λ x. Out to x r.kept.at) r.is.message_is ∙ ap (Out to answer) r.is.at_is

  -- by what is left: the step, who has the turn, and a free block for it
  after : (l : Leaves) (label : Label) → l ≢ Trap → IsTurnAfter new.desk.heap l at new.turn
      → leave label l ≡ Moves (view_of_contents core (value_in new.desk.heap) (turn_words core new ++ contents old.queues 0) (channel_lists old.queues)) label
  unfolding rest lists
  after Nothing label other r =
      ap (λ (t : Turn). Moves (view_of_contents core (value_in new.desk.heap) (words_of_turn (nodes_of core) new.desk.values.items t ++ contents old.queues 0) (channel_lists old.queues)) label) (sym r)
  after (Answer to answer) label other r =
      ap (λ (q : Process). Moves (record { ready = q ∷ rest; channels = lists }) label) (sym (left to answer r))
      ∙ ap (λ (t : Turn). Moves (view_of_contents core (value_in new.desk.heap) (words_of_turn (nodes_of core) new.desk.values.items t ++ contents old.queues 0) (channel_lists old.queues)) label) (sym r.turn_is)
  after Trap label other r = absurd (other refl)

  turn_after : (l : Leaves) → l ≢ Trap → IsTurnAfter new.desk.heap l at new.turn → IsTurn core new.desk.heap new.desk.values.items new.turn
  turn_after Nothing other r = nobody_turn core new.desk.heap new.desk.values.items new.turn r
  turn_after (Answer to answer) other r =
      subst (IsTurn core new.desk.heap new.desk.values.items) (sym r.turn_is) (record { kept = r.kept; is = refl; fits = r.is.fits; to = r.is.to_pair; message = r.is.message_pair })
  turn_after Trap other r = absurd (other refl)

  room_after : (l : Leaves) → l ≢ Trap → IsTurnAfter new.desk.heap l at new.turn → HasRoomToAnswer old.queues l → AllByRecursion (HasBlockFor new.queues.region) (turn_words core new)
  room_after Nothing other r free = nobody_room core new new.queues.region r
  room_after (Answer to answer) other r free =
      subst (λ (t : Turn). AllByRecursion (HasBlockFor new.queues.region) (words_of_turn (nodes_of core) new.desk.values.items t)) (sym r.turn_is)
      (subst (λ (q : QueuesState). 1 ≤ spare q.region 9) (sym h.queues) free, tt)
  room_after Trap other r free = absurd (other refl)

  store_after : e.leaves ≢ Trap → HasRoomToAnswer old.queues e.leaves → IsStore core new
  store_after other free =
      let s = on.acting.store in
      store_by core old new s h.keeps (subst (λ (q : QueuesState). IsQueue q 0) (sym h.queues) s.ready)
      (λ queue.
      subst (λ (q : QueuesState). AllByRecursion (IsBlock core new.desk.heap) (contents q queue)) (sym h.queues) (blocks_stay old.desk.heap new.desk.heap h.keeps core (contents old.queues queue) (s.blocks queue)))
      (subst (AreWaiting core) (sym h.queues) s.waiting)
      (subst (λ vs. ArePairs new.desk.heap vs.items) (sym h.values) (pairs_keep old.desk.heap new.desk.heap h.keeps old.desk.values.items s.pairs))
      (ap (λ vs. length vs.items) h.values) (turn_after e.leaves other h.turn) (room_after e.leaves other h.turn free)

  done : (label : Label) → printing e.printed ≡ label → e.leaves ≢ Trap → HasRoomToAnswer old.queues e.leaves → IsDone core old new label
  done label shows other free =
      let same : length new.queues.queues ≡ length old.queues.queues = ap (λ (q : QueuesState). length q.queues) h.queues in
      done_by core old new on.acting h.keeps (turn_words core new ++ contents old.queues 0) (channel_lists old.queues) label
      (moved ∙ ap (λ l. leave l e.leaves) shows ∙ after e.leaves label other h.turn)
      (ap (λ (q : QueuesState). turn_words core new ++ contents q 0) h.queues) (ap channel_lists h.queues)
      (store_after other free) (ap (λ vs. length vs.items) h.values) (omega (arith, same))
      (subst (HoldsNoMore old.queues) (sym h.queues) (λ block held. held))
      (let count = ap (λ (q : QueuesState). length q.queues + q.spare_queues) h.queues in omega (arith, count))

  stops : e.leaves ≡ Trap → next_view (view_with_turn core old) ≡ Stops at
  stops trap = sym (ap next_view (view_kept core old new on.acting h.keeps)) ∙ moved ∙ ap (leave (printing e.printed)) trap

-- an act of the output that has the turn is a step
pub acts_by : (core : Process) (old new : Store) (p : Primitive) (v : Val) (at : Span) (e : Effect) (event : Shown)
    → CallsOn core old p v at → effect_of p v ≡ Some e → HasRoomToAnswer old.queues e.leaves → HasActed old new e at event → Acts core old new event
acts_by core old new p v at e shows.Quiet on is free h = record { done = done core old new p v at e shows.Quiet on is h Quiet (ap printing h.shows.0) h.shows.1 free; event = tt }
acts_by core old new p v at e (shows.Comm channel value) on is free h = absurd h.shows
acts_by core old new p v at e (shows.Print w) on is free h = record {
  done = done core old new p v at e (shows.Print w) on is h (printing (printed_of (value_of new.desk.heap w))) (ap printing h.shows.prints) h.shows.no_trap free;
  event = record { word = h.shows.word; printed = h.shows.some };
}
acts_by core old new p v at e (shows.Trapped place) on is free h = (
  stops core old new p v at e (shows.Trapped place) on is h h.shows.0 ∙ ap Stops (sym h.shows.1),
  refused_still core old new (subst (OnlyReserves old) (sym (h.trap h.shows.0)) (reserves_nothing old)) on.acting.store,
)

-- who has the turn then takes no more to set down than who had it, or than an output of an answer
pub cost_after : (core : Process) (old new : Store) (e : Effect) (at : Span) (event : Shown) → HasActed old new e at event → turn_cost core new ≤ turn_cost core old + 13
cost_after core old new e at event h = by_case e.leaves h.turn h.trap
  where
    by_case : (l : Leaves) → IsTurnAfter new.desk.heap l at new.turn → (l ≡ Trap → new ≡ old) → turn_cost core new ≤ turn_cost core old + 13
    by_case Nothing r trap = let none = cost_nobody core new r in omega (arith, none)
    by_case (Answer to answer) r trap =
        let one : turn_cost core new ≡ 13 = ap (λ (t : Turn). handing (words_of_turn (nodes_of core) new.desk.values.items t)) r.turn_is in omega (arith, one)
    by_case Trap r trap = let same : turn_cost core new ≡ turn_cost core old = ap (turn_cost core) (trap refl) in omega (arith, same)

-- ---- once room is made

module _ (core : Process) (old mid : Store) (r : OnlyReserves old mid) where
  pub calls_still : (p : Primitive) (v : Val) (at : Span) → CallsOn core old p v at → CallsOn core mid p v at
  calls_still p v at on = record {
    acting = acting_still core old mid r on.acting;
    output =
        ap (λ (value : ℕ → ℕ → Val). process_of core value (acting_words core mid)) (value_kept old.desk.heap mid.desk.heap r.heap)
        ∙ ap (process_of core (value_in old.desk.heap)) (acting_words_still core old mid r) ∙ on.output;
  }

  pub acts_after : (last : Store) (event : Shown) → Acts core mid last event → Acts core old last event
  acts_after last shows.Quiet is = record { done = done_after core old mid r last Quiet is.done; event = is.event }
  acts_after last (shows.Comm channel value) is = record { done = done_after core old mid r last (label_shown last.desk.heap (shows.Comm channel value)) is.done; event = is.event }
  acts_after last (shows.Print w) is = record { done = done_after core old mid r last (printing (printed_of (value_of last.desk.heap w))) is.done; event = is.event }
  acts_after last (shows.Trapped at) is = (sym (ap next_view (view_still core old mid r)) ∙ is.0, refused_after core old mid r last is.1)

-- ---- once words are made

pub cost_same : (core : Process) (s n : Store) → n.turn ≡ s.turn → n.desk.values ≡ s.desk.values → turn_cost core n ≡ turn_cost core s
cost_same core s n turn values = ap handing (same_words core s n turn (ap (λ vs. vs.items) values))

pub acted_before : (old mid new : Store) (e : Effect) (at : Span) (event : Shown) → KeepsWords old.desk.heap mid.desk.heap → mid.queues ≡ old.queues → mid.desk.values ≡ old.desk.values → e.leaves ≢ Trap
    → HasActed mid new e at event → HasActed old new e at event
acted_before old mid new e at event keeps queues values other h = record {
  turn = h.turn;
  shows = h.shows;
  queues = h.queues ∙ queues;
  values = h.values ∙ values;
  keeps = keeps_more old.desk.heap mid.desk.heap new.desk.heap keeps h.keeps;
  trap = λ is. absurd (other is);
}
