-- From what the step of who has the turn does to what the machine stands for.
use Rattle.std.proofs.Common.{ℕ, map, ◌<◌, ◌≤◌, ◌^◌, ◌==◌, Bool, true, false, cond, ◌+◌, ◌-◌, ◌≡◌, ◌≢◌, List, [], ◌∷◌, ◌++◌, length, refl, sym, ap, ◌∙◌, subst, arith, Some, inl, inr, ◌⊎◌, ⊎_elim}
use Rattle.std.proofs.lemmas.Bool.{cases_eq}
use Rattle.std.proofs.lemmas.Bool.Decides.{nat_tests}
use Rattle.std.specs.List.{slice_get}
use Rattle.pict_syntax.specs.declared.span.Span.{Span}
use Rattle.pict_core.specs.Term.{Val, Process}
use Rattle.pict_core.specs.Configuration.{Configuration, IsConfiguration}
use Rattle.pict_core.specs.Step.{Label, Traps, next}
use Rattle.pict_code.specs.Instruction.{Op, Node as AnyNode}
use Rattle.pict_code.specs.Nodes.{nodes_of}
use Rattle.pict_code.specs.Plain.{plain_node}
use Rattle.pict_code.specs.declared.instruction.Node.{Node}
use Rattle.pict_region.specs.RegionState.{spare}
use Rattle.pict_queue.specs.QueuesState.{IsQueue, CostsAtMost}
use Rattle.pict_queue.specs.Contents.{contents, KeepsAllContents, KeepsOtherContents}
use Rattle.pict_heap.specs.HeapState.{HeapState}
use Rattle.pict_blocks.specs.Blocks.{process_of, view_of_contents}
use Rattle.pict_view.specs.View.{View, StandsFor, KeepsApart}
use Rattle.pict_desk.specs.Known.{value_in}
use Rattle.pict_view.specs.Moved.{Moves, Stops}
use Rattle.pict_view.specs.Placed.{next_view}
use Rattle.pict_view.specs.Laws.{Simulates}
use Rattle.pict_view.specs.Right.{IsRightFor}
use Rattle.pict_view.specs.Stepping.{IsStepOf}
use Rattle.pict_view.proofs.AtPlaces.{views_step}
use Rattle.pict_turns.specs.Acting.{IsStore, HasActing, ActsBy, IsDone, IsRefused, IsRight}
use Rattle.pict_desk.specs.Code.{core_in, IsCode, HasFrame}
use Rattle.pict_blocks.specs.Parts.{block_width}
use Rattle.pict_turns.specs.Turns.{TakesTurn, turn_cost}
use Rattle.pict_turns.specs.Widths.{how_many}
use Rattle.pict_turns.specs.Views.{view_of, view_with_turn, channel_lists, turn_words, acting_words, ready_words}
use Rattle.pict_turns.specs.declared.store.Store.{Store}
use Rattle.pict_turns.specs.declared.turn.Turn.TheVariants as turn
use Rattle.pict_desk.proofs.MakingRoom.{value_kept}
use Rattle.pict_turns.proofs.Rows.{channels_stay}
use Rattle.pict_turns.proofs.Taking.{some_acts}
use Rattle.pict_turns.proofs.Turns.{words_nobody, ready_nobody, ready_is as words_ready, view_nobody, view_is, same_words, acts_node, acts_wide, node_inside, wide_inside, node_width, wide_width}
use Rattle.pict_turns.specs.Shown.{label_shown, trap_shown}
use Rattle.pict_turns.specs.Needs.{turn_widths}
use Rattle.pict_turns.specs.Stepping.{GivesTurn, Acts, MayAct}
use Rattle.pict_turns.specs.declared.event.Shown.{Shown}
use Rattle.pict_turns.specs.declared.event.Shown.TheVariants as shows

-- ---- somebody has the turn

-- who had it has it still
pub turn_given : (core : Process) (s : Store) → IsStore core s → s.turn ≢ turn.Nobody → GivesTurn core s s
turn_given core s store some = record {
  acting = some_acts core s store some;
  ready = refl;
  others = λ queue apart. refl;
  queues = refl;
  spare_queues = refl;
  heap = refl;
  no_more = λ block held. held;
  blocks = λ width. refl;
  spare = λ width. omega arith;
  freed = λ width. omega arith;
  work = record { least = omega arith; most = omega arith };
}

-- the first of queue 0 has it
module _ (core : Process) (s taken : Store) (idle : s.turn ≡ turn.Nobody) (acting : HasActing core taken) (t : TakesTurn core s taken) where
  -- nobody had it
  none_before : turn_widths core s ≡ []
  none_before = ap (map (λ (words : List ℕ). length words + 1)) (words_nobody core s idle)

  one_after : turn_widths core taken ≡ (length (acting_words core taken) + 1) ∷ []
  one_after = ap (map (λ (words : List ℕ). length words + 1)) acting.has

  first_freed : (width : ℕ) → spare s.queues.region width + how_many width (turn_widths core taken) ≤ spare taken.queues.region width + how_many width (turn_widths core s)
  first_freed width =
      let before = ap (how_many width) none_before in
      let after = ap (how_many width) one_after in
      let low = by_side (width == length (acting_words core taken) + 1) refl in
      omega (arith, before, after, low)
    where
      by_side : (b : Bool) → (width == length (acting_words core taken) + 1) ≡ b
          → spare s.queues.region width + how_many width ((length (acting_words core taken) + 1) ∷ []) ≤ spare taken.queues.region width
      by_side b test = subst (λ (c : Bool). spare s.queues.region width + (cond c 1 0 + 0) ≤ spare taken.queues.region width) (sym test) (one b test)
        where
          one : (c : Bool) → (width == length (acting_words core taken) + 1) ≡ c → spare s.queues.region width + (cond c 1 0 + 0) ≤ spare taken.queues.region width
          one false e = let more = t.spare width in omega (arith, more)
          one true e =
              let here : width ≡ length (acting_words core taken) + 1 = grind (arith, nat_tests) in
              let f = t.freed in
              subst (λ (k : ℕ). spare s.queues.region k + (1 + 0) ≤ spare taken.queues.region k) (sym here) (omega (arith, f))

  pub first_given : CostsAtMost (turn_cost core taken) s.queues taken.queues → GivesTurn core s taken
  first_given work = record {
    acting = acting;
    ready = words_ready core taken (acting_words core taken) acting.has ∙ sym t.first ∙ sym (ready_nobody core s (words_nobody core s idle));
    others = t.others;
    queues = t.queues;
    spare_queues = t.spare_queues;
    heap = t.heap;
    no_more = t.no_more;
    blocks = t.blocks;
    spare = t.spare;
    freed = first_freed;
    work = work;
  }

-- the store stands for what it stood for
pub given_view : (core : Process) (s taken : Store) → GivesTurn core s taken → view_with_turn core taken ≡ view_with_turn core s
given_view core s taken g =
    ap (λ (h : HeapState). view_of_contents core (value_in h) (ready_words core taken) (channel_lists taken.queues)) g.heap
    ∙ ap (λ (ready : List (List ℕ)). view_of_contents core (value_in s.desk.heap) ready (channel_lists taken.queues)) g.ready
    ∙ ap (view_of_contents core (value_in s.desk.heap) (ready_words core s)) (channels_stay s.queues taken.queues g.others g.queues)

-- the node that has the turn
module _ (core : Process) (s : Store) (acting : HasActing core s) (number : ℕ) where
  pub node_low : (s.turn ≡ turn.Node number) ⊎ ((pair : ℕ × ℕ) × (s.turn ≡ turn.Wide number pair)) → number < length (nodes_of core)
  node_low (inl e) = node_inside core s acting number e
  node_low (inr e) = wide_inside core s acting number e.0 e.1

  pub number_wide : (s.turn ≡ turn.Node number) ⊎ ((pair : ℕ × ℕ) × (s.turn ≡ turn.Wide number pair)) → (frame : List ℕ) → HasFrame (nodes_of core) number frame
      → length (acting_words core s) + 1 ≡ block_width frame
  number_wide (inl e) = node_width core s acting number e
  number_wide (inr e) = wide_width core s acting number e.0 e.1

  pub number_acts : (s.turn ≡ turn.Node number) ⊎ ((pair : ℕ × ℕ) × (s.turn ≡ turn.Wide number pair)) → (node : AnyNode) (op : Op) → slice_get (nodes_of core) number ≡ Some node
      → node.op ≡ op → ActsBy core s op
  number_acts (inl e) = acts_node core s acting number e
  number_acts (inr e) = acts_wide core s acting number e.0 e.1

-- somebody is ready: where nobody has the turn, queue 0 has a block
pub some_ready : (core : Process) (s : Store) → s.turn ≡ turn.Nobody → (view_with_turn core s).ready ≢ [] → contents s.queues 0 ≢ []
some_ready core s idle ready none =
    ready (ap (λ (v : View). v.ready) (view_nobody core s (words_nobody core s idle)) ∙ ap (map (process_of core (value_in s.desk.heap))) none)

pub acting_ready : (core : Process) (s : Store) → HasActing core s → (view_with_turn core s).ready ≢ []
acting_ready core s a none =
    let e : process_of core (value_in s.desk.heap) (acting_words core s) ∷ map (process_of core (value_in s.desk.heap)) (contents s.queues 0) ≡ [] =
    sym (ap (λ (v : View). v.ready) (view_is core s (acting_words core s) a.has)) ∙ none in
    cc

-- ---- a step

module _ (core : Process) (s taken : Store) (given : GivesTurn core s taken) where
  -- a step that some configuration takes rightly is right
  pub right_taken : KeepsApart (view_with_turn core s) → IsRightFor (view_with_turn core s) 1 → IsRight core taken
  right_taken held right wrong =
      right.right 0 [] right.configuration (omega arith) (refl, refl)
      (subst (Simulates (view_with_turn core s) (next right.configuration)) (ap next_view (sym (given_view core s taken given)) ∙ wrong) (views_step (view_with_turn core s) right.configuration held right.is right.stands))

  module _ (new : Store) where
    -- ---- a refused step

    -- the store stands for the same still
    pub refused_view : IsRefused core taken new → view_with_turn core new ≡ view_with_turn core s
    refused_view r =
        ap (λ (value : ℕ → ℕ → Val). view_of_contents core value (ready_words core new) (channel_lists new.queues)) (value_kept taken.desk.heap new.desk.heap r.heap)
        ∙ ap (λ (words : List (List ℕ)). view_of_contents core (value_in taken.desk.heap) (words ++ contents new.queues 0) (channel_lists new.queues)) (same_words core taken new r.turn r.values)
        ∙ ap (λ (rest : List (List ℕ)). view_of_contents core (value_in taken.desk.heap) (turn_words core taken ++ rest) (channel_lists new.queues)) (r.contents 0)
        ∙ ap (view_of_contents core (value_in taken.desk.heap) (ready_words core taken)) (channels_stay taken.queues new.queues (λ queue apart. r.contents queue) r.queues)
        ∙ given_view core s taken given

    -- ---- a step that is done

    module _ (held : KeepsApart (view_with_turn core s)) (C : Configuration) (is : IsConfiguration C) (stands : StandsFor (view_with_turn core s) C) where
      moved : (label : Label) → IsDone core taken new label → Simulates (view_with_turn core s) (next C) (Moves (view_with_turn core new) label)
      moved label d = subst (Simulates (view_with_turn core s) (next C)) (ap next_view (sym (given_view core s taken given)) ∙ d.moves) (views_step (view_with_turn core s) C held is stands)

      stopped : (at : Span) → next_view (view_with_turn core taken) ≡ Stops at → next C ≡ Traps at
      stopped at e = subst (Simulates (view_with_turn core s) (next C)) (ap next_view (sym (given_view core s taken given)) ∙ e) (views_step (view_with_turn core s) C held is stands)

      pub step_of : (e : Shown) → Acts core taken new e → IsStepOf C (label_shown new.desk.heap e) (trap_shown e) (view_with_turn core new)
      step_of shows.Quiet a = (moved _ a.done).0
      step_of (shows.Comm channel word) a = (moved _ a.done).0
      step_of (shows.Print word) a = (moved _ a.done).0
      step_of (shows.Trapped at) a = (stopped at a.0, subst (λ v. StandsFor v C) (sym (refused_view a.1)) stands)

      pub apart_after : (e : Shown) → Acts core taken new e → KeepsApart (view_with_turn core new)
      apart_after shows.Quiet a = (moved _ a.done).1
      apart_after (shows.Comm channel word) a = (moved _ a.done).1
      apart_after (shows.Print word) a = (moved _ a.done).1
      apart_after (shows.Trapped at) a = subst KeepsApart (sym (refused_view a.1)) held

-- who has the turn may act
pub may_act : (code : List Node) (s taken : Store) → GivesTurn (core_in code) s taken → IsCode (map plain_node code) → IsQueue s.queues 0 → KeepsApart (view_with_turn (core_in code) s)
    → length s.queues.queues - 1 + 1 < 2 ^ 32 → IsRightFor (view_with_turn (core_in code) s) 1 → MayAct code taken
may_act code s taken given is there by few right = record {
  code_is = is;
  acting = given.acting;
  few = let same = given.queues in omega (arith, same, few, there);
  right = right_taken (core_in code) s taken given by right;
}

-- ---- the turn is set down

-- the queues hold what they held before the turn was taken, where the step was refused
pub refused_contents : (core : Process) (s taken acted new : Store) → HasActing core taken → TakesTurn core s taken → IsRefused core taken acted
    → contents new.queues 0 ≡ ready_words core acted → KeepsOtherContents acted.queues new.queues 0 → KeepsAllContents s.queues new.queues
refused_contents core s taken acted new acting t r ready others queue = ⊎_elim
    (λ (same : queue ≡ 0). subst (λ (q : ℕ). contents new.queues q ≡ contents s.queues q) (sym same)
    (ready ∙ ap (λ (words : List (List ℕ)). words ++ contents acted.queues 0) (same_words core taken acted r.turn r.values ∙ acting.has) ∙ ap (λ (rest : List (List ℕ)). acting_words core taken ∷ rest) (r.contents 0) ∙ sym t.first))
    (λ (apart : queue ≢ 0). others queue apart ∙ r.contents queue ∙ t.others queue apart)
    (cases_eq queue 0)

-- who had the turn is the first of queue 0
pub rested_view : (core : Process) (s new : Store) → new.desk.heap ≡ s.desk.heap → contents new.queues 0 ≡ ready_words core s → KeepsOtherContents s.queues new.queues 0
    → length new.queues.queues ≡ length s.queues.queues → view_of core new ≡ view_with_turn core s
rested_view core s new heap ready others count =
    ap (λ (h : HeapState). view_of_contents core (value_in h) (contents new.queues 0) (channel_lists new.queues)) heap
    ∙ ap (λ (words : List (List ℕ)). view_of_contents core (value_in s.desk.heap) words (channel_lists new.queues)) ready
    ∙ ap (view_of_contents core (value_in s.desk.heap) (ready_words core s)) (channels_stay s.queues new.queues others count)
