-- Steps of blocks are steps of the store that holds them.
use Rattle.std.proofs.Common.{ℕ, zero, suc, ◌+◌, ◌-◌, ◌<◌, ◌≤◌, ◌≡◌, ◌≢◌, ◌==◌, inl, inr, Bool, true, false, List, [], ◌∷◌, length, map, refl, sym, ap, ◌∙◌, subst, arith, Some}
use Rattle.std.proofs.lemmas.Bool.Decides.{nat_tests}
use Rattle.std.specs.List.{AllByRecursion, slice_get}
use Rattle.pict_syntax.specs.declared.limits.TheConstants.{NARROW_LIMIT}
use Rattle.pict_core.specs.Term.{Val, Process}
use Rattle.pict_core.specs.Step.{Label}
use Rattle.pict_code.specs.Instruction.{Node}
use Rattle.pict_code.specs.Nodes.{Place, places, nodes_of}
use Rattle.pict_blocks.specs.Keeping.{kept_words}
use Rattle.pict_heap.specs.HeapState.{HeapState, KeepsWords}
use Rattle.pict_queue.specs.QueuesState.{QueuesState, IsQueue, LosesNoQueue}
use Rattle.pict_queue.specs.Contents.{contents, KeepsOtherContents, HoldsNoMore}
use Rattle.pict_view.specs.Moved.{Moves}
use Rattle.pict_view.specs.Placed.{next_view}
use Rattle.pict_blocks.specs.Blocks.{view_of_contents, IsNodeBlock}
use Rattle.pict_desk.specs.Known.{value_in, known}
use Rattle.pict_blocks.specs.Laws.{BlocksStep}
use Rattle.pict_desk.specs.Pairs.{ArePairs}
use Rattle.pict_desk.proofs.Making.{known_keeps, all_back}
use Rattle.pict_turns.specs.Acting.{HasBlockFor, IsStore, HasActing, IsDone}
use Rattle.pict_blocks.specs.Holding.{HoldWords, HoldRecord, HoldsFrame}
use Rattle.pict_turns.specs.Turns.{IsTurn}
use Rattle.pict_turns.specs.Views.{lists_from, channel_lists, turn_words, ready_words, acting_words, view_with_turn, IsBlock, AreBlocks, CanWait, AreWaiting}
use Rattle.pict_turns.specs.declared.store.Store.{Store}
use Rattle.pict_turns.specs.declared.turn.Turn.{Turn}
use Rattle.pict_turns.specs.declared.turn.Turn.TheVariants.{Nobody, Node as NodeTurn, Wide, Output}
use Rattle.pict_turns.proofs.Turns.{view_is, wide_block, acting_block}
use Rattle.pict_turns.proofs.Views.{record_stays, kept_stays, frame_stays, blocks_stay, view_same, lists_stay, lists_are}

-- ---- blocks of nodes

-- a block that holds a node's frame is one of the node
pub made_block : (core : Process) (h : HeapState) (value : ℕ → Val) (number : ℕ) (node : Node) (held : List ℕ) → slice_get (nodes_of core) number ≡ Some node
    → HoldsFrame h value node.frame held → IsBlock core h (suc number ∷ held)
made_block core h value number node held at f = inl (record { number = number; node = node; at = at; held = held; is = refl; narrow = f.narrow; wide = f.wide })

module _ (core : Process) (old new : HeapState) (keeps : KeepsWords old new) (values : List (ℕ × ℕ)) (pairs : ArePairs old values) where
  pub levels_keep : (levels : List ℕ) → map (known new values) levels ≡ map (known old values) levels
  levels_keep [] = refl
  levels_keep (l ∷ ls) = cc (known_keeps old new keeps values pairs l, levels_keep ls)

  -- a new block that holds what the levels of a node's frame had
  pub made_node : (number : ℕ) (node : Node) (held : List ℕ) → slice_get (nodes_of core) number ≡ Some node
      → HoldsFrame new (known old values) node.frame held → IsNodeBlock core new values number node (suc number ∷ held)
  made_node number node held at f = record { at = at; frame = held; words_are = refl; holds = f.values ∙ sym (levels_keep node.frame) }

  -- the block that acts is still one of its node, with the same values
  pub node_block_stays : (number : ℕ) (node : Node) (words : List ℕ) → IsBlock core old words → IsNodeBlock core old values number node words
      → IsNodeBlock core new values number node words
  node_block_stays number node words (inl n) b =
      let same : suc n.number ∷ n.held ≡ suc number ∷ b.frame = sym n.is ∙ b.words_are in
      let number_is : n.number ≡ number = cc in
      let held_is : n.held ≡ b.frame = cc in
      let there : Some n.node ≡ Some node = sym n.at ∙ ap (slice_get (nodes_of core)) number_is ∙ b.at in
      let node_is : n.node ≡ node = cc in
      let narrow : length node.frame ≤ NARROW_LIMIT → HoldWords old (length node.frame) b.frame =
      subst (λ (x : Node). length x.frame ≤ NARROW_LIMIT → HoldWords old (length x.frame) b.frame) node_is
      (subst (λ (ws : List ℕ). length n.node.frame ≤ NARROW_LIMIT → HoldWords old (length n.node.frame) ws) held_is n.narrow) in
      let wide : NARROW_LIMIT < length node.frame → HoldRecord old (length node.frame) b.frame =
      subst (λ (x : Node). NARROW_LIMIT < length x.frame → HoldRecord old (length x.frame) b.frame) node_is
      (subst (λ (ws : List ℕ). NARROW_LIMIT < length n.node.frame → HoldRecord old (length n.node.frame) ws) held_is n.wide) in
      record {
        at = b.at;
        frame = b.frame;
        words_are = b.words_are;
        holds = frame_stays old new keeps (length node.frame) b.frame narrow wide ∙ b.holds ∙ sym (levels_keep node.frame);
      }
  node_block_stays number node words (inr k) b = let e = sym k.is ∙ b.words_are in cc

  -- who may have the turn may have it still
  pub turn_stays : (turn : Turn) → IsTurn core old values turn → IsTurn core new values turn
  turn_stays Nobody t = tt
  turn_stays (NodeTurn number) n = n
  turn_stays (Wide number pair) w = record {
    node = w.node;
    wide = w.wide;
    is = node_block_stays number w.node (suc number ∷ pair.0 ∷ pair.1 ∷ []) (wide_block core old values number pair w) w.is;
    record_is = record_stays old new keeps (length w.node.frame) (pair.0 ∷ pair.1 ∷ []) w.record_is;
  }
  turn_stays (Output kept) k = kept_stays old new keeps (kept_words kept) k

-- the same where the values and the turn stay
pub turn_by : (core : Process) (s n : Store) → KeepsWords s.desk.heap n.desk.heap → ArePairs s.desk.heap s.desk.values.items → n.desk.values.items ≡ s.desk.values.items → n.turn ≡ s.turn
    → IsTurn core s.desk.heap s.desk.values.items s.turn → IsTurn core n.desk.heap n.desk.values.items n.turn
turn_by core s n keeps pairs values turn t =
    subst (λ (vs : List (ℕ × ℕ)). IsTurn core n.desk.heap vs n.turn) (sym values)
    (subst (IsTurn core n.desk.heap s.desk.values.items) (sym turn) (turn_stays core s.desk.heap n.desk.heap keeps s.desk.values.items pairs s.turn t))

-- ---- lists of queues

pub length_lists : (s : QueuesState) (k n : ℕ) → length (lists_from s k n) ≡ n
length_lists s k zero = refl
length_lists s k (suc n) = ap suc (length_lists s (k + 1) n)

-- what waits at the channels stays where queue 0 alone changes
pub channels_stay : (old new : QueuesState) → KeepsOtherContents old new 0 → length new.queues ≡ length old.queues → channel_lists new ≡ channel_lists old
channels_stay old new others same =
    ap (λ (n : ℕ). lists_from new 1 (n - 1)) same
    ∙ lists_stay old new 1 (length old.queues - 1) (λ queue low. others queue (λ first. omega (arith, first, low)))

-- ---- a step

module _ (core : Process) (old new : Store) (store : IsStore core old) (keeps : KeepsWords old.desk.heap new.desk.heap) where
  -- the queues hold blocks still where queue 0 and who has the turn alone change, to blocks
  pub blocks_by : (ready : List (List ℕ)) → ready_words core new ≡ ready → AllByRecursion (IsBlock core new.desk.heap) ready → KeepsOtherContents old.queues new.queues 0 → AreBlocks core new
  blocks_by ready e are others queue = by_case (queue == 0) refl
    where
      by_case : (b : Bool) → (queue == 0) ≡ b → AllByRecursion (IsBlock core new.desk.heap) (contents new.queues queue)
      by_case true t =
          let same : 0 ≡ queue = grind (arith, nat_tests) in
          subst (λ (q : ℕ). AllByRecursion (IsBlock core new.desk.heap) (contents new.queues q)) same
          (all_back (IsBlock core new.desk.heap) (turn_words core new) (contents new.queues 0) (subst (AllByRecursion (IsBlock core new.desk.heap)) (sym e) are))
      by_case false t =
          let apart : queue ≢ 0 = grind (arith, nat_tests) in
          subst (AllByRecursion (IsBlock core new.desk.heap)) (sym (others queue apart)) (blocks_stay old.desk.heap new.desk.heap keeps core (contents old.queues queue) (store.blocks queue))

  -- the blocks that were ready
  pub ready_stay : AllByRecursion (IsBlock core new.desk.heap) (contents old.queues 0)
  ready_stay = blocks_stay old.desk.heap new.desk.heap keeps core (contents old.queues 0) (store.blocks 0)

  -- what waits at channels is still what may, where queue 0 alone changes
  pub waiting_by : KeepsOtherContents old.queues new.queues 0 → AreWaiting core new.queues
  waiting_by others channel =
      subst (AllByRecursion (CanWait core)) (sym (others (channel + 1) (λ first. omega (arith, first)))) (store.waiting channel)

  pub store_by : IsQueue new.queues 0 → AreBlocks core new → AreWaiting core new.queues → ArePairs new.desk.heap new.desk.values.items → length new.desk.values.items ≡ length old.desk.values.items
      → IsTurn core new.desk.heap new.desk.values.items new.turn → AllByRecursion (HasBlockFor new.queues.region) (turn_words core new) → IsStore core new
  store_by ready blocks waiting pairs same turn room = record {
    ready = ready;
    blocks = blocks;
    waiting = waiting;
    pairs = pairs;
    levels = subst (λ (n : ℕ). AllByRecursion (λ (p : Place). p.around ≤ n) (places 0 core)) (sym same) store.levels;
    turn = turn;
    room = room;
  }

module _ (core : Process) (old new : Store) (acting : HasActing core old) (keeps : KeepsWords old.desk.heap new.desk.heap) where
  -- what the store stood for before the step, by the words of the new heap
  pub view_kept : view_of_contents core (value_in new.desk.heap) (acting_words core old ∷ contents old.queues 0) (channel_lists old.queues) ≡ view_with_turn core old
  view_kept =
      view_same old.desk.heap new.desk.heap keeps core (acting_words core old ∷ contents old.queues 0) (channel_lists old.queues)
      (acting_block core old acting, acting.store.blocks 0) (lists_are core old.desk.heap old.queues 1 (length old.queues.queues - 1) acting.store.blocks)
      ∙ sym (view_is core old (acting_words core old) acting.has)

  -- where the blocks step, by the words of the new heap, to what is ready and parked then, the step is done
  pub done_by : (ready : List (List ℕ)) (channels : List (List (List ℕ))) (label : Label)
      → BlocksStep core new.desk.heap (acting_words core old ∷ contents old.queues 0) (channel_lists old.queues) label ready channels
      → ready_words core new ≡ ready → channel_lists new.queues ≡ channels → IsStore core new → length new.desk.values.items ≡ length old.desk.values.items
      → length new.queues.queues ≤ length old.queues.queues + 1 → HoldsNoMore old.queues new.queues → LosesNoQueue old.queues new.queues → IsDone core old new label
  done_by ready channels label step at lists store levels queues no_more no_loss =
      let after : view_with_turn core new ≡ view_of_contents core (value_in new.desk.heap) ready channels =
      ap (λ (rs : List (List ℕ)). view_of_contents core (value_in new.desk.heap) rs (channel_lists new.queues)) at
      ∙ ap (view_of_contents core (value_in new.desk.heap) ready) lists in
      record {
        moves = sym (ap next_view view_kept) ∙ step ∙ ap (λ v. Moves v label) (sym after);
        store = store;
        keeps = keeps;
        levels = levels;
        queues = queues;
        no_more = no_more;
        no_loss = no_loss;
      }
