-- Who has the turn: its words, the block that they would make, and the view.
use Rattle.std.proofs.Common.{ℕ, suc, ◌+◌, ◌<◌, ◌≤◌, ◌≡◌, inl, inr, List, [], ◌∷◌, ◌++◌, length, get_or, refl, sym, ap, ◌∙◌, subst, arith, Some, option_map, unwrap_or}
use Rattle.std.proofs.lemmas.Option.{slice_get_within}
use Rattle.std.specs.List.{AllByRecursion, slice_get}
use Rattle.pict_syntax.specs.declared.limits.TheConstants.{NARROW_LIMIT}
use Rattle.pict_core.specs.Term.{Process}
use Rattle.pict_code.specs.Instruction.{Node, Op}
use Rattle.pict_code.specs.Nodes.{nodes_of}
use Rattle.pict_blocks.specs.Framed.{gathered, node_words}
use Rattle.pict_blocks.specs.Keeping.{kept_words}
use Rattle.pict_desk.specs.declared.kept.Kept.{Kept}
use Rattle.pict_heap.specs.HeapState.{HeapState}
use Rattle.pict_region.specs.RegionState.{RegionState, spare}
use Rattle.pict_region.proofs.Pairs.{length_gathered}
use Rattle.pict_queue.specs.Contents.{contents}
use Rattle.pict_blocks.specs.Blocks.{view_of_contents, IsNodeBlock}
use Rattle.pict_desk.specs.Known.{value_in}
use Rattle.pict_blocks.proofs.Standing.{narrow_blocks}
use Rattle.pict_desk.specs.Pairs.{ArePairs}
use Rattle.pict_desk.proofs.Making.{all_append}
use Rattle.pict_turns.specs.Acting.{HasBlockFor, IsStore, HasActing, ActsBy}
use Rattle.pict_blocks.specs.Holding.{HoldWords}
use Rattle.pict_blocks.specs.Parts.{block_width}
use Rattle.pict_desk.specs.Code.{HasFrame}
use Rattle.pict_turns.specs.Turns.{IsNarrow, IsWide, IsTurn, handing, turn_cost}
use Rattle.pict_turns.specs.Views.{channel_lists, view_of, frame_in, words_of_turn, turn_words, ready_words, acting_words, view_with_turn, IsKept, IsBlock}
use Rattle.pict_turns.specs.declared.store.Store.{Store}
use Rattle.pict_turns.specs.declared.turn.Turn.{Turn}
use Rattle.pict_turns.specs.declared.turn.Turn.TheVariants.{Nobody, Node as NodeTurn, Wide, Output}
use Rattle.pict_blocks.proofs.Holding.{words_held, width_narrow, width_wide}

-- ---- nobody

pub words_nobody : (core : Process) (s : Store) → s.turn ≡ Nobody → turn_words core s ≡ []
words_nobody core s e = ap (λ (t : Turn). words_of_turn (nodes_of core) s.desk.values.items t) e

pub ready_nobody : (core : Process) (s : Store) → turn_words core s ≡ [] → ready_words core s ≡ contents s.queues 0
ready_nobody core s e = ap (λ (ws : List (List ℕ)). ws ++ contents s.queues 0) e

pub view_nobody : (core : Process) (s : Store) → turn_words core s ≡ [] → view_with_turn core s ≡ view_of core s
view_nobody core s e = ap (λ (ws : List (List ℕ)). view_of_contents core (value_in s.desk.heap) ws (channel_lists s.queues)) (ready_nobody core s e)

pub nobody_turn : (core : Process) (h : HeapState) (values : List (ℕ × ℕ)) (turn : Turn) → turn ≡ Nobody → IsTurn core h values turn
nobody_turn core h values turn e = subst (IsTurn core h values) (sym e) tt

pub nobody_room : (core : Process) (s : Store) (r : RegionState) → s.turn ≡ Nobody → AllByRecursion (HasBlockFor r) (turn_words core s)
nobody_room core s r e = subst (AllByRecursion (HasBlockFor r)) (sym (words_nobody core s e)) tt

pub cost_nobody : (core : Process) (s : Store) → s.turn ≡ Nobody → turn_cost core s ≡ 0
cost_nobody core s e = ap handing (words_nobody core s e)

-- the turn is given up
pub set_aside : (core : Process) (s : Store) → IsStore core s → IsStore core (record s { turn = Nobody })
set_aside core s store = record {
  ready = store.ready;
  blocks = store.blocks;
  waiting = store.waiting;
  pairs = store.pairs;
  levels = store.levels;
  turn = tt;
  room = tt;
}

-- ---- somebody

module _ (core : Process) (s : Store) (w : List ℕ) (e : turn_words core s ≡ w ∷ []) where
  pub acting_is : acting_words core s ≡ w
  acting_is = ap (λ (ws : List (List ℕ)). get_or ws 0 []) e

  pub has_words : turn_words core s ≡ acting_words core s ∷ []
  has_words = e ∙ ap (λ (x : List ℕ). x ∷ []) (sym acting_is)

  pub ready_is : ready_words core s ≡ w ∷ contents s.queues 0
  ready_is = ap (λ (ws : List (List ℕ)). ws ++ contents s.queues 0) e

  pub view_is : view_with_turn core s ≡ view_of_contents core (value_in s.desk.heap) (w ∷ contents s.queues 0) (channel_lists s.queues)
  view_is = ap (λ (ws : List (List ℕ)). view_of_contents core (value_in s.desk.heap) ws (channel_lists s.queues)) ready_is

  pub cost_is : turn_cost core s ≡ length w + 5
  cost_is = let c : turn_cost core s ≡ length w + 5 + 0 = ap handing e in omega (arith, c)

  -- a free block of the width is there
  pub room_for : (r : RegionState) → 1 ≤ spare r (length w + 1) → AllByRecursion (HasBlockFor r) (turn_words core s)
  room_for r block = subst (AllByRecursion (HasBlockFor r)) (sym e) (block, tt)

-- the turn stays with the same words
pub same_words : (core : Process) (s n : Store) → n.turn ≡ s.turn → n.desk.values.items ≡ s.desk.values.items → turn_words core n ≡ turn_words core s
same_words core s n turn values =
    ap (λ (t : Turn). words_of_turn (nodes_of core) n.desk.values.items t) turn ∙ ap (λ (vs : List (ℕ × ℕ)). words_of_turn (nodes_of core) vs s.turn) values

pub room_more : (old new : RegionState) → ((width : ℕ) → spare old width ≤ spare new width) → (ws : List (List ℕ)) → AllByRecursion (HasBlockFor old) ws → AllByRecursion (HasBlockFor new) ws
room_more old new more [] a = tt
room_more old new more (w ∷ ws) a = let m = more (length w + 1) in let h = a.0 in (omega (arith, m, h), room_more old new more ws a.1)

-- ---- blocks

pub frame_is : (core : Process) (number : ℕ) (node : Node) → slice_get (nodes_of core) number ≡ Some node → frame_in (nodes_of core) number ≡ node.frame
frame_is core number node at = ap (λ o. unwrap_or (option_map (λ (n : Node). n.frame) o) []) at

pub wide_block : (core : Process) (h : HeapState) (values : List (ℕ × ℕ)) (number : ℕ) (pair : ℕ × ℕ) → IsWide core h values number pair
    → IsBlock core h (suc number ∷ pair.0 ∷ pair.1 ∷ [])
wide_block core h values number pair w = inl (record {
  number = number;
  node = w.node;
  at = w.is.at;
  held = pair.0 ∷ pair.1 ∷ [];
  is = refl;
  narrow = λ few. let many = w.wide in absurd (omega (arith, few, many));
  wide = λ _. w.record_is;
})

-- the words of who has the turn are those of a block
pub turn_blocks : (core : Process) (h : HeapState) (values : List (ℕ × ℕ)) (turn : Turn) → IsTurn core h values turn → ArePairs h values → AllByRecursion (IsBlock core h) (words_of_turn (nodes_of core) values turn)
turn_blocks core h values Nobody t pairs = tt
turn_blocks core h values (NodeTurn number) n pairs = (
  inl (record {
    number = number;
    node = n.node;
    at = n.at;
    held = gathered values (frame_in (nodes_of core) number);
    is = refl;
    narrow = λ _. subst (λ (frame : List ℕ). HoldWords h (length n.node.frame) (gathered values frame)) (sym (frame_is core number n.node n.at)) (words_held h values n.node.frame pairs);
    wide = λ many. let few = n.narrow in absurd (omega (arith, few, many));
  }),
  tt,
)
turn_blocks core h values (Wide number pair) w pairs = (wide_block core h values number pair w, tt)
turn_blocks core h values (Output kept) k pairs = (inr k, tt)

module _ (core : Process) (s : Store) where
  pub ready_blocks : IsStore core s → AllByRecursion (IsBlock core s.desk.heap) (ready_words core s)
  ready_blocks store =
      all_append (IsBlock core s.desk.heap) (turn_words core s) (contents s.queues 0) (turn_blocks core s.desk.heap s.desk.values.items s.turn store.turn store.pairs) (store.blocks 0)

  module _ (a : HasActing core s) where
    pub acting_block : IsBlock core s.desk.heap (acting_words core s)
    acting_block = (subst (AllByRecursion (IsBlock core s.desk.heap)) a.has (turn_blocks core s.desk.heap s.desk.values.items s.turn a.store.turn a.store.pairs)).0

    pub nobody_acts : ¬ (s.turn ≡ Nobody)
    nobody_acts idle = let e = sym (words_nobody core s idle) ∙ a.has in cc

    pub acting_room : 1 ≤ spare s.queues.region (length (acting_words core s) + 1)
    acting_room = (subst (AllByRecursion (HasBlockFor s.queues.region)) a.has a.store.room).0

    -- ---- by who has it

    pub kept_acts : (kept : Kept) → s.turn ≡ Output kept → acting_words core s ≡ kept_words kept
    kept_acts kept e = acting_is core s (kept_words kept) (ap (λ (t : Turn). words_of_turn (nodes_of core) s.desk.values.items t) e)

    pub kept_turn : (kept : Kept) → s.turn ≡ Output kept → IsKept s.desk.heap (kept_words kept)
    kept_turn kept e = subst (IsTurn core s.desk.heap s.desk.values.items) e a.store.turn

    module _ (number : ℕ) (e : s.turn ≡ NodeTurn number) where
      narrow_turn : IsNarrow core number
      narrow_turn = subst (IsTurn core s.desk.heap s.desk.values.items) e a.store.turn

      pub node_words_are : (node : Node) → slice_get (nodes_of core) number ≡ Some node → acting_words core s ≡ node_words s.desk.values.items number node.frame
      node_words_are node at =
          acting_is core s (node_words s.desk.values.items number (frame_in (nodes_of core) number)) (ap (λ (t : Turn). words_of_turn (nodes_of core) s.desk.values.items t) e)
          ∙ ap (node_words s.desk.values.items number) (frame_is core number node at)

      pub node_inside : number < length (nodes_of core)
      node_inside = let n = narrow_turn in slice_get_within (nodes_of core) number n.node n.at

      -- the frame of the node stands in a block itself
      pub node_narrow : (node : Node) → slice_get (nodes_of core) number ≡ Some node → length node.frame ≤ NARROW_LIMIT
      node_narrow node at =
          let n = narrow_turn in
          let there : Some n.node ≡ Some node = sym n.at ∙ at in
          let same : n.node ≡ node = cc in
          subst (λ (x : Node). length x.frame ≤ NARROW_LIMIT) same n.narrow

      pub node_width : (frame : List ℕ) → HasFrame (nodes_of core) number frame → length (acting_words core s) + 1 ≡ block_width frame
      node_width frame f =
          let words = ap length (node_words_are f.node f.at) in
          let many = length_gathered s.desk.values.items f.node.frame in
          let same = ap length f.is in
          let few = node_narrow f.node f.at in
          let w = width_narrow frame (omega (arith, same, few)) in
          omega (arith, words, many, same, w)

      -- a node of at most `NARROW_LIMIT` levels acts
      pub acts_node : (node : Node) (op : Op) → slice_get (nodes_of core) number ≡ Some node → node.op ≡ op → ActsBy core s op
      acts_node node op at is = record {
        acting = a;
        number = number;
        node = node;
        is = subst (IsNodeBlock core s.desk.heap s.desk.values.items number node) (sym (node_words_are node at)) (narrow_blocks core s.desk.heap s.desk.values.items number node at (node_narrow node at));
        op_is = is;
      }

    module _ (number : ℕ) (pair : ℕ × ℕ) (e : s.turn ≡ Wide number pair) where
      wide_turn : IsWide core s.desk.heap s.desk.values.items number pair
      wide_turn = subst (IsTurn core s.desk.heap s.desk.values.items) e a.store.turn

      pub wide_words_are : acting_words core s ≡ suc number ∷ pair.0 ∷ pair.1 ∷ []
      wide_words_are = acting_is core s (suc number ∷ pair.0 ∷ pair.1 ∷ []) (ap (λ (t : Turn). words_of_turn (nodes_of core) s.desk.values.items t) e)

      pub wide_inside : number < length (nodes_of core)
      wide_inside = let w = wide_turn in slice_get_within (nodes_of core) number w.node w.is.at

      wide_node : (node : Node) → slice_get (nodes_of core) number ≡ Some node → wide_turn.node ≡ node
      wide_node node at =
          let there : Some wide_turn.node ≡ Some node = sym wide_turn.is.at ∙ at in
          cc

      pub wide_width : (frame : List ℕ) → HasFrame (nodes_of core) number frame → length (acting_words core s) + 1 ≡ block_width frame
      wide_width frame f =
          let words : length (acting_words core s) ≡ 3 = ap length wide_words_are in
          let many : NARROW_LIMIT < length f.node.frame = subst (λ (x : Node). NARROW_LIMIT < length x.frame) (wide_node f.node f.at) wide_turn.wide in
          let same = ap length f.is in
          let w = width_wide frame (omega (arith, same, many)) in
          omega (arith, words, w)

      -- a node of more levels acts
      pub acts_wide : (node : Node) (op : Op) → slice_get (nodes_of core) number ≡ Some node → node.op ≡ op → ActsBy core s op
      acts_wide node op at is = record {
        acting = a;
        number = number;
        node = node;
        is = subst (λ (x : Node). IsNodeBlock core s.desk.heap s.desk.values.items number x (acting_words core s)) (wide_node node at)
            (subst (IsNodeBlock core s.desk.heap s.desk.values.items number wide_turn.node) (sym wide_words_are) wide_turn.is);
        op_is = is;
      }
