-- A part gets the turn, or becomes the last of the ready ones: what the store is then.
use Rattle.std.proofs.Common.{ℕ, suc, ◌+◌, ◌<◌, ◌≤◌, ◌≡◌, ◌==◌, ◌^◌, inl, inr, Bool, true, false, cond, List, [], ◌∷◌, ◌++◌, length, map, refl, sym, ap, ◌∙◌, subst, arith}
use Rattle.std.proofs.lemmas.Bool.Decides.{nat_tests}
use Rattle.std.proofs.lemmas.Option.{slice_get_within}
use Rattle.std.specs.List.{AllByRecursion}
use Rattle.std.specs.Prelude.{Option, Some, None, IfSome}
use Rattle.pict_syntax.specs.declared.limits.TheConstants.{NARROW_LIMIT}
use Rattle.pict_core.specs.Term.{Process}
use Rattle.pict_code.specs.Nodes.{nodes_of}
use Rattle.pict_blocks.specs.Framed.{gathered, node_words}
use Rattle.pict_heap.specs.HeapState.{HeapState, KeepsWords}
use Rattle.pict_region.specs.RegionState.{RegionState, spare}
use Rattle.pict_queue.specs.QueuesState.{QueuesState, IsHeld}
use Rattle.pict_queue.specs.Contents.{contents, KeepsOtherContents, HoldsNoMore}
use Rattle.pict_prim.specs.Acts.{UsesNeed}
use Rattle.pict_desk.specs.Known.{value_in, value_fields, known}
use Rattle.pict_desk.specs.declared.pending.Pending.{Pending}
use Rattle.pict_desk.specs.Needs.{record_need, KeepsPending}
use Rattle.pict_desk.specs.Pairs.{IsPair, ArePairs}
use Rattle.pict_desk.proofs.Making.{keeps_all, pairs_keep, pile_kept}
use Rattle.pict_turns.specs.Acting.{HasBlockFor}
use Rattle.pict_blocks.specs.Holding.{HoldRecord, HoldsFrame}
use Rattle.pict_turns.specs.Parts.{HandsOn, HasRecord, IsLast}
use Rattle.pict_blocks.specs.Blocks.{frame_values}
use Rattle.pict_blocks.specs.Parts.{block_width}
use Rattle.pict_desk.specs.Code.{HasFrame}
use Rattle.pict_desk.specs.Room.{frame_need}
use Rattle.pict_desk.proofs.Numbered.{same_frame}
use Rattle.pict_turns.specs.Turns.{IsTurn, IsWide, turn_cost}
use Rattle.pict_turns.specs.Views.{turn_words, ready_words}
use Rattle.pict_turns.specs.declared.store.Store.{Store}
use Rattle.pict_turns.specs.declared.turn.Turn.TheVariants.{Nobody, Node as NodeTurn, Wide}
use Rattle.pict_blocks.proofs.Holding.{narrow_holds, wide_holds, held_width}
use Rattle.pict_desk.proofs.MakingRoom.{need_narrow, need_wide, uses_nothing}
use Rattle.pict_turns.proofs.Adding.{used_less}
use Rattle.pict_turns.proofs.Rows.{made_node, levels_keep}
use Rattle.pict_turns.proofs.Views.{frame_held}
use Rattle.pict_turns.proofs.Turns.{frame_is, words_nobody, ready_nobody, nobody_turn, nobody_room, cost_nobody, ready_is, cost_is, room_for}

-- ---- a part gets the turn

-- one whose frame would stand in a block itself
pub hands_narrow : (core : Process) (s : Store) (number : ℕ) (frame : List ℕ) → HasFrame (nodes_of core) number frame → ArePairs s.desk.heap s.desk.values.items → length frame ≤ NARROW_LIMIT
    → HandsOn core s (record s { turn = NodeTurn number }) number frame
hands_narrow core s number frame f pairs few = record {
  held = gathered s.desk.values.items frame;
  holds = narrow_holds s.desk.heap s.desk.values.items frame pairs few;
  turn = ap (λ (ls : List ℕ). node_words s.desk.values.items number ls ∷ []) (frame_is core number f.node f.at ∙ f.is);
  is = record { node = f.node; at = f.at; narrow = subst (λ (ls : List ℕ). length ls ≤ NARROW_LIMIT) (sym f.is) few };
  queues = refl;
  keeps = keeps_all s.desk.heap;
  used = subst (UsesNeed s.desk.heap.room s.desk.heap.room) (sym (need_narrow frame few)) (uses_nothing s.desk.heap.room);
  values = refl;
  pending = pile_kept s.desk.pending;
}

-- one of a larger frame, of which a record was made
pub hands_wide : (core : Process) (s : Store) (heap : HeapState) (pending : Pending) (pair : ℕ × ℕ) (number : ℕ) (frame : List ℕ) → HasFrame (nodes_of core) number frame
    → ArePairs s.desk.heap s.desk.values.items → NARROW_LIMIT < length frame → length frame < 2 ^ 32 → IsPair heap pair → value_fields (value_in heap pair.0 pair.1) ≡ map (known s.desk.heap s.desk.values.items) frame
    → KeepsWords s.desk.heap heap → UsesNeed s.desk.heap.room heap.room (record_need (length frame)) → KeepsPending s.desk.pending pending
    → HandsOn core s (record s { desk = record s.desk { heap = heap; pending = pending }; turn = Wide number pair }) number frame
hands_wide core s heap pending pair number frame f pairs many countable is fields keeps used kept =
    let holds = wide_holds heap (known s.desk.heap s.desk.values.items) frame pair is fields many countable in
    record {
      held = pair.0 ∷ pair.1 ∷ [];
      holds = holds;
      turn = refl;
      is = record {
        node = f.node;
        wide = subst (λ (ls : List ℕ). NARROW_LIMIT < length ls) (sym f.is) many;
        is = made_node core s.desk.heap heap keeps s.desk.values.items pairs number f.node (pair.0 ∷ pair.1 ∷ []) f.at
            (subst (λ (ls : List ℕ). HoldsFrame heap (known s.desk.heap s.desk.values.items) ls (pair.0 ∷ pair.1 ∷ [])) (sym f.is) holds);
        record_is = subst (λ (ls : List ℕ). HoldRecord heap (length ls) (pair.0 ∷ pair.1 ∷ [])) (sym f.is) (holds.wide many);
      };
      queues = refl;
      keeps = keeps;
      used = subst (UsesNeed s.desk.heap.room heap.room) (sym (need_wide frame many)) used;
      values = refl;
      pending = kept;
    }

-- one of a larger frame, of which the record was there
pub hands_kept : (core : Process) (s : Store) (pair : ℕ × ℕ) (number : ℕ) (frame : List ℕ) → HasFrame (nodes_of core) number frame → ArePairs s.desk.heap s.desk.values.items
    → HasRecord s frame pair → HandsOn core s (record s { turn = Wide number pair }) number frame
hands_kept core s pair number frame f pairs kept = record {
  held = pair.0 ∷ pair.1 ∷ [];
  holds = kept.holds;
  turn = refl;
  is = record {
    node = f.node;
    wide = subst (λ (ls : List ℕ). NARROW_LIMIT < length ls) (sym f.is) kept.wide;
    is = made_node core s.desk.heap s.desk.heap (keeps_all s.desk.heap) s.desk.values.items pairs number f.node (pair.0 ∷ pair.1 ∷ []) f.at
        (subst (λ (ls : List ℕ). HoldsFrame s.desk.heap (known s.desk.heap s.desk.values.items) ls (pair.0 ∷ pair.1 ∷ [])) (sym f.is) kept.holds);
    record_is = subst (λ (ls : List ℕ). HoldRecord s.desk.heap (length ls) (pair.0 ∷ pair.1 ∷ [])) (sym f.is) (kept.holds.wide kept.wide);
  };
  queues = refl;
  keeps = keeps_all s.desk.heap;
  used = used_less s.desk.heap.room s.desk.heap.room (frame_need frame) (uses_nothing s.desk.heap.room);
  values = refl;
  pending = pile_kept s.desk.pending;
}

-- the record of who has the turn is one of each frame that is the same
pub turn_record : (core : Process) (s : Store) (number : ℕ) (pair : ℕ × ℕ) (frame : List ℕ) → IsWide core s.desk.heap s.desk.values.items number pair
    → HasFrame (nodes_of core) number frame → HasRecord s frame pair
turn_record core s number pair frame w f =
    let same : w.node.frame ≡ frame = same_frame (nodes_of core) number w.node.frame frame (record { node = w.node; at = w.is.at; is = refl }) f in
    let held : pair.0 ∷ pair.1 ∷ [] ≡ w.is.frame = let h = w.is.words_are in cc in
    let values = ap (frame_values (value_in s.desk.heap) (length w.node.frame)) held ∙ w.is.holds in
    record {
      wide = subst (λ (ls : List ℕ). NARROW_LIMIT < length ls) same w.wide;
      holds = subst (λ (ls : List ℕ). HoldsFrame s.desk.heap (known s.desk.heap s.desk.values.items) ls (pair.0 ∷ pair.1 ∷ [])) same
          (record { values = values; narrow = λ few. let many = w.wide in absurd (omega (arith, few, many)); wide = λ _. w.record_is });
    }

pub wide_within : (core : Process) (s : Store) (number : ℕ) (pair : ℕ × ℕ) → IsWide core s.desk.heap s.desk.values.items number pair → number < length (nodes_of core)
wide_within core s number pair w = slice_get_within (nodes_of core) number w.node w.is.at

-- ---- who has the turn then

module _ (core : Process) (old new : Store) (number : ℕ) (frame : List ℕ) (one : HandsOn core old new number frame) where
  -- the free block is one for who has the turn
  pub handed_room : (r : RegionState) → 1 ≤ spare r (block_width frame) → AllByRecursion (HasBlockFor r) (turn_words core new)
  handed_room r block =
      room_for core new (suc number ∷ one.held) one.turn r
      (subst (λ (w : ℕ). 1 ≤ spare r w) (sym (held_width new.desk.heap number frame one.held one.holds.narrow one.holds.wide)) block)

  pub handed_cost : turn_cost core new ≡ block_width frame + 4
  handed_cost =
      let w = held_width new.desk.heap number frame one.held one.holds.narrow one.holds.wide in
      let c = cost_is core new (suc number ∷ one.held) one.turn in
      omega (arith, w, c)

  pub handed_contents : (queue : ℕ) → contents new.queues queue ≡ contents old.queues queue
  handed_contents queue = ap (λ (q : QueuesState). contents q queue) one.queues

  pub handed_queues : length new.queues.queues ≡ length old.queues.queues
  handed_queues = ap (λ (q : QueuesState). length q.queues) one.queues

  pub handed_pairs : ArePairs old.desk.heap old.desk.values.items → ArePairs new.desk.heap new.desk.values.items
  handed_pairs pairs = subst (ArePairs new.desk.heap) (sym one.values) (pairs_keep old.desk.heap new.desk.heap one.keeps old.desk.values.items pairs)

  -- a record that was one of a frame's values is one still
  pub handed_record : ArePairs old.desk.heap old.desk.values.items → (other : List ℕ) (there : Option (ℕ × ℕ)) → IfSome there (HasRecord old other)
      → IfSome there (HasRecord new other)
  handed_record pairs other None is = tt
  handed_record pairs other (Some pair) is =
      let held = frame_held old.desk.heap new.desk.heap one.keeps (known old.desk.heap old.desk.values.items) other (pair.0 ∷ pair.1 ∷ []) is.holds in
      let same : map (known new.desk.heap new.desk.values.items) other ≡ map (known old.desk.heap old.desk.values.items) other =
      ap (λ (vs : List (ℕ × ℕ)). map (known new.desk.heap vs) other) one.values ∙ levels_keep core old.desk.heap new.desk.heap one.keeps old.desk.values.items pairs other in
      record { wide = is.wide; holds = record { values = held.values ∙ sym same; narrow = held.narrow; wide = held.wide } }

  pub handed_no_more : HoldsNoMore old.queues new.queues
  handed_no_more block held = subst (λ (q : QueuesState). IsHeld q block) one.queues held

-- a free block of one width is left where one of another is taken
pub first_left : (old new : RegionState) (first second : ℕ) → 1 ≤ spare old first → cond (second == first) 2 1 ≤ spare old second
    → ((width : ℕ) → spare old width ≤ spare new width + cond (width == second) 1 0) → 1 ≤ spare new first
first_left old new first second one other less = by_case (first == second) refl
  where
    by_case : (b : Bool) → (first == second) ≡ b → 1 ≤ spare new first
    by_case true e =
        let test : (second == first) ≡ true = grind (arith, nat_tests) in
        let same : first ≡ second = grind (arith, nat_tests) in
        let two : 2 ≤ spare old second = subst (λ (b : Bool). cond b 2 1 ≤ spare old second) test other in
        let there : spare old first ≡ spare old second = ap (spare old) same in
        let left : spare old first ≤ spare new first + 1 = subst (λ (b : Bool). spare old first ≤ spare new first + cond b 1 0) e (less first) in
        omega (arith, two, there, left)
    by_case false e =
        let left : spare old first ≤ spare new first + 0 = subst (λ (b : Bool). spare old first ≤ spare new first + cond b 1 0) e (less first) in
        omega (arith, one, left)

-- ---- the last of the ready ones

-- The node with this number is the last of the ready ones, with the values that the levels of its frame had.
pub record MadeLast (core : Process) (old new : Store) (number : ℕ) (frame : List ℕ) : Type 0 where
  pub held : List ℕ
  pub holds : HoldsFrame new.desk.heap (known old.desk.heap old.desk.values.items) frame held
  pub ready : ready_words core new ≡ contents old.queues 0 ++ (suc number ∷ held) ∷ []
  pub turn : IsTurn core new.desk.heap new.desk.values.items new.turn
  pub room : AllByRecursion (HasBlockFor new.queues.region) (turn_words core new)
  pub others : KeepsOtherContents old.queues new.queues 0
  pub queues : length new.queues.queues ≡ length old.queues.queues
  pub keeps : KeepsWords old.desk.heap new.desk.heap
  pub values : new.desk.values.items ≡ old.desk.values.items
  pub cost : turn_cost core new ≤ block_width frame + 4

pub made_last : (core : Process) (old new : Store) (number : ℕ) (frame : List ℕ) → old.turn ≡ Nobody → 1 ≤ spare old.queues.region (block_width frame)
    → IsLast core old new number frame → MadeLast core old new number frame
made_last core old new number frame idle block (inl x) =
    let none = x.0 in
    let one = x.1 in
    record {
      held = one.held;
      holds = one.holds;
      ready = ready_is core new (suc number ∷ one.held) one.turn
          ∙ ap (λ (ws : List (List ℕ)). (suc number ∷ one.held) ∷ ws) (handed_contents core old new number frame one 0 ∙ none)
          ∙ ap (λ (ws : List (List ℕ)). ws ++ (suc number ∷ one.held) ∷ []) (sym none);
      turn = one.is;
      room = handed_room core old new number frame one new.queues.region (subst (λ (q : QueuesState). 1 ≤ spare q.region (block_width frame)) (sym one.queues) block);
      others = λ queue apart. handed_contents core old new number frame one queue;
      queues = handed_queues core old new number frame one;
      keeps = one.keeps;
      values = one.values;
      cost = let c = handed_cost core old new number frame one in omega (arith, c);
    }
made_last core old new number frame idle block (inr one) =
    let still : new.turn ≡ Nobody = one.turn ∙ idle in
    record {
      held = one.held;
      holds = one.holds;
      ready = ready_nobody core new (words_nobody core new still) ∙ one.last;
      turn = nobody_turn core new.desk.heap new.desk.values.items new.turn still;
      room = nobody_room core new new.queues.region still;
      others = one.others;
      queues = one.queues;
      keeps = one.keeps;
      values = one.values;
      cost = let c = cost_nobody core new still in omega (arith, c);
    }
