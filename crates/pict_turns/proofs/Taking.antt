-- The turn is taken from a block, and set down.
use Rattle.std.proofs.Common.{ℕ, suc, ◌+◌, ◌-◌, ◌*◌, ◌<◌, ◌≤◌, ◌≡◌, inl, inr, List, [], ◌∷◌, length, map, drop, get_or, refl, sym, ap, ◌∙◌, subst, arith, Some}
use Rattle.std.proofs.lemmas.Option.{slice_get_within}
use Rattle.std.specs.List.{AllByRecursion, slice_get}
use Rattle.pict_syntax.specs.declared.limits.TheConstants.{NARROW_LIMIT}
use Rattle.pict_core.specs.Term.{Process}
use Rattle.pict_code.specs.Instruction.{Node}
use Rattle.pict_code.specs.Nodes.{nodes_of}
use Rattle.pict_blocks.specs.Framed.{gathered, node_words}
use Rattle.pict_blocks.specs.Keeping.{kept_words}
use Rattle.pict_blocks.specs.Writing.{IsMade, OnlyWorks}
use Rattle.pict_desk.specs.declared.kept.Kept.{Kept}
use Rattle.pict_blocks.proofs.Costs.{costs_more}
use Rattle.pict_blocks.proofs.Held.{works_blocks}
use Rattle.pict_blocks.proofs.Outputs.{word_behind}
use Rattle.pict_heap.specs.HeapState.{HeapState}
use Rattle.pict_region.specs.RegionState.{spare, words_of, width_of, KeepsBlocks, KeepsOtherWidths}
use Rattle.pict_region.proofs.Pairs.{length_gathered}
use Rattle.pict_queue.specs.QueuesState.{QueuesState, KeepsRest, CostsAtMost}
use Rattle.pict_queue.specs.Contents.{held_words, contents, KeepsAllContents, KeepsOtherContents, HoldsOneMore, Releases}
use Rattle.pict_blocks.specs.Blocks.{frame_values, IsNodeBlock}
use Rattle.pict_desk.specs.Known.{value_in, known}
use Rattle.pict_desk.specs.Pairs.{ArePairs}
use Rattle.pict_desk.proofs.Making.{keeps_all}
use Rattle.pict_turns.specs.Acting.{IsStore, HasActing}
use Rattle.pict_blocks.specs.Holding.{HoldRecord}
use Rattle.pict_blocks.specs.Parts.{block_width}
use Rattle.pict_turns.specs.Reading.{HasRead, HasReadNode, OnlyReads}
use Rattle.pict_desk.specs.Code.{HasFrame}
use Rattle.pict_turns.specs.Turns.{IsNarrow, IsWide, IsTurn, ReadsTurn, TakesTurn, turn_cost}
use Rattle.pict_turns.specs.Views.{IsNode, IsKept, IsBlock, CanWait, words_of_turn, ready_words, acting_words}
use Rattle.pict_turns.specs.declared.store.Store.{Store}
use Rattle.pict_turns.specs.declared.turn.Turn.{Turn}
use Rattle.pict_turns.specs.declared.turn.Turn.TheVariants.{Nobody, Node as NodeTurn, Wide, Output}
use Rattle.pict_turns.proofs.AfterReading.{reads_works, reads_more, contents_read, words_read, queues_read, spare_read, no_more_read, store_read_idle}
use Rattle.pict_blocks.proofs.WordsHeld.{whole_length, pair_behind}
use Rattle.pict_blocks.proofs.Holding.{held_width}
use Rattle.pict_desk.proofs.Numbered.{same_frame}
use Rattle.pict_turns.proofs.Placing.{given_spare}
use Rattle.pict_turns.proofs.Rows.{store_by, blocks_by, waiting_by}
use Rattle.pict_turns.proofs.Turns.{ready_is, ready_blocks, frame_is, node_words_are, node_narrow, words_nobody, ready_nobody, nobody_turn, nobody_room, acting_is, has_words, cost_is, room_for}

-- ---- what a block holds is read

-- the frame of a node's block
pub node_read : (core : Process) (s n : Store) (number : ℕ) (words frame : List ℕ) → (x : IsNode core s.desk.heap words) → x.number ≡ number → HasFrame (nodes_of core) number frame
    → HasRead s n words frame → HasReadNode core s n number words
node_read core s n number words frame x number_is f r =
    let words_are : words ≡ suc number ∷ x.held = x.is ∙ ap (λ (k : ℕ). suc k ∷ x.held) number_is in
    let held : drop 1 words ≡ x.held = ap (drop 1) words_are in
    record {
      node = f.node;
      is = record {
        at = f.at;
        frame = x.held;
        words_are = words_are;
        holds = ap (λ (ls : List ℕ). frame_values (value_in n.desk.heap) (length ls) x.held) f.is ∙ ap (frame_values (value_in n.desk.heap) (length frame)) (sym held) ∙ r.values
            ∙ ap (map (known n.desk.heap n.desk.values.items)) (sym f.is);
      };
      same = λ few. words_are
          ∙ ap (λ (us : List ℕ). suc number ∷ us) (sym held ∙ r.same (subst (λ (ls : List ℕ). length ls ≤ NARROW_LIMIT) f.is few) ∙ ap (gathered n.desk.values.items) (sym f.is));
      rest = r.rest;
    }

module _ (core : Process) (h : HeapState) (number : ℕ) (words : List ℕ) (x : IsNode core h words) (number_is : x.number ≡ number) where
  pub node_low : number < length (nodes_of core)
  node_low = let low = slice_get_within (nodes_of core) x.number x.node x.at in omega (arith, low, number_is)

  -- how wide the block is
  pub words_width : (frame : List ℕ) → HasFrame (nodes_of core) number frame → length words + 1 ≡ block_width frame
  words_width frame f =
      let w = held_width h x.number x.node.frame x.held x.narrow x.wide in
      let l = ap length x.is in
      let same = ap block_width (same_frame (nodes_of core) number x.node.frame frame (record { node = x.node; at = ap (slice_get (nodes_of core)) (sym number_is) ∙ x.at; is = refl }) f) in
      omega (arith, w, l, same)

pub read_frame_is : (core : Process) (s n : Store) (number : ℕ) (words frame : List ℕ) → (read : HasReadNode core s n number words) → HasFrame (nodes_of core) number frame → read.node.frame ≡ frame
read_frame_is core s n number words frame read f = same_frame (nodes_of core) number read.node.frame frame (record { node = read.node; at = read.is.at; is = refl }) f

-- ---- who has the turn with what was read

module _ (core : Process) (s n : Store) (number : ℕ) (words : List ℕ) (x : IsNode core s.desk.heap words) (number_is : x.number ≡ number) (read : HasReadNode core s n number words) where
  pub narrow_taken : length read.node.frame ≤ NARROW_LIMIT → words_of_turn (nodes_of core) n.desk.values.items (NodeTurn number) ≡ words ∷ []
  narrow_taken few =
      ap (λ (ls : List ℕ). node_words n.desk.values.items number ls ∷ []) (frame_is core number read.node read.is.at) ∙ ap (λ (ws : List ℕ). ws ∷ []) (sym (read.same few))

  same_node : x.node ≡ read.node
  same_node =
      let there : Some x.node ≡ Some read.node = sym x.at ∙ ap (slice_get (nodes_of core)) number_is ∙ read.is.at in
      cc

  pub record_held : NARROW_LIMIT < length read.node.frame → HoldRecord s.desk.heap (length read.node.frame) x.held
  record_held = subst (λ (y : Node). NARROW_LIMIT < length y.frame → HoldRecord s.desk.heap (length y.frame) x.held) same_node x.wide

  pub narrow_turn_taken : length read.node.frame ≤ NARROW_LIMIT → IsNarrow core number
  narrow_turn_taken few = record { node = read.node; at = read.is.at; narrow = few }

  held_are : (many : NARROW_LIMIT < length read.node.frame) → words ≡ suc number ∷ (record_held many).pair.0 ∷ (record_held many).pair.1 ∷ []
  held_are many = x.is ∙ ap (λ (k : ℕ). suc k ∷ x.held) number_is ∙ ap (λ (us : List ℕ). suc number ∷ us) (record_held many).is

  module _ (many : NARROW_LIMIT < length read.node.frame) (pair : ℕ × ℕ) (ws : List ℕ) (words_are : words ≡ drop 1 ws) (first : pair.0 ≡ get_or ws 2 0) (second : pair.1 ≡ get_or ws 3 0) where
    pub wide_held : words ≡ suc number ∷ pair.0 ∷ pair.1 ∷ []
    wide_held =
        let p = pair_behind ws number (record_held many).pair.0 (record_held many).pair.1 (sym words_are ∙ held_are many) in
        held_are many ∙ ap (λ (a : ℕ). suc number ∷ a ∷ (record_held many).pair.1 ∷ []) (sym (first ∙ p.0)) ∙ ap (λ (b : ℕ). suc number ∷ pair.0 ∷ b ∷ []) (sym (second ∙ p.1))

    pub wide_taken : IsWide core n.desk.heap n.desk.values.items number pair
    wide_taken =
        let held : x.held ≡ pair.0 ∷ pair.1 ∷ [] = ap (drop 1) (sym x.is ∙ wide_held) in
        record {
          node = read.node;
          wide = many;
          is = subst (IsNodeBlock core n.desk.heap n.desk.values.items number read.node) wide_held read.is;
          record_is = subst (λ (h : HeapState). HoldRecord h (length read.node.frame) (pair.0 ∷ pair.1 ∷ [])) (sym read.rest.heap)
              (subst (HoldRecord s.desk.heap (length read.node.frame)) held (record_held many));
        }

-- ---- what a block of who has the turn takes

-- a node of at most `NARROW_LIMIT` levels
pub record NodeFits (core : Process) (s : Store) (number : ℕ) (frame : List ℕ) : Type 0 where
  pub narrow : length frame ≤ NARROW_LIMIT
  pub words : acting_words core s ≡ node_words s.desk.values.items number frame
  pub long : length (node_words s.desk.values.items number frame) + 1 ≡ 2 + 2 * length frame
  pub width : length (acting_words core s) + 1 ≡ 2 + 2 * length frame

pub node_fits : (core : Process) (s : Store) (a : HasActing core s) (number : ℕ) → s.turn ≡ NodeTurn number → (frame : List ℕ) → HasFrame (nodes_of core) number frame → NodeFits core s number frame
node_fits core s a number e frame f =
    let words : acting_words core s ≡ node_words s.desk.values.items number frame = node_words_are core s a number e f.node f.at ∙ ap (node_words s.desk.values.items number) f.is in
    let many = length_gathered s.desk.values.items frame in
    let same = ap length words in
    record {
      narrow = subst (λ (ls : List ℕ). length ls ≤ NARROW_LIMIT) f.is (node_narrow core s a number e f.node f.at);
      words = words;
      long = omega (arith, many);
      width = omega (arith, many, same);
    }

-- ---- what a block is, by its word 1

module _ (core : Process) (h : HeapState) (ws : List ℕ) where
  pub block_wide : IsBlock core h (drop 1 ws) → length ws ≡ length (drop 1 ws) + 1
  block_wide (inl n) = let w = whole_length ws (suc n.number) n.held n.is in let l = ap length n.is in omega (arith, w, l)
  block_wide (inr k) = let w = whole_length ws 0 (drop 1 (kept_words k.kept)) k.is in let l = ap length k.is in omega (arith, w, l)

  pub kept_first : IsBlock core h (drop 1 ws) → get_or ws 1 0 ≡ 0 → IsKept h (drop 1 ws)
  kept_first (inl n) e = let f = word_behind ws (suc n.number ∷ n.held) 0 n.is in absurd (omega (arith, e, f))
  kept_first (inr k) e = k

  pub node_first : IsBlock core h (drop 1 ws) → 1 ≤ get_or ws 1 0 → (n : IsNode core h (drop 1 ws)) × (n.number ≡ get_or ws 1 0 - 1)
  node_first (inl n) some = let f = word_behind ws (suc n.number ∷ n.held) 0 n.is in (n, omega (arith, f))
  node_first (inr k) some = let f = word_behind ws (kept_words k.kept) 0 k.is in absurd (omega (arith, some, f))

pub kept_taken : (h : HeapState) (words : List ℕ) (k : IsKept h words) (kept : Kept) → kept ≡ k.kept → IsKept h (kept_words kept)
kept_taken h words k kept e = subst (IsKept h) (k.is ∙ ap kept_words (sym e)) k

-- ---- somebody has the turn or nobody

words_some : (nodes : List Node) (values : List (ℕ × ℕ)) (turn : Turn) → ¬ (turn ≡ Nobody) → words_of_turn nodes values turn ≡ get_or (words_of_turn nodes values turn) 0 [] ∷ []
words_some nodes values Nobody apart = absurd (apart refl)
words_some nodes values (NodeTurn number) apart = refl
words_some nodes values (Wide number pair) apart = refl
words_some nodes values (Output kept) apart = refl

pub some_acts : (core : Process) (s : Store) → IsStore core s → ¬ (s.turn ≡ Nobody) → HasActing core s
some_acts core s store apart = record { store = store; has = words_some (nodes_of core) s.desk.values.items s.turn apart }

pub some_other : (turn : Turn) → ¬ (turn ≡ Nobody) → ((number : ℕ) → ¬ (turn ≡ NodeTurn number)) → ((number : ℕ) (pair : ℕ × ℕ) → ¬ (turn ≡ Wide number pair))
    → ((kept : Kept) → ¬ (turn ≡ Output kept)) → ⊥
some_other Nobody nobody node wide output = nobody refl
some_other (NodeTurn number) nobody node wide output = node number refl
some_other (Wide number pair) nobody node wide output = wide number pair refl
some_other (Output kept) nobody node wide output = output kept refl

-- ---- the first of queue 0 gets the turn

-- it is popped
module _ (core : Process) (old : Store) (popped : QueuesState) (store : IsStore core old) (idle : old.turn ≡ Nobody) (words : List ℕ)
    (first : contents old.queues 0 ≡ words ∷ contents popped 0) (others : KeepsOtherContents old.queues popped 0) (many : length popped.queues ≡ length old.queues.queues) where
  front : AllByRecursion (IsBlock core old.desk.heap) (words ∷ contents popped 0)
  front = subst (AllByRecursion (IsBlock core old.desk.heap)) first (store.blocks 0)

  pub popped_block : IsBlock core old.desk.heap words
  popped_block = front.0

  pub popped_store : IsStore core (record old { queues = popped })
  popped_store =
      let new : Store = record old { queues = popped } in
      store_by core old new store (keeps_all old.desk.heap) (let low = store.ready in omega (arith, low, many))
      (blocks_by core old new store (keeps_all old.desk.heap) (contents popped 0) (ready_nobody core new (words_nobody core new idle)) front.1 others)
      (waiting_by core old new store (keeps_all old.desk.heap) others) store.pairs refl
      (nobody_turn core old.desk.heap old.desk.values.items old.turn idle) (nobody_room core new popped.region idle)

-- its frame is read, and its block is given back
module _ (core : Process) (s n : Store) (block : ℕ) (turn : Turn) (given : QueuesState) (store : IsStore core s) (idle : s.turn ≡ Nobody)
    (is : IsBlock core s.desk.heap (held_words s.queues.region block)) (read : OnlyReads s n)
    (words : words_of_turn (nodes_of core) n.desk.values.items turn ≡ held_words s.queues.region block ∷ []) (may : IsTurn core n.desk.heap n.desk.values.items turn)
    (contents_kept : KeepsAllContents n.queues given) (queues_kept : given.queues ≡ n.queues.queues)
    (freed : spare given.region (width_of n.queues.region block) ≡ spare n.queues.region (width_of n.queues.region block) + 1)
    (widths : KeepsOtherWidths n.queues.region given.region (width_of n.queues.region block)) where
  abbrev last : Store
  last = record n { queues = given; turn = turn }

  width_is : width_of n.queues.region block ≡ length (held_words s.queues.region block) + 1
  width_is =
      ap (λ (q : QueuesState). width_of q.region block) read.queues ∙ block_wide core s.desk.heap (words_of s.queues.region block) is

  pub taken_spare_more : (width : ℕ) → spare s.queues.region width ≤ spare given.region width
  taken_spare_more width =
      let more = given_spare n.queues.region given.region (width_of n.queues.region block) freed widths width in
      let e = spare_read s n read width in
      omega (arith, more, e)

  pub taken_freed : spare given.region (length (held_words s.queues.region block) + 1) ≡ spare s.queues.region (length (held_words s.queues.region block) + 1) + 1
  taken_freed =
      let f : spare given.region (length (held_words s.queues.region block) + 1) ≡ spare n.queues.region (length (held_words s.queues.region block) + 1) + 1 =
      subst (λ (w : ℕ). spare given.region w ≡ spare n.queues.region w + 1) width_is freed in
      let e = spare_read s n read (length (held_words s.queues.region block) + 1) in
      omega (arith, f, e)

  pub taken_acting : HasActing core last
  taken_acting =
      let before = store_read_idle s n read core idle store in
      record {
        store = record {
          ready = let low = before.ready in let e = ap length queues_kept in omega (arith, low, e);
          blocks = λ queue. subst (AllByRecursion (IsBlock core n.desk.heap)) (sym (contents_kept queue)) (before.blocks queue);
          waiting = λ channel. subst (AllByRecursion (CanWait core)) (sym (contents_kept (channel + 1))) (before.waiting channel);
          pairs = before.pairs;
          levels = before.levels;
          turn = may;
          room = room_for core last (held_words s.queues.region block) words given.region (let f = taken_freed in omega (arith, f));
        };
        has = has_words core last (held_words s.queues.region block) words;
      }

-- all of it
module _ (core : Process) (old : Store) (popped : QueuesState) (block : ℕ) (n : Store) (turn : Turn) (given : QueuesState) (store : IsStore core old) (idle : old.turn ≡ Nobody)
    (first : contents old.queues 0 ≡ held_words popped.region block ∷ contents popped 0) (others : KeepsOtherContents old.queues popped 0) (rest : KeepsRest old.queues popped)
    (blocks_popped : KeepsBlocks old.queues.region popped.region) (more : HoldsOneMore old.queues popped block)
    (read : OnlyReads (record old { queues = popped }) n)
    (words : words_of_turn (nodes_of core) n.desk.values.items turn ≡ held_words popped.region block ∷ []) (may : IsTurn core n.desk.heap n.desk.values.items turn)
    (contents_kept : KeepsAllContents n.queues given) (queues_kept : given.queues ≡ n.queues.queues)
    (freed : spare given.region (width_of n.queues.region block) ≡ spare n.queues.region (width_of n.queues.region block) + 1)
    (widths : KeepsOtherWidths n.queues.region given.region (width_of n.queues.region block))
    (gone : Releases n.queues given block) (blocks_given : KeepsBlocks n.queues.region given.region) where
  abbrev mid : Store
  mid = record old { queues = popped }

  abbrev end : Store
  end = record n { queues = given; turn = turn }

  is_block : IsBlock core old.desk.heap (held_words popped.region block)
  is_block = popped_block core old popped store idle (held_words popped.region block) first others rest.queues

  mid_store : IsStore core mid
  mid_store = popped_store core old popped store idle (held_words popped.region block) first others rest.queues

  pub turn_acting : HasActing core end
  turn_acting = taken_acting core mid n block turn given mid_store idle is_block read words may contents_kept queues_kept freed widths

  acting_held : acting_words core end ≡ held_words popped.region block
  acting_held = acting_is core end (held_words popped.region block) words

  pub turn_takes : given.spare_queues ≡ n.queues.spare_queues → TakesTurn core old end
  turn_takes spare_kept =
      let kept : contents given 0 ≡ contents popped 0 = contents_kept 0 ∙ contents_read mid n read 0 in
      record {
        first = first ∙ ap (λ (ws : List ℕ). ws ∷ contents popped 0) (sym acting_held) ∙ ap (λ (rs : List (List ℕ)). acting_words core end ∷ rs) (sym kept);
        others = λ queue apart. contents_kept queue ∙ contents_read mid n read queue ∙ others queue apart;
        queues = ap length queues_kept ∙ queues_read mid n read ∙ rest.queues;
        spare_queues = spare_kept ∙ ap (λ (s : QueuesState). s.spare_queues) read.queues ∙ rest.spare_queues;
        spare = λ width.
            let e : spare popped.region width ≡ spare old.queues.region width = ap (λ (f : List ℕ). get_or f width 0) rest.free in
            let m = taken_spare_more core mid n block turn given mid_store idle is_block read words may contents_kept queues_kept freed widths width in
            omega (arith, e, m);
        freed = subst (λ (ws : List ℕ). spare given.region (length ws + 1) ≡ spare old.queues.region (length ws + 1) + 1) (sym acting_held)
            (let e : spare popped.region (length (held_words popped.region block) + 1) ≡ spare old.queues.region (length (held_words popped.region block) + 1) =
            ap (λ (f : List ℕ). get_or f (length (held_words popped.region block) + 1) 0) rest.free in
            let f = taken_freed core mid n block turn given mid_store idle is_block read words may contents_kept queues_kept freed widths in
            omega (arith, e, f));
        blocks = λ width. blocks_given width ∙ works_blocks popped n.queues read.queues width ∙ blocks_popped width;
        no_more = λ other is. let g = gone other is in more other (no_more_read mid n read other g.1) g.0;
        heap = read.heap;
        pending = read.pending;
        levels = read.levels;
      }

  -- what it takes: the first is popped, and then read and given back
  pub turn_costs : CostsAtMost 3 old.queues popped → CostsAtMost (length (held_words popped.region block) + 2) popped given → CostsAtMost (turn_cost core end) old.queues given
  turn_costs a b =
      let cost = cost_is core end (held_words popped.region block) words in
      costs_more old.queues popped given 3 (length (held_words popped.region block) + 2) (turn_cost core end) (omega (arith, cost)) a b

-- ---- the turn is set down at the front of queue 0

module _ (core : Process) (s : Store) (made new : QueuesState) (block : ℕ) (a : HasActing core s)
    (m : IsMade s.queues made block (acting_words core s) (length (acting_words core s) + 1))
    (pushed : contents new 0 ≡ held_words made.region block ∷ contents made 0) (others : KeepsOtherContents made new 0) (many : length new.queues ≡ length made.queues) where
  abbrev rested : Store
  rested = record s { queues = new; turn = Nobody }

  pub rested_ready : contents new 0 ≡ ready_words core s
  rested_ready =
      pushed ∙ ap (λ (ws : List ℕ). ws ∷ contents made 0) m.here ∙ ap (λ (rs : List (List ℕ)). acting_words core s ∷ rs) (m.contents 0) ∙ sym (ready_is core s (acting_words core s) a.has)

  pub rested_others : KeepsOtherContents s.queues new 0
  rested_others queue apart = others queue apart ∙ m.contents queue

  pub rested_queues : length new.queues ≡ length s.queues.queues
  rested_queues = many ∙ ap length m.queues

  pub rested_store : IsStore core rested
  rested_store =
      let same = rested_queues in
      store_by core s rested a.store (keeps_all s.desk.heap) (let low = a.store.ready in omega (arith, low, same))
      (blocks_by core s rested a.store (keeps_all s.desk.heap) (ready_words core s) rested_ready (ready_blocks core s a.store) rested_others)
      (waiting_by core s rested a.store (keeps_all s.desk.heap) rested_others) a.store.pairs refl tt tt
