-- The steps of nodes that need no partner, from what becomes of their parts.
use Rattle.std.proofs.Common.{ℕ, zero, suc, ◌+◌, ◌-◌, ◌≤◌, ◌≡◌, ◌==◌, Bool, cond, List, [], ◌∷◌, ◌++◌, length, map, refl, sym, ap, ◌∙◌, subst, arith, Some}
use Rattle.std.proofs.lemmas.List.{get_or_past}
use Rattle.std.specs.List.{AllByRecursion, slice_get}
use Rattle.pict_core.specs.Term.{Val, Process, Boolean, Chan}
use Rattle.pict_core.specs.Closed.{IsClosed}
use Rattle.pict_core.specs.Step.{Quiet}
use Rattle.pict_code.specs.Instruction as op
use Rattle.pict_code.specs.Instruction.{Node}
use Rattle.pict_code.specs.Nodes.{nodes_of}
use Rattle.pict_heap.specs.HeapState.{HeapState, KeepsWords}
use Rattle.pict_region.specs.Chain.{chain}
use Rattle.pict_region.specs.RegionState.{RegionState, spare}
use Rattle.pict_queue.specs.QueuesState.{QueuesState, QueueState, IsQueue, link_of, no_queue, LosesNoQueue}
use Rattle.pict_queue.specs.Contents.{held_words, contents, KeepsAllContents, KeepsOtherContents, HoldsNoMore}
use Rattle.pict_desk.specs.Known.{known, operand_value}
use Rattle.pict_blocks.proofs.Forking.{nodes_end, parts_fork, tests_choose}
use Rattle.pict_blocks.proofs.Opening.{news_make_channels}
use Rattle.pict_desk.specs.Pairs.{ArePairs}
use Rattle.pict_desk.proofs.Making.{keeps_all, keeps_more, pairs_keep, known_keeps, operand_keeps}
use Rattle.pict_turns.specs.Acting.{HasBlockFor, ActsBy, IsDone}
use Rattle.pict_turns.specs.Channels.{AddsChannel}
use Rattle.pict_blocks.specs.Holding.{HoldsFrame}
use Rattle.pict_turns.specs.Parts.{HandsOn, Spawns}
use Rattle.pict_blocks.specs.Parts.{block_width}
use Rattle.pict_desk.specs.Code.{HasFrame}
use Rattle.pict_turns.specs.Reserving.{CanHoldBoth}
use Rattle.pict_turns.specs.Turns.{IsTurn, handing, turn_cost}
use Rattle.pict_turns.specs.Views.{lists_from, channel_lists, turn_words, ready_words, acting_words, IsBlock}
use Rattle.pict_turns.specs.declared.store.Store.{Store}
use Rattle.pict_turns.specs.declared.turn.Turn.TheVariants.{Nobody}
use Rattle.pict_heap.proofs.Growth.{all_pushed}
use Rattle.pict_turns.proofs.Handing.{handed_room, handed_cost, handed_contents, handed_queues, handed_pairs, handed_no_more, first_left}
use Rattle.pict_blocks.proofs.Holding.{held_width}
use Rattle.pict_turns.proofs.Rows.{made_block, made_node, node_block_stays, turn_by, levels_keep, length_lists, channels_stay, blocks_by, waiting_by, ready_stay, store_by, done_by}
use Rattle.pict_turns.proofs.Turns.{acting_block, same_words, ready_is, room_for}
use Rattle.pict_turns.proofs.Views.{frame_held, lists_stay}

-- ---- the inert process

pub end_done : (core : Process) (old : Store) → ActsBy core old op.Zero → IsDone core old (record old { turn = Nobody }) Quiet
end_done core old a =
    done_by core old (record old { turn = Nobody }) a.acting (keeps_all old.desk.heap) (contents old.queues 0) (channel_lists old.queues) Quiet
    (nodes_end core old.desk.heap old.desk.values.items a.number a.node (acting_words core old) a.is a.op_is (contents old.queues 0) (channel_lists old.queues))
    refl refl
    (store_by core old (record old { turn = Nobody }) a.acting.store (keeps_all old.desk.heap) a.acting.store.ready a.acting.store.blocks a.acting.store.waiting a.acting.store.pairs refl tt tt)
    refl (omega arith) (λ block held. held) (omega arith)

-- ---- a part's block

-- what a block holds of the values of levels, whatever the heap calls them
same_held : (h : HeapState) (f g : ℕ → Val) (frame held : List ℕ) → map f frame ≡ map g frame → HoldsFrame h f frame held → HoldsFrame h g frame held
same_held h f g frame held e x = record { values = x.values ∙ e; narrow = x.narrow; wide = x.wide }

-- ---- a parallel composition

module _ (core : Process) (s h n : Store) (l r : ℕ) (first second : Node) (a : ActsBy core s (op.Par l r))
    (at_first : slice_get (nodes_of core) l ≡ Some first) (at_second : slice_get (nodes_of core) r ≡ Some second)
    (one : HandsOn core s h l first.frame) (other : Spawns h n r second.frame)
    (room : 1 ≤ spare n.queues.region (block_width first.frame)) (no_more : HoldsNoMore s.queues n.queues) (no_loss : LosesNoQueue s.queues n.queues) where
  forked_keeps : KeepsWords s.desk.heap n.desk.heap
  forked_keeps = keeps_more s.desk.heap h.desk.heap n.desk.heap one.keeps other.keeps

  first_held : HoldsFrame n.desk.heap (known s.desk.heap s.desk.values.items) first.frame one.held
  first_held = frame_held h.desk.heap n.desk.heap other.keeps (known s.desk.heap s.desk.values.items) first.frame one.held one.holds

  second_held : HoldsFrame n.desk.heap (known s.desk.heap s.desk.values.items) second.frame other.held
  second_held =
      same_held n.desk.heap (known h.desk.heap h.desk.values.items) (known s.desk.heap s.desk.values.items) second.frame other.held
      (ap (λ (vs : List (ℕ × ℕ)). map (known h.desk.heap vs) second.frame) one.values ∙ levels_keep core s.desk.heap h.desk.heap one.keeps s.desk.values.items a.acting.store.pairs second.frame) other.holds

  forked_words : turn_words core n ≡ (suc l ∷ one.held) ∷ []
  forked_words = same_words core h n other.turn other.values ∙ one.turn

  forked_turn : IsTurn core n.desk.heap n.desk.values.items n.turn
  forked_turn =
      turn_by core h n other.keeps (handed_pairs core s h l first.frame one a.acting.store.pairs) other.values other.turn one.is

  forked_room : AllByRecursion (HasBlockFor n.queues.region) (turn_words core n)
  forked_room =
      room_for core n (suc l ∷ one.held) forked_words n.queues.region
      (subst (λ (w : ℕ). 1 ≤ spare n.queues.region w) (sym (held_width n.desk.heap l first.frame one.held first_held.narrow first_held.wide)) room)

  fork_done : IsDone core s n Quiet
  fork_done =
      let levels : length n.desk.values.items ≡ length s.desk.values.items = ap length other.values ∙ ap length one.values in
      let same : length n.queues.queues ≡ length s.queues.queues = other.queues ∙ handed_queues core s h l first.frame one in
      let others : KeepsOtherContents s.queues n.queues 0 = λ queue apart. other.others queue apart ∙ handed_contents core s h l first.frame one queue in
      let pairs : ArePairs n.desk.heap n.desk.values.items =
      subst (ArePairs n.desk.heap) (sym (other.values ∙ one.values)) (pairs_keep s.desk.heap n.desk.heap forked_keeps s.desk.values.items a.acting.store.pairs) in
      let ready : ready_words core n ≡ (suc l ∷ one.held) ∷ (contents s.queues 0 ++ (suc r ∷ other.held) ∷ []) =
      ready_is core n (suc l ∷ one.held) forked_words
      ∙ ap (λ (rs : List (List ℕ)). (suc l ∷ one.held) ∷ rs) (other.last ∙ ap (λ (rs : List (List ℕ)). rs ++ (suc r ∷ other.held) ∷ []) (handed_contents core s h l first.frame one 0)) in
      done_by core s n a.acting forked_keeps ((suc l ∷ one.held) ∷ (contents s.queues 0 ++ (suc r ∷ other.held) ∷ [])) (channel_lists s.queues) Quiet
      (parts_fork core n.desk.heap s.desk.values.items a.number l r a.node first second (acting_words core s) (suc l ∷ one.held) (suc r ∷ other.held)
      (node_block_stays core s.desk.heap n.desk.heap forked_keeps s.desk.values.items a.acting.store.pairs a.number a.node (acting_words core s) (acting_block core s a.acting) a.is)
      a.op_is
      (made_node core s.desk.heap n.desk.heap forked_keeps s.desk.values.items a.acting.store.pairs l first one.held at_first first_held)
      (made_node core s.desk.heap n.desk.heap forked_keeps s.desk.values.items a.acting.store.pairs r second other.held at_second second_held)
      (contents s.queues 0) (channel_lists s.queues))
      ready (channels_stay s.queues n.queues others same)
      (store_by core s n a.acting.store forked_keeps (let low = a.acting.store.ready in omega (arith, same, low))
      (blocks_by core s n a.acting.store forked_keeps ((suc l ∷ one.held) ∷ (contents s.queues 0 ++ (suc r ∷ other.held) ∷ [])) ready (
        made_block core n.desk.heap (known s.desk.heap s.desk.values.items) l first one.held at_first first_held,
        all_pushed (IsBlock core n.desk.heap) (contents s.queues 0) (suc r ∷ other.held) (ready_stay core s n a.acting.store forked_keeps)
            (made_block core n.desk.heap (known s.desk.heap s.desk.values.items) r second other.held at_second second_held),
      ) others) (waiting_by core s n a.acting.store forked_keeps others) pairs levels forked_turn forked_room)
      levels (omega (arith, same)) no_more no_loss

-- the same by the frames of the parts
module _ (core : Process) (s h n : Store) (l r : ℕ) (first second : List ℕ) (one : HandsOn core s h l first) (other : Spawns h n r second) where
  pub fork_by : HasFrame (nodes_of core) l first → HasFrame (nodes_of core) r second → ActsBy core s (op.Par l r) → CanHoldBoth s first second → HoldsNoMore h.queues n.queues
      → LosesNoQueue h.queues n.queues → IsDone core s n Quiet
  fork_by f g a can no_more no_loss =
      let room : 1 ≤ spare n.queues.region (block_width first) =
      first_left h.queues.region n.queues.region (block_width first) (block_width second)
      (subst (λ (q : QueuesState). 1 ≤ spare q.region (block_width first)) (sym one.queues) can.one)
      (subst (λ (q : QueuesState). cond (block_width second == block_width first) 2 1 ≤ spare q.region (block_width second)) (sym one.queues) can.other)
      other.spare in
      fork_done core s h n l r f.node g.node a f.at g.at
      (subst (λ (frame : List ℕ). HandsOn core s h l frame) (sym f.is) one)
      (subst (λ (frame : List ℕ). Spawns h n r frame) (sym g.is) other)
      (subst (λ (frame : List ℕ). 1 ≤ spare n.queues.region (block_width frame)) (sym f.is) room)
      (λ block held. handed_no_more core s h l first one block (no_more block held))
      (subst (λ (q : QueuesState). LosesNoQueue q n.queues) one.queues no_loss)

  pub fork_cost : turn_cost core n ≤ block_width first + 4
  fork_cost =
      let c : turn_cost core n ≡ turn_cost core h = ap handing (same_words core h n other.turn other.values) in
      let e = handed_cost core s h l first one in
      omega (arith, c, e)

-- ---- a conditional

choose_done : (core : Process) (s n : Store) (l r : ℕ) (test : Val) (b : Bool) (part : Node) → IsClosed core → ActsBy core s (op.If test l r)
    → operand_value (known s.desk.heap s.desk.values.items) test ≡ Boolean b → slice_get (nodes_of core) (cond b l r) ≡ Some part
    → HandsOn core s n (cond b l r) part.frame → 1 ≤ spare n.queues.region (block_width part.frame) → IsDone core s n Quiet
choose_done core s n l r test b part closed a is at one room =
    let levels : length n.desk.values.items ≡ length s.desk.values.items = ap length one.values in
    let words = suc (cond b l r) ∷ one.held in
    let same = handed_queues core s n (cond b l r) part.frame one in
    let others : KeepsOtherContents s.queues n.queues 0 = λ queue apart. handed_contents core s n (cond b l r) part.frame one queue in
    let ready : ready_words core n ≡ words ∷ contents s.queues 0 =
    ready_is core n words one.turn ∙ ap (λ (rs : List (List ℕ)). words ∷ rs) (handed_contents core s n (cond b l r) part.frame one 0) in
    done_by core s n a.acting one.keeps (words ∷ contents s.queues 0) (channel_lists s.queues) Quiet
    (tests_choose core n.desk.heap s.desk.values.items a.number l r test b a.node part (acting_words core s) words closed
    (node_block_stays core s.desk.heap n.desk.heap one.keeps s.desk.values.items a.acting.store.pairs a.number a.node (acting_words core s) (acting_block core s a.acting) a.is)
    a.op_is (operand_keeps s.desk.heap n.desk.heap one.keeps s.desk.values.items a.acting.store.pairs test ∙ is) (made_node core s.desk.heap n.desk.heap one.keeps s.desk.values.items a.acting.store.pairs (cond b l r) part one.held at one.holds)
    (contents s.queues 0) (channel_lists s.queues))
    ready (channels_stay s.queues n.queues others same)
    (store_by core s n a.acting.store one.keeps (let low = a.acting.store.ready in omega (arith, same, low))
    (blocks_by core s n a.acting.store one.keeps (words ∷ contents s.queues 0) ready
    (made_block core n.desk.heap (known s.desk.heap s.desk.values.items) (cond b l r) part one.held at one.holds, ready_stay core s n a.acting.store one.keeps) others) (waiting_by core s n a.acting.store one.keeps others)
    (subst (ArePairs n.desk.heap) (sym one.values) (pairs_keep s.desk.heap n.desk.heap one.keeps s.desk.values.items a.acting.store.pairs)) levels
    one.is (handed_room core s n (cond b l r) part.frame one n.queues.region room))
    levels (omega (arith, same)) (handed_no_more core s n (cond b l r) part.frame one)
    (let count = ap (λ (q : QueuesState). length q.queues + q.spare_queues) one.queues in omega (arith, count))

-- the same by the frame of the part
pub choose_by : (core : Process) (s n : Store) (l r k : ℕ) (test : Val) (b : Bool) (frame : List ℕ) → IsClosed core → ActsBy core s (op.If test l r)
    → operand_value (known s.desk.heap s.desk.values.items) test ≡ Boolean b → k ≡ cond b l r → HasFrame (nodes_of core) k frame → HandsOn core s n k frame
    → 1 ≤ spare s.queues.region (block_width frame) → IsDone core s n Quiet
choose_by core s n l r k test b frame closed a is chosen f one block =
    let room : 1 ≤ spare n.queues.region (block_width frame) = subst (λ (q : QueuesState). 1 ≤ spare q.region (block_width frame)) (sym one.queues) block in
    choose_done core s n l r test b f.node closed a is (subst (λ (j : ℕ). slice_get (nodes_of core) j ≡ Some f.node) chosen f.at)
    (subst (λ (j : ℕ). HandsOn core s n j f.node.frame) chosen (subst (λ (ls : List ℕ). HandsOn core s n k ls) (sym f.is) one))
    (subst (λ (ls : List ℕ). 1 ≤ spare n.queues.region (block_width ls)) (sym f.is) room)

-- ---- a new channel

lists_last : (s : QueuesState) (k n : ℕ) → lists_from s k (suc n) ≡ lists_from s k n ++ contents s (k + n) ∷ []
lists_last s k zero = let e : k ≡ k + 0 = omega arith in ap (λ (q : ℕ). contents s q ∷ []) e
lists_last s k (suc n) =
    let e : k + 1 + n ≡ k + suc n = omega arith in
    ap (λ (ls : List (List (List ℕ))). contents s k ∷ ls) (lists_last s (k + 1) n) ∙ ap (λ (q : ℕ). contents s k ∷ (lists_from s (k + 1) n ++ contents s q ∷ [])) e

-- nothing is in a queue that isn't there
pub nothing_past : (s : QueuesState) (queue : ℕ) → length s.queues ≤ queue → contents s queue ≡ []
nothing_past s queue past =
    let none = get_or_past s.queues queue no_queue past in
    ap (λ (q : QueueState). map (held_words s.region) (chain (link_of s.region) q.first q.count)) none

-- a queue more is a channel more, with which nothing waits
pub channel_added : (old new : QueuesState) → KeepsAllContents old new → length new.queues ≡ length old.queues + 1 → IsQueue old 0 → channel_lists new ≡ channel_lists old ++ [] ∷ []
channel_added old new all more ready =
    let n = length old.queues - 1 in
    let e : length new.queues - 1 ≡ suc n = omega (arith, more, ready) in
    let last : length old.queues ≤ 1 + n = omega (arith, ready) in
    ap (lists_from new 1) e ∙ lists_last new 1 n
    ∙ ap (λ (ls : List (List (List ℕ))). ls ++ contents new (1 + n) ∷ []) (lists_stay old new 1 n (λ queue low. all queue))
    ∙ ap (λ (ws : List (List ℕ)). lists_from old 1 n ++ ws ∷ []) (all (1 + n) ∙ nothing_past old (1 + n) last)

module _ (core : Process) (s c n : Store) (level l : ℕ) (part : Node) (a : ActsBy core s (op.New level l)) (added : AddsChannel s c level)
    (at : slice_get (nodes_of core) l ≡ Some part) (one : HandsOn core c n l part.frame) (room : 1 ≤ spare n.queues.region (block_width part.frame)) where
  opened_keeps : KeepsWords s.desk.heap n.desk.heap
  opened_keeps = subst (λ h. KeepsWords h n.desk.heap) added.heap one.keeps

  channel_done : IsDone core s n Quiet
  channel_done =
      let words = suc l ∷ one.held in
      let levels : length n.desk.values.items ≡ length s.desk.values.items = ap length one.values ∙ added.levels in
      let ready : ready_words core n ≡ words ∷ contents s.queues 0 =
      ready_is core n words one.turn ∙ ap (λ (rs : List (List ℕ)). words ∷ rs) (handed_contents core c n l part.frame one 0 ∙ added.contents 0) in
      let others : KeepsOtherContents s.queues n.queues 0 = λ queue apart. handed_contents core c n l part.frame one queue ∙ added.contents queue in
      let many : length n.queues.queues ≡ length s.queues.queues + 1 = handed_queues core c n l part.frame one ∙ added.queues in
      let number : known n.desk.heap c.desk.values.items level ≡ Chan (length (channel_lists s.queues)) =
      known_keeps c.desk.heap n.desk.heap one.keeps c.desk.values.items added.pairs level ∙ added.value ∙ ap Chan (sym (length_lists s.queues 1 (length s.queues.queues - 1))) in
      done_by core s n a.acting opened_keeps (words ∷ contents s.queues 0) (channel_lists s.queues ++ [] ∷ []) Quiet
      (news_make_channels core n.desk.heap s.desk.values.items c.desk.values.items a.number level l a.node part (acting_words core s) words
      (node_block_stays core s.desk.heap n.desk.heap opened_keeps s.desk.values.items a.acting.store.pairs a.number a.node (acting_words core s) (acting_block core s a.acting) a.is)
      a.op_is (made_node core c.desk.heap n.desk.heap one.keeps c.desk.values.items added.pairs l part one.held at one.holds)
      (contents s.queues 0) (channel_lists s.queues)
      (λ other low. added.others other (λ same. omega (arith, same, low))) number)
      ready
      (ap (λ (q : QueuesState). channel_lists q) one.queues ∙ channel_added s.queues c.queues added.contents added.queues a.acting.store.ready)
      (store_by core s n a.acting.store opened_keeps (omega (arith, many))
      (blocks_by core s n a.acting.store opened_keeps (words ∷ contents s.queues 0) ready
      (made_block core n.desk.heap (known c.desk.heap c.desk.values.items) l part one.held at one.holds, ready_stay core s n a.acting.store opened_keeps) others) (waiting_by core s n a.acting.store opened_keeps others)
      (subst (ArePairs n.desk.heap) (sym one.values) (pairs_keep c.desk.heap n.desk.heap one.keeps c.desk.values.items added.pairs)) levels
      one.is (handed_room core c n l part.frame one n.queues.region room))
      levels (omega (arith, many)) (λ block held. added.no_more block (handed_no_more core c n l part.frame one block held))
      (let count = ap (λ (q : QueuesState). length q.queues + q.spare_queues) one.queues in let more = added.queues in let left = added.spare_queues in omega (arith, count, more, left))

-- the same by the frame of the part
pub channel_by : (core : Process) (s c n : Store) (level l : ℕ) (frame : List ℕ) → ActsBy core s (op.New level l) → AddsChannel s c level → HasFrame (nodes_of core) l frame
    → HandsOn core c n l frame → 1 ≤ spare s.queues.region (block_width frame) → IsDone core s n Quiet
channel_by core s c n level l frame a added f one block =
    let there : 1 ≤ spare c.queues.region (block_width frame) = subst (λ (r : RegionState). 1 ≤ spare r (block_width frame)) (sym added.region) block in
    let room : 1 ≤ spare n.queues.region (block_width frame) = subst (λ (q : QueuesState). 1 ≤ spare q.region (block_width frame)) (sym one.queues) there in
    channel_done core s c n level l f.node a added f.at
    (subst (λ (ls : List ℕ). HandsOn core c n l ls) (sym f.is) one)
    (subst (λ (ls : List ℕ). 1 ≤ spare n.queues.region (block_width ls)) (sym f.is) room)
