-- The five steps of a call: on the words of blocks, and in the store that is left.
use Rattle.std.proofs.Common.{ℕ, ◌+◌, ◌-◌, ◌<◌, ◌≤◌, ◌≡◌, ◌≢◌, true, List, [], ◌∷◌, ◌++◌, length, set, refl, sym, ap, ◌∙◌, subst, arith, ⊎_elim, Some, None}
use Rattle.std.proofs.lemmas.Bool.{cases_eq}
use Rattle.std.proofs.lemmas.List.{length-set}
use Rattle.std.specs.List.{AllByRecursion, slice_set}
use Rattle.pict_core.specs.Closed.{IsClosed}
use Rattle.pict_core.specs.Primitives.{Answer}
use Rattle.pict_core.specs.Step.{Quiet, Comm}
use Rattle.pict_core.specs.Term.{Process, Val, Var, Chan, PrimitiveVal, Out, In}
use Rattle.pict_code.specs.Instruction.{Bind}
use Rattle.pict_code.specs.ReadBack.{unleveled}
use Rattle.pict_code.specs.Nodes.{nodes_of}
use Rattle.pict_heap.specs.HeapState.{HeapState, value_of, KeepsWords, LosesNoRoom}
use Rattle.pict_heap.specs.Packed.{packed, FitsWord}
use Rattle.pict_heap.proofs.Rooms.{room_stays, room_kept}
use Rattle.pict_region.specs.RegionState.{RegionState, spare, KeepsOtherWidths}
use Rattle.pict_region.proofs.Pairs.{length_gathered}
use Rattle.pict_queue.specs.QueuesState.{QueuesState, IsQueue}
use Rattle.pict_queue.specs.Contents.{contents, KeepsOtherContents, HoldsNoMore}
use Rattle.pict_view.specs.Moved.{Moves}
use Rattle.pict_view.specs.Placed.{next_view}
use Rattle.pict_view.specs.View.{View}
use Rattle.pict_view.proofs.Rows.{primitive_answers}
use Rattle.pict_blocks.specs.Blocks.{process_of, view_of_contents}
use Rattle.pict_blocks.specs.Framed.{gathered, node_words}
use Rattle.pict_blocks.specs.Holding.{HoldsFrame}
use Rattle.pict_blocks.specs.Keeping.{kept_words}
use Rattle.pict_blocks.specs.Laws.{BlocksStep}
use Rattle.pict_blocks.specs.Parts.{block_width}
use Rattle.pict_blocks.proofs.Forking.{parts_fork}
use Rattle.pict_blocks.proofs.Holding.{narrow_holds, width_narrow}
use Rattle.pict_blocks.proofs.Meeting.{inputs_stand, outputs_stand, outputs_meet}
use Rattle.pict_blocks.proofs.Opening.{news_make_channels}
use Rattle.pict_desk.specs.Arguments.{operand_in}
use Rattle.pict_desk.specs.Known.{pair_at, value_in, known}
use Rattle.pict_desk.specs.Pairs.{IsPair, ArePairs}
use Rattle.pict_desk.proofs.Making.{keeps_all, keeps_more}
use Rattle.pict_desk.proofs.MakingRoom.{keeps_words}
use Rattle.pict_desk.proofs.Pairs.{value_packed, set_pairs}
use Rattle.pict_meetings.proofs.Inputs.{has_part, pattern_inside}
use Rattle.pict_meetings.proofs.OneLevel.{bound_here}
use Rattle.pict_meetings.specs.Waiting.{oldest}
use Rattle.pict_meetings.specs.declared.waiting.Waiting.TheVariants.{Nothing, Output}
use Rattle.pict_meetings.proofs.Waits.{channel_there, input_waits}
use Rattle.pict_turns.specs.Acting.{IsStore}
use Rattle.pict_turns.specs.Channels.{AddsChannel}
use Rattle.pict_turns.specs.Reserving.{OnlyReserves}
use Rattle.pict_turns.specs.Turns.{IsNarrow, IsTurn}
use Rattle.pict_turns.specs.Views.{lists_from, channel_lists, frame_in, words_of_turn, turn_words, view_with_turn, IsBlock, AreBlocks, IsInputAt, CanWait, AreWaiting}
use Rattle.pict_turns.specs.declared.store.Store.{Store}
use Rattle.pict_turns.specs.declared.turn.Turn.{Turn}
use Rattle.pict_turns.specs.declared.turn.Turn.TheVariants.{Node as NodeTurn}
use Rattle.pict_turns.proofs.Room.{view_still}
use Rattle.pict_turns.proofs.Rows.{length_lists, made_block, store_by}
use Rattle.pict_turns.proofs.Steps.{nothing_past, channel_added}
use Rattle.pict_turns.proofs.Turns.{frame_is, room_for, view_is}
use Rattle.pict_turns.proofs.Views.{block_stays, blocks_stay, list_set}
use Rattle.pict_acting.proofs.CallNodes.{narrow_block}
use Rattle.pict_acting.specs.Chain.{KeepsOtherLevels, BeginsCall, MakesCall}
use Rattle.pict_acting.specs.declared.chain.Call.{Call}
use Rattle.pict_acting.specs.declared.chain.Received.{Received}

-- The call begins in the store s. In c its channel is made; in n the reader waits there, and the part has the turn.
module _ (core : Process) (closed : IsClosed core) (s c n : Store) (number channel : ℕ) (call : Call) (value : ℕ × ℕ) (store : IsStore core s) (turn : s.turn ≡ NodeTurn number)
    (b : BeginsCall core s.desk.heap s.desk.values.items number call) (idle : contents s.queues 0 ≡ []) (count : channel + 1 ≡ length s.queues.queues) (added : AddsChannel s c call.level)
    (fits : FitsWord call.answer) (packs : packed call.answer ≡ value)
    (heap : n.desk.heap ≡ s.desk.heap) (values : n.desk.values.items ≡ set c.desk.values.items call.bound value) (last : n.turn ≡ NodeTurn call.part)
    (pushed : contents n.queues (channel + 1) ≡ contents c.queues (channel + 1) ++ node_words c.desk.values.items call.reader b.waits.narrow.node.frame ∷ [])
    (rest : KeepsOtherContents c.queues n.queues (channel + 1)) (many : length n.queues.queues ≡ length c.queues.queues) (no_more : HoldsNoMore c.queues n.queues)
    (spare_queues : n.queues.spare_queues ≡ c.queues.spare_queues) (room : 1 ≤ spare n.queues.region (block_width b.part.node.frame)) where
  abbrev h : HeapState
  h = s.desk.heap

  abbrev v0 : List (ℕ × ℕ)
  v0 = s.desk.values.items

  abbrev v1 : List (ℕ × ℕ)
  v1 = c.desk.values.items

  abbrev v2 : List (ℕ × ℕ)
  v2 = set v1 call.bound value

  abbrev q0 : QueuesState
  q0 = s.queues

  abbrev q1 : QueuesState
  q1 = c.queues

  abbrev q2 : QueuesState
  q2 = n.queues

  levels : KeepsOtherLevels call.level v0 v1
  levels = added.others

  pairs1 : ArePairs h v1
  pairs1 = subst (λ (g : HeapState). ArePairs g v1) added.heap added.pairs

  here : known h v1 call.level ≡ Chan channel
  here =
      let e : length q0.queues - 1 ≡ channel = omega (arith, count) in
      subst (λ (g : HeapState). known g v1 call.level ≡ Chan channel) added.heap (added.value ∙ ap Chan e)

  inside : call.bound < length v1
  inside =
      let form = has_part core call.reader call.part b.waits.narrow.node true (Var call.level) (Bind call.bound) b.waits.narrow.at b.waits.is in
      let low = (pattern_inside core (Bind call.bound) call.part form s store).0 in
      let e = added.levels in
      omega (arith, low, e)

  is_answer : value_in h value.0 value.1 ≡ value_of h call.answer
  is_answer = value_packed h call.answer value fits packs

  -- ---- on the words of blocks

  -- the words of a node
  abbrev words : List (ℕ × ℕ) → (number : ℕ) → IsNarrow core number → List ℕ
  words values number n = node_words values number n.node.frame

  abbrev begin_words : List ℕ
  begin_words = words v0 number b.opens.narrow

  abbrev both_words : List ℕ
  both_words = words v1 b.both b.forks.narrow

  abbrev reader_words : List ℕ
  reader_words = words v1 call.reader b.waits.narrow

  abbrev output_words : List ℕ
  output_words = words v1 b.output b.sends.narrow

  -- the output of the answer
  abbrev answer_words : List ℕ
  answer_words = kept_words (record { to = pair_at v1 call.level; message = value; at = b.answer.at })

  abbrev part_words : List ℕ
  part_words = words v2 call.part b.part

  abbrev received : Val
  received = value_in h value.0 value.1

  more : length q1.queues ≡ length q0.queues + 1
  more = added.queues

  lists_count : channel ≡ length (channel_lists q0)
  lists_count = let e = length_lists q0 1 (length q0.queues - 1) in omega (arith, e, count)

  opens : BlocksStep core h (begin_words ∷ []) (channel_lists q0) Quiet (both_words ∷ []) (channel_lists q1)
  opens =
      subst (λ (lists : List (List (List ℕ))). BlocksStep core h (begin_words ∷ []) (channel_lists q0) Quiet (both_words ∷ []) lists) (sym (channel_added q0 q1 added.contents more store.ready))
      (news_make_channels core h v0 v1 number call.level b.both b.opens.narrow.node b.forks.narrow.node begin_words both_words (narrow_block core h v0 number b.opens.narrow) b.opens.is (narrow_block core h v1 b.both b.forks.narrow)
      [] (channel_lists q0) (λ k low. levels k (λ e. omega (arith, e, low))) (here ∙ ap Chan lists_count))

  forks : BlocksStep core h (both_words ∷ []) (channel_lists q1) Quiet (reader_words ∷ output_words ∷ []) (channel_lists q1)
  forks =
      parts_fork core h v1 b.both call.reader b.output b.forks.narrow.node b.waits.narrow.node b.sends.narrow.node both_words reader_words output_words (narrow_block core h v1 b.both b.forks.narrow) b.forks.is
      (narrow_block core h v1 call.reader b.waits.narrow) (narrow_block core h v1 b.output b.sends.narrow) [] (channel_lists q1)

  -- ---- the reader waits alone at the channel

  there : IsQueue q1 (channel + 1)
  there = omega (arith, more, count)

  nothing : contents q1 (channel + 1) ≡ []
  nothing = added.contents (channel + 1) ∙ nothing_past q0 (channel + 1) (omega (arith, count))

  alone : contents q2 (channel + 1) ≡ reader_words ∷ []
  alone = pushed ∙ ap (λ (ws : List (List ℕ)). ws ++ reader_words ∷ []) nothing

  stands : (body : Process) × (process_of core (value_in h) reader_words ≡ In (known h v1 call.level) true (unleveled (Bind call.bound)) body)
  stands = inputs_stand core h v1 call.reader call.part true (Var call.level) (Bind call.bound) b.waits.narrow.node reader_words closed (narrow_block core h v1 call.reader b.waits.narrow) b.waits.is

  reads : process_of core (value_in h) reader_words ≡ In (Chan channel) true (unleveled (Bind call.bound)) stands.0
  reads = stands.1 ∙ ap (λ (v : Val). In v true (unleveled (Bind call.bound)) stands.0) here

  next_queue : 1 + channel ≡ channel + 1
  next_queue = omega arith

  lists_after : slice_set (channel_lists q1) channel (contents q1 (channel + 1) ++ reader_words ∷ []) ≡ channel_lists q2
  lists_after =
      ap (slice_set (channel_lists q1) channel) (sym (ap (contents q2) next_queue ∙ pushed))
      ∙ list_set q1 q2 1 (length q1.queues - 1) channel (omega (arith, more, count)) (λ queue apart. rest queue (λ e. apart (omega (arith, e))))
      ∙ ap (λ (n : ℕ). lists_from q2 1 (n - 1)) (sym many)

  waits : BlocksStep core h (reader_words ∷ output_words ∷ []) (channel_lists q1) Quiet (output_words ∷ []) (channel_lists q2)
  waits =
      subst (λ (lists : List (List (List ℕ))). BlocksStep core h (reader_words ∷ output_words ∷ []) (channel_lists q1) Quiet (output_words ∷ []) lists) lists_after
      (input_waits core h reader_words reader_words (output_words ∷ []) q1 channel there true (unleveled (Bind call.bound)) stands.0 reads reads (subst (AllByRecursion (CanWait core)) (sym nothing) tt)
      (λ e. let no_output : Nothing ≡ Output = sym (ap oldest nothing) ∙ e in cc))

  -- ---- the primitive answers, and the reader receives

  answers : BlocksStep core h (output_words ∷ []) (channel_lists q2) Quiet (answer_words ∷ []) (channel_lists q2)
  answers =
      primitive_answers (List ℕ) (process_of core (value_in h)) output_words [] (channel_lists q2) b.answer.primitive (operand_in h v1 b.answer.message) b.answer.at
      (record { printed = None; leaves = Answer (known h v1 call.level) (value_of h call.answer) })
      (outputs_stand core h v1 b.output (PrimitiveVal b.answer.primitive) b.answer.message b.answer.at b.sends.narrow.node output_words closed (narrow_block core h v1 b.output b.sends.narrow) (b.sends.is ∙ b.answer.is))
      (b.answer.effect v1 levels) (known h v1 call.level) (value_of h call.answer) answer_words refl (ap (λ (v : Val). Out (known h v1 call.level) v b.answer.at) is_answer)

  unset : slice_set (channel_lists q2) channel (reader_words ∷ []) ≡ channel_lists q2
  unset =
      ap (slice_set (channel_lists q2) channel) (sym (ap (contents q2) next_queue ∙ alone))
      ∙ list_set q2 q2 1 (length q2.queues - 1) channel (omega (arith, many, more, count)) (λ queue apart. refl)

  receives : BlocksStep core h (answer_words ∷ []) (channel_lists q2) (Comm channel received) (part_words ∷ []) (channel_lists q2)
  receives =
      subst (λ (lists : List (List (List ℕ))). BlocksStep core h (answer_words ∷ []) (channel_lists q2) (Comm channel received) (part_words ∷ []) lists) unset
      (outputs_meet core h v1 v2 channel received b.answer.at answer_words call.reader call.part true (Var call.level) (Bind call.bound) b.waits.narrow.node b.part.node reader_words part_words [] closed
      (ap (λ (v : Val). Out v received b.answer.at) here) (narrow_block core h v1 call.reader b.waits.narrow) b.waits.is (bound_here h v1 call.bound value inside) (narrow_block core h v2 call.part b.part) [] (channel_lists q2)
      (channel_there q2 channel (omega (arith, many, more, count)) ∙ ap Some alone))

  -- ---- the store that is left

  keeps : KeepsWords s.desk.heap n.desk.heap
  keeps = subst (KeepsWords s.desk.heap) (sym heap) (keeps_all s.desk.heap)

  reader_holds : HoldsFrame h (known h v1) b.waits.narrow.node.frame (gathered v1 b.waits.narrow.node.frame)
  reader_holds = narrow_holds h v1 b.waits.narrow.node.frame pairs1 b.waits.narrow.narrow

  blocks_left : AreBlocks core n
  blocks_left queue = ⊎_elim
      (λ (at : queue ≡ channel + 1).
      subst (λ (q : ℕ). AllByRecursion (IsBlock core n.desk.heap) (contents q2 q)) (sym at)
      (subst (AllByRecursion (IsBlock core n.desk.heap)) (sym alone)
      (block_stays h n.desk.heap keeps core reader_words (made_block core h (known h v1) call.reader b.waits.narrow.node (gathered v1 b.waits.narrow.node.frame) b.waits.narrow.at reader_holds), tt)))
      (λ (apart : queue ≢ channel + 1).
      subst (AllByRecursion (IsBlock core n.desk.heap)) (sym (rest queue apart ∙ added.contents queue)) (blocks_stay h n.desk.heap keeps core (contents q0 queue) (store.blocks queue)))
      (cases_eq queue (channel + 1))

  waiting_left : AreWaiting core q2
  waiting_left other =
      let reader : IsInputAt core call.reader =
      record { node = b.waits.narrow.node; at = b.waits.narrow.at; replicated = true; chan = Var call.level; pattern = Bind call.bound; part = call.part; is = b.waits.is } in
      ⊎_elim
      (λ (at : other ≡ channel).
      subst (λ (k : ℕ). AllByRecursion (CanWait core) (contents q2 (k + 1))) (sym at) (subst (AllByRecursion (CanWait core)) (sym alone) (reader, tt)))
      (λ (apart : other ≢ channel).
      subst (AllByRecursion (CanWait core)) (sym (rest (other + 1) (λ e. apart (omega (arith, e))) ∙ added.contents (other + 1))) (store.waiting other))
      (cases_eq other channel)

  pairs2 : ArePairs n.desk.heap n.desk.values.items
  pairs2 =
      subst (λ (g : HeapState). ArePairs g n.desk.values.items) (sym heap)
      (subst (ArePairs h) (sym values) (set_pairs h v1 call.bound call.answer value fits packs inside b.answer.word pairs1))

  turn_left : turn_words core n ≡ part_words ∷ []
  turn_left =
      ap (λ (t : Turn). words_of_turn (nodes_of core) n.desk.values.items t) last
      ∙ ap (λ (vs : List (ℕ × ℕ)). node_words vs call.part (frame_in (nodes_of core) call.part) ∷ []) values
      ∙ ap (λ (frame : List ℕ). node_words v2 call.part frame ∷ []) (frame_is core call.part b.part.node b.part.at)

  part_wide : length part_words + 1 ≡ block_width b.part.node.frame
  part_wide =
      let many_words = length_gathered v2 b.part.node.frame in
      let wide = width_narrow b.part.node.frame b.part.narrow in
      omega (arith, many_words, wide)

  levels_left : length n.desk.values.items ≡ length s.desk.values.items
  levels_left = ap length values ∙ length-set v1 call.bound value ∙ added.levels

  store_left : IsStore core n
  store_left =
      store_by core s n store keeps (let first = store.ready in omega (arith, many, more, first)) blocks_left waiting_left pairs2
      levels_left
      (subst (IsTurn core n.desk.heap n.desk.values.items) (sym last) b.part)
      (room_for core n part_words turn_left n.queues.region (subst (λ (w : ℕ). 1 ≤ spare n.queues.region w) (sym part_wide) room))

  -- ---- what the stores stand for

  view_before : view_with_turn core s ≡ view_of_contents core (value_in h) (begin_words ∷ []) (channel_lists q0)
  view_before =
      let own : turn_words core s ≡ begin_words ∷ [] =
      ap (λ (t : Turn). words_of_turn (nodes_of core) v0 t) turn
      ∙ ap (λ (frame : List ℕ). node_words v0 number frame ∷ []) (frame_is core number b.opens.narrow.node b.opens.narrow.at) in
      view_is core s begin_words own ∙ ap (λ (ws : List (List ℕ)). view_of_contents core (value_in h) (begin_words ∷ ws) (channel_lists q0)) idle

  view_left : view_with_turn core n ≡ view_of_contents core (value_in h) (part_words ∷ []) (channel_lists q2)
  view_left =
      let none : contents q2 0 ≡ [] = rest 0 (λ e. omega (arith, e)) ∙ added.contents 0 ∙ idle in
      view_is core n part_words turn_left
      ∙ ap (λ (g : HeapState). view_of_contents core (value_in g) (part_words ∷ contents q2 0) (channel_lists q2)) heap
      ∙ ap (λ (ws : List (List ℕ)). view_of_contents core (value_in h) (part_words ∷ ws) (channel_lists q2)) none

  pub call_made : MakesCall core s n (record { channel = channel; value = value })
  call_made = record {
    opened = view_of_contents core (value_in h) (both_words ∷ []) (channel_lists q1);
    forked = view_of_contents core (value_in h) (reader_words ∷ output_words ∷ []) (channel_lists q1);
    waiting = view_of_contents core (value_in h) (output_words ∷ []) (channel_lists q2);
    answered = view_of_contents core (value_in h) (answer_words ∷ []) (channel_lists q2);
    opens = ap next_view view_before ∙ opens;
    forks = forks;
    waits = waits;
    answers = answers;
    receives = receives ∙ ap (λ (v : View). Moves v (Comm channel received)) (sym view_left)
        ∙ ap (λ (g : HeapState). Moves (view_with_turn core n) (Comm channel (value_in g value.0 value.1))) (sym heap);
    pair = subst (λ (g : HeapState). IsPair g value) (sym heap) (record { word = call.answer; is = b.answer.word; fits = fits; packs = packs });
    store = store_left;
    keeps = keeps;
    levels = levels_left;
    queues = omega (arith, many, more);
    no_more = λ block held. added.no_more block (no_more block held);
    no_loss = let left = added.spare_queues in omega (arith, many, more, left, spare_queues);
    room = subst (λ (g : HeapState). LosesNoRoom s.desk.heap.room g.room) (sym heap) (room_stays s.desk.heap.room);
  }

-- where room was made before
pub call_after : (core : Process) (old s n : Store) (r : Received) → OnlyReserves old s → MakesCall core s n r → MakesCall core old n r
call_after core old s n r only m =
    let first = keeps_words old.desk.heap s.desk.heap only.heap in
    record {
      opened = m.opened;
      forked = m.forked;
      waiting = m.waiting;
      answered = m.answered;
      opens = sym (ap next_view (view_still core old s only)) ∙ m.opens;
      forks = m.forks;
      waits = m.waits;
      answers = m.answers;
      receives = m.receives;
      pair = m.pair;
      store = m.store;
      keeps = keeps_more old.desk.heap s.desk.heap n.desk.heap first m.keeps;
      levels = m.levels ∙ ap length only.values;
      queues = let e = ap length only.queues in let one = m.queues in omega (arith, e, one);
      no_more = λ block held. only.no_more block (m.no_more block held);
      no_loss = let e = ap length only.queues in let more = only.spare_queues in let least = m.no_loss in omega (arith, e, more, least);
      room = room_kept old.desk.heap.room s.desk.heap.room n.desk.heap.room only.room.kept m.room;
    }

-- ---- blocks

-- where one block is taken there is another of this width still
pub another_left : (old new : RegionState) (width other : ℕ) → spare new width + 1 ≡ spare old width → KeepsOtherWidths old new width → 1 ≤ spare old other → (width ≡ other → 2 ≤ spare old other)
    → 1 ≤ spare new other
another_left old new width other taken others one two = ⊎_elim
    (λ (same : other ≡ width).
    let both = two (sym same) in
    let here : spare new other + 1 ≡ spare old other = subst (λ (w : ℕ). spare new w + 1 ≡ spare old w) (sym same) taken in
    omega (arith, both, here))
    (λ (apart : other ≢ width). let e = others other apart in omega (arith, one, e))
    (cases_eq other width)
