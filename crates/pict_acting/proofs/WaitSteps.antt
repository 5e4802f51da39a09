-- The three steps of a reader that waits at a new channel: on the words of blocks, and in the store that is left.
use Rattle.std.proofs.Common.{ℕ, ◌+◌, ◌-◌, ◌≡◌, ◌≢◌, List, [], ◌∷◌, ◌++◌, length, refl, sym, ap, ◌∙◌, subst, arith, ⊎_elim}
use Rattle.std.proofs.lemmas.Bool.{cases_eq}
use Rattle.std.specs.List.{AllByRecursion, slice_set}
use Rattle.pict_core.specs.Closed.{IsClosed}
use Rattle.pict_core.specs.Step.{Quiet}
use Rattle.pict_core.specs.Term.{Process, Val, Var, Chan, In}
use Rattle.pict_code.specs.ReadBack.{unleveled}
use Rattle.pict_code.specs.Nodes.{nodes_of}
use Rattle.pict_heap.specs.HeapState.{HeapState, KeepsWords}
use Rattle.pict_heap.proofs.Rooms.{room_stays, room_kept}
use Rattle.pict_heap.specs.HeapState.{LosesNoRoom}
use Rattle.pict_queue.specs.QueuesState.{QueuesState, IsQueue}
use Rattle.pict_queue.specs.Contents.{contents}
use Rattle.pict_view.specs.Moved.{Moves}
use Rattle.pict_view.specs.Placed.{next_view}
use Rattle.pict_view.specs.View.{View}
use Rattle.pict_blocks.specs.Blocks.{process_of, view_of_contents}
use Rattle.pict_blocks.specs.Framed.{gathered, node_words}
use Rattle.pict_blocks.specs.Laws.{BlocksStep}
use Rattle.pict_blocks.proofs.Forking.{parts_fork}
use Rattle.pict_blocks.proofs.Holding.{narrow_holds}
use Rattle.pict_blocks.proofs.Meeting.{inputs_stand}
use Rattle.pict_blocks.proofs.Opening.{news_make_channels}
use Rattle.pict_desk.specs.Known.{value_in, known}
use Rattle.pict_desk.specs.Pairs.{ArePairs}
use Rattle.pict_desk.proofs.Making.{keeps_all, keeps_more}
use Rattle.pict_desk.proofs.MakingRoom.{keeps_words}
use Rattle.pict_meetings.specs.Waiting.{oldest}
use Rattle.pict_meetings.specs.declared.waiting.Waiting.TheVariants.{Nothing, Output}
use Rattle.pict_meetings.proofs.Waits.{input_waits}
use Rattle.pict_turns.specs.Acting.{IsStore}
use Rattle.pict_turns.specs.Channels.{AddsChannel}
use Rattle.pict_turns.specs.Reserving.{OnlyReserves}
use Rattle.pict_turns.specs.Turns.{IsNarrow}
use Rattle.pict_turns.specs.Views.{lists_from, channel_lists, words_of_turn, view_with_turn, IsBlock, IsInputAt, CanWait, AreWaiting}
use Rattle.pict_turns.specs.declared.store.Store.{Store}
use Rattle.pict_turns.specs.declared.turn.Turn.{Turn}
use Rattle.pict_turns.specs.declared.turn.Turn.TheVariants.{Nobody, Node as NodeTurn}
use Rattle.pict_turns.proofs.Room.{view_still}
use Rattle.pict_turns.proofs.Rows.{length_lists, channels_stay, made_block, store_by}
use Rattle.pict_turns.proofs.Steps.{nothing_past, channel_added}
use Rattle.pict_turns.proofs.Turns.{frame_is, view_is}
use Rattle.pict_turns.proofs.Views.{blocks_stay, list_set}
use Rattle.pict_acting.proofs.CallNodes.{narrow_block}
use Rattle.pict_acting.specs.Opening.{OpensFor, WaitsFor, PutsLast, MakesWait}
use Rattle.pict_acting.specs.declared.opening.Opening.{Opening}

both_all : (P : List ℕ → Type 0) (xs : List (List ℕ)) (x : List ℕ) → AllByRecursion P xs → P x → AllByRecursion P (xs ++ x ∷ [])
both_all P [] x all here = (here, tt)
both_all P (y ∷ ys) x all here = (all.0, both_all P ys x all.1 here)

-- The channel is made from the store s to c; in m the reader waits there, and in n the right part is ready too. Nobody has the turn in
-- what is left.
module _ (core : Process) (closed : IsClosed core) (s c m n : Store) (number channel : ℕ) (opening : Opening) (store : IsStore core s) (turn : s.turn ≡ NodeTurn number)
    (o : OpensFor core number opening) (w : WaitsFor core opening) (count : channel + 1 ≡ length s.queues.queues) (added : AddsChannel s c opening.level)
    (parked : PutsLast c m (channel + 1) opening.left w.waits.narrow.node.frame) (readied : PutsLast m n 0 opening.right w.other.node.frame) where
  abbrev left : Store
  left = record n { turn = Nobody }

  abbrev h : HeapState
  h = s.desk.heap

  abbrev v0 : List (ℕ × ℕ)
  v0 = s.desk.values.items

  abbrev v1 : List (ℕ × ℕ)
  v1 = c.desk.values.items

  abbrev q0 : QueuesState
  q0 = s.queues

  abbrev q1 : QueuesState
  q1 = c.queues

  abbrev q2 : QueuesState
  q2 = m.queues

  abbrev q3 : QueuesState
  q3 = n.queues

  abbrev ready : List (List ℕ)
  ready = contents q0 0

  heap : n.desk.heap ≡ h
  heap = ap (λ d. d.heap) (readied.desk ∙ parked.desk) ∙ added.heap

  values : n.desk.values.items ≡ v1
  values = ap (λ d. d.values.items) (readied.desk ∙ parked.desk)

  pairs1 : ArePairs h v1
  pairs1 = subst (λ (g : HeapState). ArePairs g v1) added.heap added.pairs

  here : known h v1 opening.level ≡ Chan channel
  here =
      let e : length q0.queues - 1 ≡ channel = omega (arith, count) in
      subst (λ (g : HeapState). known g v1 opening.level ≡ Chan channel) added.heap (added.value ∙ ap Chan e)

  -- ---- on the words of blocks

  abbrev words : List (ℕ × ℕ) → (number : ℕ) → IsNarrow core number → List ℕ
  words values number n = node_words values number n.node.frame

  abbrev begin_words : List ℕ
  begin_words = words v0 number o.opens.narrow

  abbrev both_words : List ℕ
  both_words = words v1 o.both o.forks.narrow

  abbrev reader_words : List ℕ
  reader_words = words v1 opening.left w.waits.narrow

  abbrev other_words : List ℕ
  other_words = words v1 opening.right w.other

  more : length q1.queues ≡ length q0.queues + 1
  more = added.queues

  lists_count : channel ≡ length (channel_lists q0)
  lists_count = let e = length_lists q0 1 (length q0.queues - 1) in omega (arith, e, count)

  opens : BlocksStep core h (begin_words ∷ ready) (channel_lists q0) Quiet (both_words ∷ ready) (channel_lists q1)
  opens =
      subst (λ (lists : List (List (List ℕ))). BlocksStep core h (begin_words ∷ ready) (channel_lists q0) Quiet (both_words ∷ ready) lists) (sym (channel_added q0 q1 added.contents more store.ready))
      (news_make_channels core h v0 v1 number opening.level o.both o.opens.narrow.node o.forks.narrow.node begin_words both_words (narrow_block core h v0 number o.opens.narrow) o.opens.is (narrow_block core h v1 o.both o.forks.narrow)
      ready (channel_lists q0) (λ k low. added.others k (λ e. omega (arith, e, low))) (here ∙ ap Chan lists_count))

  forks : BlocksStep core h (both_words ∷ ready) (channel_lists q1) Quiet (reader_words ∷ (ready ++ other_words ∷ [])) (channel_lists q1)
  forks =
      parts_fork core h v1 o.both opening.left opening.right o.forks.narrow.node w.waits.narrow.node w.other.node both_words reader_words other_words (narrow_block core h v1 o.both o.forks.narrow) o.forks.is
      (narrow_block core h v1 opening.left w.waits.narrow) (narrow_block core h v1 opening.right w.other) ready (channel_lists q1)

  -- ---- the reader waits alone at the channel

  there : IsQueue q1 (channel + 1)
  there = omega (arith, more, count)

  nothing : contents q1 (channel + 1) ≡ []
  nothing = added.contents (channel + 1) ∙ nothing_past q0 (channel + 1) (omega (arith, count))

  alone : contents q2 (channel + 1) ≡ reader_words ∷ []
  alone = parked.last ∙ ap (λ (ws : List (List ℕ)). ws ++ reader_words ∷ []) nothing

  stands : (body : Process) × (process_of core (value_in h) reader_words ≡ In (known h v1 opening.level) w.reads.replicated (unleveled w.reads.pattern) body)
  stands =
      inputs_stand core h v1 opening.left w.reads.part w.reads.replicated (Var opening.level) w.reads.pattern w.waits.narrow.node reader_words closed (narrow_block core h v1 opening.left w.waits.narrow)
      (w.waits.is ∙ w.reads.is)

  reads : process_of core (value_in h) reader_words ≡ In (Chan channel) w.reads.replicated (unleveled w.reads.pattern) stands.0
  reads = stands.1 ∙ ap (λ (v : Val). In v w.reads.replicated (unleveled w.reads.pattern) stands.0) here

  next_queue : 1 + channel ≡ channel + 1
  next_queue = omega arith

  lists_after : slice_set (channel_lists q1) channel (contents q1 (channel + 1) ++ reader_words ∷ []) ≡ channel_lists q3
  lists_after =
      ap (slice_set (channel_lists q1) channel) (sym (ap (contents q2) next_queue ∙ parked.last))
      ∙ list_set q1 q2 1 (length q1.queues - 1) channel (omega (arith, more, count)) (λ queue apart. parked.others queue (λ e. apart (omega (arith, e))))
      ∙ ap (λ (k : ℕ). lists_from q2 1 (k - 1)) (sym parked.queues)
      ∙ sym (channels_stay q2 q3 readied.others readied.queues)

  waits : BlocksStep core h (reader_words ∷ (ready ++ other_words ∷ [])) (channel_lists q1) Quiet (ready ++ other_words ∷ []) (channel_lists q3)
  waits =
      subst (λ (lists : List (List (List ℕ))). BlocksStep core h (reader_words ∷ (ready ++ other_words ∷ [])) (channel_lists q1) Quiet (ready ++ other_words ∷ []) lists) lists_after
      (input_waits core h reader_words reader_words (ready ++ other_words ∷ []) q1 channel there w.reads.replicated (unleveled w.reads.pattern) stands.0 reads reads
      (subst (AllByRecursion (CanWait core)) (sym nothing) tt)
      (λ e. let no_output : Nothing ≡ Output = sym (ap oldest nothing) ∙ e in cc))

  -- ---- the store that is left

  -- what the queues hold
  ready_left : contents q3 0 ≡ ready ++ other_words ∷ []
  ready_left =
      readied.last
      ∙ ap (λ (vs : List (ℕ × ℕ)). contents q2 0 ++ node_words vs opening.right w.other.node.frame ∷ []) (ap (λ d. d.values.items) parked.desk)
      ∙ ap (λ (ws : List (List ℕ)). ws ++ other_words ∷ []) (parked.others 0 (λ e. omega (arith, e)) ∙ added.contents 0)

  channel_left : contents q3 (channel + 1) ≡ reader_words ∷ []
  channel_left = readied.others (channel + 1) (λ e. omega (arith, e)) ∙ alone

  queue_left : (queue : ℕ) → queue ≢ 0 → queue ≢ channel + 1 → contents q3 queue ≡ contents q0 queue
  queue_left queue later apart = readied.others queue later ∙ parked.others queue apart ∙ added.contents queue

  keeps : KeepsWords h n.desk.heap
  keeps = subst (KeepsWords h) (sym heap) (keeps_all h)

  made : (number : ℕ) (n : IsNarrow core number) → IsBlock core h (words v1 number n)
  made number n = made_block core h (known h v1) number n.node (gathered v1 n.node.frame) n.at (narrow_holds h v1 n.node.frame pairs1 n.narrow)

  held : (queue : ℕ) → AllByRecursion (IsBlock core h) (contents q3 queue)
  held queue = ⊎_elim
      (λ (first : queue ≡ 0).
      subst (λ (q : ℕ). AllByRecursion (IsBlock core h) (contents q3 q)) (sym first)
      (subst (AllByRecursion (IsBlock core h)) (sym ready_left) (both_all (IsBlock core h) ready other_words (store.blocks 0) (made opening.right w.other))))
      (λ (later : queue ≢ 0). ⊎_elim
      (λ (at : queue ≡ channel + 1).
      subst (λ (q : ℕ). AllByRecursion (IsBlock core h) (contents q3 q)) (sym at) (subst (AllByRecursion (IsBlock core h)) (sym channel_left) (made opening.left w.waits.narrow, tt)))
      (λ (apart : queue ≢ channel + 1). subst (AllByRecursion (IsBlock core h)) (sym (queue_left queue later apart)) (store.blocks queue))
      (cases_eq queue (channel + 1)))
      (cases_eq queue 0)

  waiting_left : AreWaiting core q3
  waiting_left other =
      let reader : IsInputAt core opening.left =
      record { node = w.waits.narrow.node; at = w.waits.narrow.at; replicated = w.reads.replicated; chan = Var opening.level; pattern = w.reads.pattern; part = w.reads.part; is = w.waits.is ∙ w.reads.is } in
      ⊎_elim
      (λ (at : other ≡ channel).
      subst (λ (k : ℕ). AllByRecursion (CanWait core) (contents q3 (k + 1))) (sym at) (subst (AllByRecursion (CanWait core)) (sym channel_left) (reader, tt)))
      (λ (apart : other ≢ channel).
      subst (AllByRecursion (CanWait core)) (sym (queue_left (other + 1) (λ e. omega (arith, e)) (λ e. apart (omega (arith, e))))) (store.waiting other))
      (cases_eq other channel)

  many : length q3.queues ≡ length q1.queues
  many = readied.queues ∙ parked.queues

  levels_left : length n.desk.values.items ≡ length v0
  levels_left = ap length values ∙ added.levels

  store_left : IsStore core left
  store_left =
      store_by core s left store keeps (let first = store.ready in omega (arith, many, more, first)) (λ queue. blocks_stay h n.desk.heap keeps core (contents q3 queue) (held queue)) waiting_left
      (subst (λ (g : HeapState). ArePairs g n.desk.values.items) (sym heap) (subst (ArePairs h) (sym values) pairs1))
      levels_left tt tt

  -- ---- what the stores stand for

  view_before : view_with_turn core s ≡ view_of_contents core (value_in h) (begin_words ∷ ready) (channel_lists q0)
  view_before =
      view_is core s begin_words
      (ap (λ (t : Turn). words_of_turn (nodes_of core) v0 t) turn ∙ ap (λ (frame : List ℕ). node_words v0 number frame ∷ []) (frame_is core number o.opens.narrow.node o.opens.narrow.at))

  view_left : view_with_turn core left ≡ view_of_contents core (value_in h) (ready ++ other_words ∷ []) (channel_lists q3)
  view_left =
      ap (λ (g : HeapState). view_of_contents core (value_in g) (contents q3 0) (channel_lists q3)) heap
      ∙ ap (λ (ws : List (List ℕ)). view_of_contents core (value_in h) ws (channel_lists q3)) ready_left

  pub wait_made : MakesWait core s left
  wait_made = record {
    opened = view_of_contents core (value_in h) (both_words ∷ ready) (channel_lists q1);
    forked = view_of_contents core (value_in h) (reader_words ∷ (ready ++ other_words ∷ [])) (channel_lists q1);
    opens = ap next_view view_before ∙ opens;
    forks = forks;
    waits = waits ∙ ap (λ (v : View). Moves v Quiet) (sym view_left);
    nobody = refl;
    store = store_left;
    keeps = keeps;
    levels = levels_left;
    queues = omega (arith, many, more);
    no_more = λ block held. added.no_more block (parked.no_more block (readied.no_more block held));
    no_loss = let spent = added.spare_queues in let first = parked.spare_queues in let second = readied.spare_queues in omega (arith, many, more, spent, first, second);
    room = subst (λ (g : HeapState). LosesNoRoom h.room g.room) (sym heap) (room_stays h.room);
  }

-- where room was made before
pub wait_after : (core : Process) (old s n : Store) → OnlyReserves old s → MakesWait core s n → MakesWait core old n
wait_after core old s n only m =
    let first = keeps_words old.desk.heap s.desk.heap only.heap in
    record {
      opened = m.opened;
      forked = m.forked;
      opens = sym (ap next_view (view_still core old s only)) ∙ m.opens;
      forks = m.forks;
      waits = m.waits;
      nobody = m.nobody;
      store = m.store;
      keeps = keeps_more old.desk.heap s.desk.heap n.desk.heap first m.keeps;
      levels = m.levels ∙ ap length only.values;
      queues = let e = ap length only.queues in let one = m.queues in omega (arith, e, one);
      no_more = λ block held. only.no_more block (m.no_more block held);
      no_loss = let e = ap length only.queues in let more = only.spare_queues in let least = m.no_loss in omega (arith, e, more, least);
      room = room_kept old.desk.heap.room s.desk.heap.room n.desk.heap.room only.room.kept m.room;
    }
