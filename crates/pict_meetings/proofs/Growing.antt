-- Outputs that have the turn, while queues work, room is made, and the heap grows.
use Rattle.std.proofs.Common.{ℕ, ◌-◌, ◌≡◌, List, [], length, refl, sym, ap, ◌∙◌, arith}
use Rattle.std.specs.List.{slice_index_or}
use Rattle.pict_syntax.specs.declared.span.Span.{Span}
use Rattle.pict_core.specs.Closed.{IsOver}
use Rattle.pict_core.specs.Term.{Val, Process, Chan, Out}
use Rattle.pict_core.specs.Step.{Label}
use Rattle.pict_code.specs.Instruction as op
use Rattle.pict_queue.specs.QueuesState.{QueuesState}
use Rattle.pict_queue.specs.Contents.{contents}
use Rattle.pict_heap.specs.HeapState.{HeapState, KeepsWords}
use Rattle.pict_heap.specs.Packed.{packed, FitsWord}
use Rattle.pict_heap.specs.declared.word.Word.{Word}
use Rattle.pict_view.specs.Placed.{next_view}
use Rattle.pict_blocks.specs.Blocks.{process_of}
use Rattle.pict_blocks.specs.Writing.{OnlyWorks}
use Rattle.pict_desk.specs.Known.{value_in, known, operand_value}
use Rattle.pict_blocks.proofs.Meeting.{outputs_stand}
use Rattle.pict_desk.specs.AtHand.{IsPairFor}
use Rattle.pict_desk.specs.Pairs.{IsPair}
use Rattle.pict_desk.proofs.Making.{keeps_more, pairs_keep}
use Rattle.pict_desk.proofs.Pairs.{value_packed}
use Rattle.pict_desk.specs.Needs.{both_needs, HasRoomFor, KeepsPending, IsMade}
use Rattle.pict_desk.specs.declared.pending.Pending.{Pending}
use Rattle.pict_prim.specs.Acts.{UsesNeed}
use Rattle.pict_prim.specs.declared.act.Need.{Need}
use Rattle.pict_meetings.specs.Room.{CanHoldAfter, CanHoldAfterAnd}
use Rattle.pict_desk.specs.Room.{frame_need}
use Rattle.pict_meetings.specs.Partners.{Sends, SendsKept}
use Rattle.pict_turns.proofs.Numbered.{operands_over}
use Rattle.pict_turns.specs.Acting.{HasActing, IsDone, IsRight}
use Rattle.pict_turns.specs.Reserving.{OnlyReserves}
use Rattle.pict_turns.specs.Views.{channel_lists, acting_words, ready_words, view_with_turn}
use Rattle.pict_turns.specs.declared.store.Store.{Store}
use Rattle.pict_turns.proofs.AfterReading.{reads_works, acting_read}
use Rattle.pict_turns.proofs.Room.{words_still, known_still, acting_still, acts_still, done_after}
use Rattle.pict_desk.proofs.MakingRoom.{keeps_words, value_kept, has_room}
use Rattle.pict_turns.proofs.Rows.{turn_stays}
use Rattle.pict_turns.proofs.Turns.{acting_block, ready_blocks}
use Rattle.pict_turns.proofs.Views.{pair_stays, blocks_stay, block_same, view_same, lists_are}
use Rattle.pict_meetings.specs.Sending.{SendsOperand}
use Rattle.pict_turns.proofs.Passing.{acts_worked}
use Rattle.pict_meetings.specs.Sent.{IsSentFor, SendsThis}
use Rattle.pict_meetings.specs.declared.sent.Sent.{Sent}
use Rattle.pict_meetings.specs.declared.sent.Sent.TheVariants.{Whole}
use Rattle.pict_meetings.proofs.Sents.{sent_stays, sent_still}

-- ---- while queues work

module _ (core : Process) (s : Store) (queues : QueuesState) (works : OnlyWorks s.queues queues) (channel : ℕ) where
  abbrev worked : Store
  worked = record s { queues = queues }

  acting_worked : HasActing core s → HasActing core worked
  acting_worked a = acting_read s worked (reads_works s queues a.store.pairs works) core refl a

  pub sends_worked : (message : ℕ × ℕ) (at : Span) → Sends core s channel message at → Sends core worked channel message at
  sends_worked message at x = record { acting = acting_worked x.acting; pair = x.pair; is = x.is }

  pub kept_worked : SendsKept core s channel → SendsKept core worked channel
  kept_worked x = record { acting = acting_worked x.acting; kept = x.kept; to = x.to }

  pub operand_worked : (message : Val) (at : Span) → SendsOperand core s channel message at → SendsOperand core worked channel message at
  operand_worked message at x = record { closed = x.closed; chan = x.chan; acts = acts_worked core s queues (op.Out x.chan message at) works x.acts; to = x.to }

-- ---- while room is made

module _ (core : Process) (old new : Store) (r : OnlyReserves old new) (channel : ℕ) where
  pub sends_reserved : (message : ℕ × ℕ) (at : Span) → Sends core old channel message at → Sends core new channel message at
  sends_reserved message at x =
      let values = value_kept old.desk.heap new.desk.heap r.heap in
      record {
        acting = acting_still core old new r x.acting;
        pair = pair_stays old.desk.heap new.desk.heap (keeps_words old.desk.heap new.desk.heap r.heap) message x.pair;
        is =
            ap (λ (value : ℕ → ℕ → Val). process_of core value (acting_words core new)) values
            ∙ ap (λ (words : List (List ℕ)). process_of core (value_in old.desk.heap) (slice_index_or words 0 [])) (words_still core old new r) ∙ x.is
            ∙ ap (λ (value : ℕ → ℕ → Val). Out (Chan channel) (value message.0 message.1) at) (sym values);
      }

  pub operand_reserved : (message : Val) (at : Span) → SendsOperand core old channel message at → SendsOperand core new channel message at
  operand_reserved message at x = record {
    closed = x.closed;
    chan = x.chan;
    acts = acts_still core old new r (op.Out x.chan message at) x.acts;
    to = ap (λ (known : ℕ → Val). operand_value known x.chan) (known_still core old new r) ∙ x.to;
  }

  pub sent_reserved : (sent : Sent) (at : Span) → SendsThis core old channel sent at → SendsThis core new channel sent at
  sent_reserved sent at x =
      let keeps = keeps_words old.desk.heap new.desk.heap r.heap in
      record {
        acting = acting_still core old new r x.acting;
        sent_is = sent_still old.desk.heap new.desk.heap keeps sent x.sent_is;
        is =
            ap (λ (value : ℕ → ℕ → Val). process_of core value (acting_words core new)) (value_kept old.desk.heap new.desk.heap r.heap)
            ∙ ap (λ (words : List (List ℕ)). process_of core (value_in old.desk.heap) (slice_index_or words 0 [])) (words_still core old new r) ∙ x.is
            ∙ ap (λ v. Out (Chan channel) v at) (sym (sent_stays old.desk.heap new.desk.heap keeps sent x.sent_is));
      }

-- two words are sent
pub sends_whole : (core : Process) (s : Store) (channel : ℕ) (pair : ℕ × ℕ) (at : Span) → Sends core s channel pair at → SendsThis core s channel (Whole pair) at
sends_whole core s channel pair at x = record { acting = x.acting; sent_is = x.pair; is = x.is }

-- ---- an output of an operand

module _ (core : Process) (s : Store) (channel : ℕ) (message : Val) (at : Span) (x : SendsOperand core s channel message at) where
  pub operand_process : process_of core (value_in s.desk.heap) (acting_words core s) ≡ Out (Chan channel) (operand_value (known s.desk.heap s.desk.values.items) message) at
  operand_process =
      outputs_stand core s.desk.heap s.desk.values.items x.acts.number x.chan message at x.acts.node (acting_words core s) x.closed x.acts.is x.acts.op_is
      ∙ ap (λ v. Out v (operand_value (known s.desk.heap s.desk.values.items) message) at) x.to

  pub operand_over : IsOver (length s.desk.values.items) 0 message
  operand_over = (operands_over core s x.chan message at x.closed x.acts).1

  -- its two words are there
  pub sends_pair : (pair : ℕ × ℕ) → IsPairFor s.desk.heap (operand_value (known s.desk.heap s.desk.values.items) message) pair → Sends core s channel pair at
  sends_pair pair p = record { acting = x.acts.acting; pair = p.pair_is; is = operand_process ∙ ap (λ v. Out (Chan channel) v at) (sym p.value) }

  -- its value is sent
  pub sends_sent : (sent : Sent) → IsSentFor s.desk.heap (operand_value (known s.desk.heap s.desk.values.items) message) sent → SendsThis core s channel sent at
  sends_sent sent p = record { acting = x.acts.acting; sent_is = p.is; is = operand_process ∙ ap (λ v. Out (Chan channel) v at) (sym p.value) }

-- ---- while the heap grows

module _ (core : Process) (old : Store) (heap : HeapState) (pending : Pending) (keeps : KeepsWords old.desk.heap heap) (a : HasActing core old) where
  abbrev grown : Store
  grown = record old { desk = record old.desk { heap = heap; pending = pending } }

  pub acting_grown : HasActing core grown
  acting_grown = record {
    store = record {
      ready = a.store.ready;
      blocks = λ queue. blocks_stay old.desk.heap heap keeps core (contents old.queues queue) (a.store.blocks queue);
      waiting = a.store.waiting;
      pairs = pairs_keep old.desk.heap heap keeps old.desk.values.items a.store.pairs;
      levels = a.store.levels;
      turn = turn_stays core old.desk.heap heap keeps old.desk.values.items a.store.pairs old.turn a.store.turn;
      room = a.store.room;
    };
    has = a.has;
  }

  pub view_grown : view_with_turn core grown ≡ view_with_turn core old
  view_grown = view_same old.desk.heap heap keeps core (ready_words core old) (channel_lists old.queues) (ready_blocks core old a.store)
      (lists_are core old.desk.heap old.queues 1 (length old.queues.queues - 1) a.store.blocks)

  pub done_grown : (new : Store) (label : Label) → IsDone core grown new label → IsDone core old new label
  done_grown new label d = record {
    moves = sym (ap next_view view_grown) ∙ d.moves;
    store = d.store;
    keeps = keeps_more old.desk.heap heap new.desk.heap keeps d.keeps;
    levels = d.levels;
    queues = d.queues;
    no_more = d.no_more;
    no_loss = d.no_loss;
  }

  pub sends_grown : (channel : ℕ) (v : Val) (at : Span) (pair : ℕ × ℕ) → process_of core (value_in old.desk.heap) (acting_words core old) ≡ Out (Chan channel) v at → IsPair heap pair
      → value_in heap pair.0 pair.1 ≡ v → Sends core grown channel pair at
  sends_grown channel v at pair is pair_is value = record {
    acting = acting_grown;
    pair = pair_is;
    is = block_same old.desk.heap heap keeps core (acting_words core old) (acting_block core old a) ∙ is ∙ ap (λ u. Out (Chan channel) u at) (sym value);
  }

-- ---- room for the part of the input that is met

pub can_after : (s : Store) (given : List (List ℕ)) (frame : List ℕ) (further : Need) → CanHoldAfterAnd s given frame further → CanHoldAfter s given frame
can_after s given frame further can = record { block = can.block; room = has_room s.desk.heap s.desk.pending (frame_need frame) further can.room }

room_behind : (h0 h1 : HeapState) (p0 p1 : Pending) (a b : Need) → HasRoomFor h0 p0 (both_needs a b) → UsesNeed h0.room h1.room b → KeepsPending p0 p1 → HasRoomFor h1 p1 a
room_behind h0 h1 p0 p1 a b r u k = record {
  heap = record {
    records = let e = r.heap.records in let f = u.records_left in omega (arith, e, f);
    fields = let e = r.heap.fields in let f = u.fields_left in omega (arith, e, f);
    texts = let e = r.heap.texts in let f = u.texts_left in omega (arith, e, f);
    bytes = let e = r.heap.bytes in let f = u.bytes_left in omega (arith, e, f);
  };
  words = let e = r.words in let f = ap length k.words in let g = k.words_room in omega (arith, e, f, g);
  labelled = let e = r.labelled in let f = ap length k.labelled in let g = k.labelled_room in omega (arith, e, f, g);
  countable = let e = r.countable in omega (arith, e);
}

-- the same once the further need is used
pub can_grown : (s : Store) (heap : HeapState) (pending : Pending) (given : List (List ℕ)) (frame : List ℕ) (further : Need) → CanHoldAfterAnd s given frame further
    → UsesNeed s.desk.heap.room heap.room further → KeepsPending s.desk.pending pending → CanHoldAfter (record s { desk = record s.desk { heap = heap; pending = pending } }) given frame
can_grown s heap pending given frame further can used kept =
    record { block = can.block; room = room_behind s.desk.heap heap s.desk.pending pending (frame_need frame) further can.room used kept }

-- ---- the word of an operand that is sent is made

-- once there is room
module _ (core : Process) (old mid : Store) (r : OnlyReserves old mid) (channel : ℕ) (message : Val) (at : Span) (x : SendsOperand core old channel message at)
    (heap : HeapState) (pending : Pending) (values : List (ℕ × ℕ)) (same : values ≡ mid.desk.values.items) (w : Word) (made : IsMade mid.desk.heap heap w (operand_value (known mid.desk.heap values) message)) where
  acting_mid : HasActing core mid
  acting_mid = acting_still core old mid r x.acts.acting

  pub sends_made : (pair : ℕ × ℕ) → FitsWord w → packed w ≡ pair → Sends core (record mid { desk = record mid.desk { heap = heap; pending = pending } }) channel pair at
  sends_made pair fits packs =
      sends_grown core mid heap pending made.keeps acting_mid channel (operand_value (known mid.desk.heap mid.desk.values.items) message) at pair
      (operand_process core mid channel message at (operand_reserved core old mid r channel message at x)) (record { word = w; is = made.word; fits = fits; packs = packs })
      (value_packed heap w pair fits packs ∙ made.value ∙ ap (λ vs. operand_value (known mid.desk.heap vs) message) same)

  pub done_made : (new : Store) (label : Label) → IsDone core (record mid { desk = record mid.desk { heap = heap; pending = pending } }) new label → IsDone core old new label
  done_made new label d = done_after core old mid r new label (done_grown core mid heap pending made.keeps acting_mid new label d)

  pub right_made : IsRight core mid → IsRight core (record mid { desk = record mid.desk { heap = heap; pending = pending } })
  right_made right e = right (sym (ap next_view (view_grown core mid heap pending made.keeps acting_mid)) ∙ e)
