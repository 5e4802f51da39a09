-- The steps of outputs and inputs that meet.
use Rattle.std.proofs.Common.{ℕ, suc, ◌+◌, ◌≡◌, Bool, true, false, List, [], ◌∷◌, ◌++◌, length, refl, sym, ap, ◌∙◌, subst, arith, Some}
use Rattle.std.proofs.lemmas.List.{append-nil}
use Rattle.std.specs.List.{AllByRecursion, slice_get, slice_set}
use Rattle.pict_syntax.specs.declared.span.Span.{Span}
use Rattle.pict_core.specs.Closed.{IsClosed}
use Rattle.pict_core.specs.Matching.{match_value}
use Rattle.pict_core.specs.Step.{Comm}
use Rattle.pict_core.specs.Term.{Process, Val, Chan, Out}
use Rattle.pict_code.specs.Instruction.{CodePat, Node}
use Rattle.pict_code.specs.Nodes.{nodes_of, input_op}
use Rattle.pict_code.specs.ReadBack.{unleveled}
use Rattle.pict_blocks.specs.Keeping.{kept_words}
use Rattle.pict_desk.specs.declared.kept.Kept.{Kept}
use Rattle.pict_heap.specs.HeapState.{HeapState, KeepsWords}
use Rattle.pict_queue.specs.QueuesState.{IsQueue, LosesNoQueue}
use Rattle.pict_queue.specs.Contents.{contents, KeepsOtherContents, HoldsNoMore}
use Rattle.pict_view.specs.Moved.{if_replicated}
use Rattle.pict_desk.specs.Binding.{levels_of, BindsPattern}
use Rattle.pict_blocks.specs.Blocks.{process_of, IsNodeBlock}
use Rattle.pict_desk.specs.Known.{value_in, known}
use Rattle.pict_blocks.specs.Laws.{BlocksStep}
use Rattle.pict_blocks.proofs.Meeting.{outputs_meet, inputs_meet}
use Rattle.pict_desk.specs.Pairs.{IsPair, ArePairs}
use Rattle.pict_desk.proofs.Making.{pairs_keep, operand_keeps}
use Rattle.pict_turns.specs.Acting.{HasActing, IsDone}
use Rattle.pict_blocks.specs.Holding.{HoldsFrame}
use Rattle.pict_turns.specs.Views.{channel_lists, acting_words, IsBlock, CanWait}
use Rattle.pict_turns.specs.declared.store.Store.{Store}
use Rattle.pict_turns.specs.declared.turn.Turn.TheVariants.{Nobody}
use Rattle.pict_heap.proofs.Growth.{all_pushed}
use Rattle.pict_turns.proofs.AfterReading.{contents_read, queues_read}
use Rattle.pict_turns.proofs.Rows.{made_block, made_node, node_block_stays, levels_keep, ready_stay}
use Rattle.pict_turns.proofs.Turns.{acting_block}
use Rattle.pict_turns.proofs.Views.{value_stays, block_stays, blocks_stay, block_same}
use Rattle.pict_meetings.specs.Partners.{Receives}
use Rattle.pict_meetings.specs.Sent.{sent_value, SendsThis}
use Rattle.pict_meetings.specs.declared.sent.Sent.{Sent}
use Rattle.pict_meetings.proofs.Sents.{sent_stays}
use Rattle.pict_meetings.specs.Serving.{IsInputWith, ReadsInput}
use Rattle.pict_meetings.proofs.Changing.{Changes, done}
use Rattle.pict_meetings.proofs.Readying.{Readies}
use Rattle.pict_meetings.proofs.Waits.{channel_there}

all_both : (P : List ℕ → Type 0) (b : Bool) (x : List ℕ) (xs : List (List ℕ)) → P x → AllByRecursion P xs → AllByRecursion P (if_replicated b x ++ xs)
all_both P true x xs p all = (p, all)
all_both P false x xs p all = all

all_behind : (P : List ℕ → Type 0) (b : Bool) (x : List ℕ) (xs : List (List ℕ)) → P x → AllByRecursion P xs → AllByRecursion P (xs ++ if_replicated b x)
all_behind P true x xs p all = all_pushed P xs x all p
all_behind P false x xs p all = subst (AllByRecursion P) (sym (append-nil xs)) all

-- what a pattern binds of a value stands for the same where the heap grows
binds_stay : (core : Process) (old new : HeapState) (keeps : KeepsWords old new) (pattern : CodePat) (v w : Val) (before after : List (ℕ × ℕ)) → w ≡ v → ArePairs old after
    → BindsPattern old pattern v before after → BindsPattern new pattern w before after
binds_stay core old new keeps pattern v w before after same pairs b = record {
  bound = b.bound;
  fits = ap (match_value (unleveled pattern)) same ∙ b.fits;
  here = levels_keep core old new keeps after pairs (levels_of pattern) ∙ b.here;
  others = b.others;
}

-- An input takes the oldest message: the store once the message is taken and bound is `mid`, and `new` once the part is ready.
module _ (core : Process) (old mid new : Store) (channel part : ℕ) (replicated : Bool) (pattern : CodePat) (receives : Receives core old channel replicated pattern part)
    (there : IsQueue old.queues (channel + 1)) (kept : Kept) (rest : List (List ℕ)) (list : contents old.queues (channel + 1) ≡ kept_words kept ∷ rest)
    (message : IsPair old.desk.heap kept.message)
    (heap : mid.desk.heap ≡ old.desk.heap) (left : contents mid.queues (channel + 1) ≡ rest) (others : KeepsOtherContents old.queues mid.queues (channel + 1))
    (many : length mid.queues.queues ≡ length old.queues.queues)
    (binds : BindsPattern old.desk.heap pattern (value_in old.desk.heap kept.message.0 kept.message.1) old.desk.values.items mid.desk.values.items) (levels : length mid.desk.values.items ≡ length old.desk.values.items)
    (pairs : ArePairs old.desk.heap mid.desk.values.items) (node : Node) (at : slice_get (nodes_of core) part ≡ Some node)
    (readies : Readies core mid new (if_replicated replicated (acting_words core old)) part node.frame) where
  keeps : KeepsWords old.desk.heap new.desk.heap
  keeps = subst (λ h. KeepsWords h new.desk.heap) heap readies.keeps

  acting : HasActing core old
  acting = receives.acts.acting

  received : Changes core old new channel (if_replicated replicated (acting_words core old) ++ (contents old.queues 0 ++ (suc part ∷ readies.held) ∷ [])) rest
  received = record {
    ready_are = readies.ready
        ∙ ap (λ rs. if_replicated replicated (acting_words core old) ++ (rs ++ (suc part ∷ readies.held) ∷ [])) (others 0 (λ e. omega (arith, e)));
    waiting_are = readies.others (channel + 1) (λ e. omega (arith, e)) ∙ left;
    others = λ queue some. λ apart. readies.others queue some ∙ others queue apart;
    queues = readies.queues ∙ many;
    keeps = keeps;
    pairs = subst (ArePairs new.desk.heap) (sym readies.values) (pairs_keep old.desk.heap new.desk.heap keeps mid.desk.values.items pairs);
    levels = ap length readies.values ∙ levels;
    turn = readies.turn;
    room = readies.room;
  }

  holds : HoldsFrame new.desk.heap (known old.desk.heap mid.desk.values.items) node.frame readies.held
  holds = subst (λ h. HoldsFrame new.desk.heap (known h mid.desk.values.items) node.frame readies.held) heap readies.holds

  step : BlocksStep core new.desk.heap (acting_words core old ∷ contents old.queues 0) (channel_lists old.queues) (Comm channel (value_in new.desk.heap kept.message.0 kept.message.1))
      (if_replicated replicated (acting_words core old) ++ (contents old.queues 0 ++ (suc part ∷ readies.held) ∷ [])) (slice_set (channel_lists old.queues) channel rest)
  step =
      let a = receives.acts in
      let k = kept in
      let sends : process_of core (value_in new.desk.heap) (kept_words k) ≡ Out (value_in new.desk.heap k.to.0 k.to.1) (value_in new.desk.heap k.message.0 k.message.1) k.at = refl in
      inputs_meet core new.desk.heap old.desk.values.items mid.desk.values.items a.number part channel replicated receives.chan pattern a.node node
      (acting_words core old) (suc part ∷ readies.held) (value_in new.desk.heap k.message.0 k.message.1) (value_in new.desk.heap k.to.0 k.to.1) k.at (kept_words k) rest
      receives.closed
      (node_block_stays core old.desk.heap new.desk.heap keeps old.desk.values.items acting.store.pairs a.number a.node (acting_words core old) (acting_block core old acting) a.is)
      a.op_is
      (operand_keeps old.desk.heap new.desk.heap keeps old.desk.values.items acting.store.pairs receives.chan ∙ receives.from)
      sends
      (binds_stay core old.desk.heap new.desk.heap keeps pattern _ _ old.desk.values.items mid.desk.values.items (value_stays old.desk.heap new.desk.heap keeps k.message message) pairs binds)
      (made_node core old.desk.heap new.desk.heap keeps mid.desk.values.items pairs part node readies.held at holds)
      (contents old.queues 0) (channel_lists old.queues) (channel_there old.queues channel there ∙ ap Some list)

  pub message_met : HoldsNoMore old.queues new.queues → LosesNoQueue old.queues new.queues → IsDone core old new (Comm channel (value_in new.desk.heap kept.message.0 kept.message.1))
  message_met no_more no_loss =
      let blocks = subst (AllByRecursion (IsBlock core old.desk.heap)) list (acting.store.blocks (channel + 1)) in
      let waiting = subst (AllByRecursion (CanWait core)) list (acting.store.waiting channel) in
      done core old new channel (if_replicated replicated (acting_words core old) ++ (contents old.queues 0 ++ (suc part ∷ readies.held) ∷ [])) rest
      acting there received (Comm channel (value_in new.desk.heap kept.message.0 kept.message.1))
      (all_both (IsBlock core new.desk.heap) replicated (acting_words core old) (contents old.queues 0 ++ (suc part ∷ readies.held) ∷ [])
      (block_stays old.desk.heap new.desk.heap keeps core (acting_words core old) (acting_block core old acting))
      (all_pushed (IsBlock core new.desk.heap) (contents old.queues 0) (suc part ∷ readies.held) (ready_stay core old new acting.store keeps)
      (made_block core new.desk.heap (known old.desk.heap mid.desk.values.items) part node readies.held at holds)))
      (blocks_stay old.desk.heap new.desk.heap keeps core rest blocks.1) waiting.1 step no_more no_loss

-- The oldest input at the channel takes what who has the turn sends: `taken` is the store once the input's frame is read,
-- `mid` once the input's block is behind the others or has ended and the message is bound, and `new` once the part is ready.
module _ (core : Process) (old taken mid new : Store) (channel number part : ℕ) (replicated : Bool) (pattern : CodePat) (sent : Sent) (sent_at : Span)
    (closed : IsClosed core) (sends : SendsThis core old channel sent sent_at) (there : IsQueue old.queues (channel + 1))
    (reads : ReadsInput core (record old { turn = Nobody }) taken channel number) (input : IsInputWith (nodes_of core) number replicated pattern part)
    (heap : mid.desk.heap ≡ old.desk.heap)
    (left : contents mid.queues (channel + 1) ≡ reads.others ++ if_replicated replicated reads.words)
    (others : KeepsOtherContents taken.queues mid.queues (channel + 1)) (many : length mid.queues.queues ≡ length taken.queues.queues)
    (binds : BindsPattern old.desk.heap pattern (sent_value old.desk.heap sent) taken.desk.values.items mid.desk.values.items) (levels : length mid.desk.values.items ≡ length taken.desk.values.items)
    (pairs : ArePairs old.desk.heap mid.desk.values.items) (node : Node) (at : slice_get (nodes_of core) part ≡ Some node)
    (readies : Readies core mid new [] part node.frame) where
  served_keeps : KeepsWords old.desk.heap new.desk.heap
  served_keeps = subst (λ h. KeepsWords h new.desk.heap) heap readies.keeps

  served : Changes core old new channel (contents old.queues 0 ++ (suc part ∷ readies.held) ∷ []) (reads.others ++ if_replicated replicated reads.words)
  served = record {
    ready_are = readies.ready
        ∙ ap (λ rs. rs ++ (suc part ∷ readies.held) ∷ []) (others 0 (λ e. omega (arith, e)) ∙ contents_read (record old { turn = Nobody }) taken reads.read.rest 0);
    waiting_are = readies.others (channel + 1) (λ e. omega (arith, e)) ∙ left;
    others = λ queue some. λ apart. readies.others queue some ∙ others queue apart ∙ contents_read (record old { turn = Nobody }) taken reads.read.rest queue;
    queues = readies.queues ∙ many ∙ queues_read (record old { turn = Nobody }) taken reads.read.rest;
    keeps = served_keeps;
    pairs = subst (ArePairs new.desk.heap) (sym readies.values) (pairs_keep old.desk.heap new.desk.heap served_keeps mid.desk.values.items pairs);
    levels = ap length readies.values ∙ levels ∙ reads.read.rest.levels;
    turn = readies.turn;
    room = readies.room;
  }

  part_holds : HoldsFrame new.desk.heap (known old.desk.heap mid.desk.values.items) node.frame readies.held
  part_holds = subst (λ h. HoldsFrame new.desk.heap (known h mid.desk.values.items) node.frame readies.held) heap readies.holds

  -- what stood at the channel
  stood : contents old.queues (channel + 1) ≡ reads.words ∷ reads.others
  stood = reads.waiting

  stood_blocks : AllByRecursion (IsBlock core old.desk.heap) (reads.words ∷ reads.others)
  stood_blocks = subst (AllByRecursion (IsBlock core old.desk.heap)) stood (sends.acting.store.blocks (channel + 1))

  stood_waiting : AllByRecursion (CanWait core) (reads.words ∷ reads.others)
  stood_waiting = subst (AllByRecursion (CanWait core)) stood (sends.acting.store.waiting channel)

  input_is : reads.read.node.op ≡ input_op replicated input.chan pattern part
  input_is =
      let e : Some reads.read.node ≡ Some input.node = sym reads.read.is.at ∙ input.at in
      let same : reads.read.node ≡ input.node = cc in
      ap (λ (n : Node). n.op) same ∙ input.is

  read_pairs : ArePairs old.desk.heap taken.desk.values.items
  read_pairs = subst (λ h. ArePairs h taken.desk.values.items) reads.read.rest.heap reads.read.rest.pairs

  same_sent : sent_value new.desk.heap sent ≡ sent_value old.desk.heap sent
  same_sent = sent_stays old.desk.heap new.desk.heap served_keeps sent sends.sent_is

  served_step : BlocksStep core new.desk.heap (acting_words core old ∷ contents old.queues 0) (channel_lists old.queues) (Comm channel (sent_value new.desk.heap sent))
      (contents old.queues 0 ++ (suc part ∷ readies.held) ∷ [])
      (slice_set (channel_lists old.queues) channel (reads.others ++ if_replicated replicated reads.words))
  served_step =
      let words = acting_words core old in
      let is : process_of core (value_in new.desk.heap) words ≡ Out (Chan channel) (sent_value new.desk.heap sent) sent_at =
      block_same old.desk.heap new.desk.heap served_keeps core words (acting_block core old sends.acting) ∙ sends.is
      ∙ ap (λ v. Out (Chan channel) v sent_at) (sym same_sent) in
      outputs_meet core new.desk.heap taken.desk.values.items mid.desk.values.items channel (sent_value new.desk.heap sent) sent_at words number part replicated input.chan pattern reads.read.node node
      reads.words (suc part ∷ readies.held) (reads.others) closed is
      (node_block_stays core old.desk.heap new.desk.heap served_keeps taken.desk.values.items read_pairs number reads.read.node reads.words stood_blocks.0
      (subst (λ h. IsNodeBlock core h taken.desk.values.items number reads.read.node reads.words) reads.read.rest.heap reads.read.is))
      input_is
      (binds_stay core old.desk.heap new.desk.heap served_keeps pattern _ _ taken.desk.values.items mid.desk.values.items same_sent pairs binds)
      (made_node core old.desk.heap new.desk.heap served_keeps mid.desk.values.items pairs part node readies.held at part_holds)
      (contents old.queues 0) (channel_lists old.queues) (channel_there old.queues channel there ∙ ap Some stood)

  pub reader_met : HoldsNoMore old.queues new.queues → LosesNoQueue old.queues new.queues → IsDone core old new (Comm channel (sent_value new.desk.heap sent))
  reader_met no_more no_loss =
      let acting = sends.acting in
      let words = reads.words in
      let rest = reads.others in
      let blocks = blocks_stay old.desk.heap new.desk.heap served_keeps core (words ∷ rest) stood_blocks in
      done core old new channel (contents old.queues 0 ++ (suc part ∷ readies.held) ∷ []) (rest ++ if_replicated replicated words)
      acting there served (Comm channel (sent_value new.desk.heap sent))
      (all_pushed (IsBlock core new.desk.heap) (contents old.queues 0) (suc part ∷ readies.held) (ready_stay core old new acting.store served_keeps)
      (made_block core new.desk.heap (known old.desk.heap mid.desk.values.items) part node readies.held at part_holds))
      (all_behind (IsBlock core new.desk.heap) replicated words rest blocks.0 blocks.1)
      (all_behind (CanWait core) replicated words rest stood_waiting.0 stood_waiting.1)
      served_step no_more no_loss
