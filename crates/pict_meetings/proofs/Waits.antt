-- Outputs and inputs that wait: the lists of channels begin with what the first word says, and grow by one more.
use Rattle.std.proofs.Common.{ℕ, zero, suc, ◌+◌, ◌-◌, ◌<◌, ◌^◌, ◌≡◌, ◌≢◌, inl, inr, Bool, List, [], ◌∷◌, ◌++◌, length, refl, sym, ap, ◌∙◌, subst, arith, Some}
use Rattle.std.specs.List.{AllByRecursion, slice_get, slice_set}
use Rattle.pict_syntax.specs.declared.span.Span.{Span}
use Rattle.pict_core.specs.Step.{Quiet}
use Rattle.pict_core.specs.Term.{Val, Pat, Process, Chan, Out, In}
use Rattle.pict_code.specs.Instruction.{CodePat}
use Rattle.pict_code.specs.ReadBack.{unleveled}
use Rattle.pict_blocks.specs.Keeping.{kept_words}
use Rattle.pict_desk.specs.Kept.{FitsKept}
use Rattle.pict_desk.specs.declared.kept.Kept.{Kept}
use Rattle.pict_heap.specs.HeapState.{HeapState}
use Rattle.pict_heap.specs.Packed.{packed}
use Rattle.pict_heap.specs.declared.word.Word.TheVariants as word
use Rattle.pict_queue.specs.QueuesState.{QueuesState, IsQueue, LosesNoQueue}
use Rattle.pict_queue.specs.Contents.{contents, KeepsOtherContents, HoldsNoMore}
use Rattle.pict_view.proofs.Rows.{BeginsWithMessage, BeginsWithReader, output_parks, input_parks}
use Rattle.pict_blocks.specs.Blocks.{process_of}
use Rattle.pict_desk.specs.Known.{value_in}
use Rattle.pict_blocks.specs.Laws.{BlocksStep}
use Rattle.pict_blocks.proofs.Meeting.{inputs_stand}
use Rattle.pict_desk.specs.Pairs.{IsPair}
use Rattle.pict_desk.proofs.Making.{keeps_all}
use Rattle.pict_desk.proofs.Pairs.{value_packed}
use Rattle.pict_turns.specs.Acting.{HasActing, IsDone}
use Rattle.pict_turns.specs.Views.{channel_lists, acting_words, IsBlock, IsKept, IsInputAt, CanWait}
use Rattle.pict_turns.specs.declared.store.Store.{Store}
use Rattle.pict_turns.specs.declared.turn.Turn.TheVariants.{Nobody}
use Rattle.pict_heap.proofs.Growth.{all_pushed}
use Rattle.pict_turns.proofs.Turns.{acting_block}
use Rattle.pict_turns.proofs.Views.{list_there}
use Rattle.pict_meetings.specs.Partners.{Sends, SendsKept, Receives}
use Rattle.pict_meetings.specs.Waiting.{oldest, NoInputWaits, NoOutputWaits}
use Rattle.pict_meetings.specs.declared.waiting.Waiting.TheVariants.{Output, Input}
use Rattle.pict_meetings.proofs.Changing.{Changes, done}
use Rattle.pict_meetings.proofs.Inputs.{input_stands}

-- the list of a channel that is there
pub channel_there : (s : QueuesState) (channel : ℕ) → IsQueue s (channel + 1) → slice_get (channel_lists s) channel ≡ Some (contents s (channel + 1))
channel_there s channel there =
    let low : channel < length s.queues - 1 = omega (arith, there) in
    let e : 1 + channel ≡ channel + 1 = omega arith in
    list_there s 1 (length s.queues - 1) channel low ∙ ap (λ q. Some (contents s q)) e

-- ---- what a list begins with

module _ (core : Process) (h : HeapState) where
  pub begins_with_message : (list : List (List ℕ)) → AllByRecursion (IsBlock core h) list → ((number : ℕ) → oldest list ≢ Input number) → BeginsWithMessage (List ℕ) (process_of core (value_in h)) list
  begins_with_message [] blocks none = tt
  begins_with_message (words ∷ rest) (inl node, blocks) none = absurd (none node.number (ap (λ ws. oldest (ws ∷ rest)) node.is))
  begins_with_message (words ∷ rest) (inr kept, blocks) none = (
    value_in h kept.kept.to.0 kept.kept.to.1,
    value_in h kept.kept.message.0 kept.kept.message.1,
    kept.kept.at,
    ap (process_of core (value_in h)) kept.is,
  )

  pub begins_with_reader : (list : List (List ℕ)) → AllByRecursion (CanWait core) list → oldest list ≢ Output → BeginsWithReader (List ℕ) (process_of core (value_in h)) list
  begins_with_reader [] can none = tt
  begins_with_reader ([] ∷ rest) can none = absurd can.0
  begins_with_reader ((zero ∷ held) ∷ rest) can none = absurd (none refl)
  begins_with_reader ((suc number ∷ held) ∷ rest) can none = let i = input_stands core h number held can.0 in (i.chan, i.replicated, i.pattern, i.body, i.is)

-- ---- steps

module _ (core : Process) (h : HeapState) (words waiting : List ℕ) (ready : List (List ℕ)) (s : QueuesState) (channel : ℕ) (there : IsQueue s (channel + 1)) where
  pub output_waits : (v : Val) (at : Span) → process_of core (value_in h) words ≡ Out (Chan channel) v at → process_of core (value_in h) waiting ≡ Out (Chan channel) v at
      → AllByRecursion (IsBlock core h) (contents s (channel + 1)) → ((number : ℕ) → oldest (contents s (channel + 1)) ≢ Input number)
      → BlocksStep core h (words ∷ ready) (channel_lists s) Quiet ready (slice_set (channel_lists s) channel (contents s (channel + 1) ++ waiting ∷ []))
  output_waits v at is same blocks none =
      output_parks (List ℕ) (process_of core (value_in h)) words ready (channel_lists s) channel (contents s (channel + 1)) (channel_there s channel there) v at waiting is same
      (begins_with_message core h (contents s (channel + 1)) blocks none)

  pub input_waits : (b : Bool) (pattern : Pat) (body : Process) → process_of core (value_in h) words ≡ In (Chan channel) b pattern body → process_of core (value_in h) waiting ≡ In (Chan channel) b pattern body
      → AllByRecursion (CanWait core) (contents s (channel + 1)) → oldest (contents s (channel + 1)) ≢ Output
      → BlocksStep core h (words ∷ ready) (channel_lists s) Quiet ready (slice_set (channel_lists s) channel (contents s (channel + 1) ++ waiting ∷ []))
  input_waits b pattern body is same can none =
      input_parks (List ℕ) (process_of core (value_in h)) words ready (channel_lists s) channel (contents s (channel + 1)) (channel_there s channel there) b pattern body waiting is same
      (begins_with_reader core h (contents s (channel + 1)) can none)

-- ---- a block more waits at a channel, and nobody has the turn

module _ (core : Process) (s : Store) (q : QueuesState) (channel : ℕ) (waiting : List ℕ) (acting : HasActing core s) (there : IsQueue s.queues (channel + 1))
    (pushed : contents q (channel + 1) ≡ contents s.queues (channel + 1) ++ waiting ∷ []) (others : KeepsOtherContents s.queues q (channel + 1)) (many : length q.queues ≡ length s.queues.queues)
    (no_more : HoldsNoMore s.queues q) (no_loss : LosesNoQueue s.queues q) where
  one_more : Changes core s (record s { queues = q; turn = Nobody }) channel (contents s.queues 0) (contents s.queues (channel + 1) ++ waiting ∷ [])
  one_more = record {
    ready_are = others 0 (λ e. omega (arith, e));
    waiting_are = pushed;
    others = λ queue some. λ apart. others queue apart;
    queues = many;
    keeps = keeps_all s.desk.heap;
    pairs = acting.store.pairs;
    levels = refl;
    turn = tt;
    room = tt;
  }

  pub waits : IsBlock core s.desk.heap waiting → CanWait core waiting
      → BlocksStep core s.desk.heap (acting_words core s ∷ contents s.queues 0) (channel_lists s.queues) Quiet (contents s.queues 0)
      (slice_set (channel_lists s.queues) channel (contents s.queues (channel + 1) ++ waiting ∷ []))
      → IsDone core s (record s { queues = q; turn = Nobody }) Quiet
  waits is can step =
      done core s (record s { queues = q; turn = Nobody }) channel (contents s.queues 0) (contents s.queues (channel + 1) ++ waiting ∷ []) acting there one_more Quiet
      (acting.store.blocks 0)
      (all_pushed (IsBlock core s.desk.heap) (contents s.queues (channel + 1)) waiting (acting.store.blocks (channel + 1)) is)
      (all_pushed (CanWait core) (contents s.queues (channel + 1)) waiting (acting.store.waiting channel) can)
      step no_more no_loss

  -- it is an output of kept values, as who had the turn is an output
  pub output_done : (v : Val) (at : Span) → process_of core (value_in s.desk.heap) (acting_words core s) ≡ Out (Chan channel) v at
      → (kept : IsKept s.desk.heap waiting) → process_of core (value_in s.desk.heap) waiting ≡ Out (Chan channel) v at
      → NoInputWaits s.queues channel → IsDone core s (record s { queues = q; turn = Nobody }) Quiet
  output_done v at is kept same none =
      waits (inr kept) (subst (CanWait core) (sym kept.is) tt)
      (output_waits core s.desk.heap (acting_words core s) waiting (contents s.queues 0) s.queues channel there v at is same (acting.store.blocks (channel + 1)) none)

-- who had the turn waits itself
module _ (core : Process) (s : Store) (q : QueuesState) (channel : ℕ) (there : IsQueue s.queues (channel + 1))
    (pushed : contents q (channel + 1) ≡ contents s.queues (channel + 1) ++ acting_words core s ∷ []) (others : KeepsOtherContents s.queues q (channel + 1)) (many : length q.queues ≡ length s.queues.queues)
    (no_more : HoldsNoMore s.queues q) (no_loss : LosesNoQueue s.queues q) where
  pub kept_done : SendsKept core s channel → NoInputWaits s.queues channel → IsDone core s (record s { queues = q; turn = Nobody }) Quiet
  kept_done sends none =
      let k = sends.kept.kept in
      let is : process_of core (value_in s.desk.heap) (acting_words core s) ≡ Out (Chan channel) (value_in s.desk.heap k.message.0 k.message.1) k.at =
      ap (process_of core (value_in s.desk.heap)) sends.kept.is ∙ ap (λ v. Out v (value_in s.desk.heap k.message.0 k.message.1) k.at) sends.to in
      output_done core s q channel (acting_words core s) sends.acting there pushed others many no_more no_loss (value_in s.desk.heap k.message.0 k.message.1) k.at is sends.kept is none

  pub input_done : (replicated : Bool) (pattern : CodePat) (part : ℕ) → Receives core s channel replicated pattern part → NoOutputWaits s.queues channel
      → IsDone core s (record s { queues = q; turn = Nobody }) Quiet
  input_done replicated pattern part r none =
      let words = acting_words core s in
      let a = r.acts in
      let stands = inputs_stand core s.desk.heap s.desk.values.items a.number part replicated r.chan pattern a.node words r.closed a.is a.op_is in
      let is : process_of core (value_in s.desk.heap) words ≡ In (Chan channel) replicated (unleveled pattern) stands.0 = stands.1 ∙ ap (λ v. In v replicated (unleveled pattern) stands.0) r.from in
      let at : IsInputAt core a.number = record { node = a.node; at = a.is.at; replicated = replicated; chan = r.chan; pattern = pattern; part = part; is = a.op_is } in
      waits core s q channel words a.acting there pushed others many no_more no_loss (acting_block core s a.acting) (subst (CanWait core) (sym a.is.words_are) at)
      (input_waits core s.desk.heap words words (contents s.queues 0) s.queues channel there replicated (unleveled pattern) stands.0 is is (a.acting.store.waiting channel) none)

-- who had the turn ends, and one of an output of kept values waits in its place
module _ (core : Process) (s : Store) (q : QueuesState) (channel : ℕ) (message : ℕ × ℕ) (at : Span) (k : Kept) (there : IsQueue s.queues (channel + 1))
    (to : packed (word.Chan channel) ≡ k.to) (same_message : k.message ≡ message) (same_at : k.at ≡ at) (number : channel < 2 ^ 32) (fits : FitsKept k) where
  pub sent_done : Sends core s channel message at → contents q (channel + 1) ≡ contents s.queues (channel + 1) ++ kept_words k ∷ [] → KeepsOtherContents s.queues q (channel + 1)
      → length q.queues ≡ length s.queues.queues → HoldsNoMore s.queues q → LosesNoQueue s.queues q → NoInputWaits s.queues channel → IsDone core s (record s { queues = q; turn = Nobody }) Quiet
  sent_done sends pushed others many no_more no_loss none =
      let h = s.desk.heap in
      let kept : IsKept h (kept_words k) = record {
        kept = k;
        is = refl;
        fits = fits;
        to = record { word = word.Chan channel; is = tt; fits = number; packs = to };
        message = subst (IsPair h) (sym same_message) sends.pair;
      } in
      let same : process_of core (value_in h) (kept_words k) ≡ Out (Chan channel) (value_in h message.0 message.1) at =
      ap (λ v. Out v (value_in h k.message.0 k.message.1) k.at) (value_packed h (word.Chan channel) k.to number to)
      ∙ ap (λ (p : ℕ × ℕ). Out (Chan channel) (value_in h p.0 p.1) k.at) same_message ∙ ap (Out (Chan channel) (value_in h message.0 message.1)) same_at in
      output_done core s q channel (kept_words k) sends.acting there pushed others many no_more no_loss (value_in h message.0 message.1) at sends.is kept same none
