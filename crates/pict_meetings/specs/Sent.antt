-- What is sent, by words of a heap: a value that has words, or a record that isn't made.
use Rattle.std.specs.Prelude.{◌≡◌, ℕ, List, [], ◌∷◌, map}
use Rattle.std.specs.List.{AllByRecursion}
use Rattle.pict_syntax.specs.declared.span.Span.{Span}
use Rattle.pict_core.specs.Step.{Comm}
use Rattle.pict_core.specs.Term.{Process, Val, Chan, Out, Record, no_labelled}
use Rattle.pict_core.specs.Plain.{vals_of}
use Rattle.pict_code.specs.Instruction.{CodePat, Bind}
use Rattle.pict_heap.specs.HeapState.{HeapState}
use Rattle.pict_blocks.specs.Blocks.{process_of}
use Rattle.pict_desk.specs.Known.{value_in}
use Rattle.pict_desk.specs.Pairs.{IsPair}
use Rattle.pict_turns.specs.Views.{acting_words}
use Rattle.pict_turns.specs.Acting.{HasActing, IsDone}
use Rattle.pict_turns.specs.declared.store.Store.{Store}
use Rattle.pict_meetings.specs.declared.sent.Sent.{Sent}
use Rattle.pict_meetings.specs.declared.sent.Sent.TheVariants.{Whole, Two, Three}

-- the record of these fields, two words each, and of none with labels
abbrev pub record_of_pairs : HeapState → List (ℕ × ℕ) → Val
record_of_pairs h pairs = Record (vals_of (map (λ (pair : ℕ × ℕ). value_in h pair.0 pair.1) pairs)) no_labelled

-- the value that is sent
abbrev pub sent_value : HeapState → Sent → Val
sent_value h (Whole pair) = value_in h pair.0 pair.1
sent_value h (Two a b) = record_of_pairs h (a ∷ b ∷ [])
sent_value h (Three a b c) = record_of_pairs h (a ∷ b ∷ c ∷ [])

-- each two words of it are those of a word of the heap
abbrev pub IsSent : HeapState → Sent → Type 0
IsSent h (Whole pair) = IsPair h pair
IsSent h (Two a b) = AllByRecursion (IsPair h) (a ∷ b ∷ [])
IsSent h (Three a b c) = AllByRecursion (IsPair h) (a ∷ b ∷ c ∷ [])

-- this is sent, by words of the heap, and is this value
pub record IsSentFor (h : HeapState) (v : Val) (sent : Sent) : Type 0 where
  pub is : IsSent h sent
  pub value : sent_value h sent ≡ v

-- a pattern that binds what it receives as a whole
abbrev pub TakesWhole : CodePat → Type 0
TakesWhole (Bind level) = Unit {0}
TakesWhole _ = ⊥

-- a pattern that doesn't want the word of a record that isn't made
abbrev pub CanTake : CodePat → Sent → Type 0
CanTake pattern (Whole pair) = Unit {0}
CanTake pattern _ = ¬ TakesWhole pattern

-- Who has the turn is an output on this channel of what is sent.
pub record SendsThis (core : Process) (s : Store) (channel : ℕ) (sent : Sent) (at : Span) : Type 0 where
  pub acting : HasActing core s
  pub sent_is : IsSent s.desk.heap sent
  pub is : process_of core (value_in s.desk.heap) (acting_words core s) ≡ Out (Chan channel) (sent_value s.desk.heap sent) at

-- The step is done, and what is sent is received on this channel.
pub record IsReceived (core : Process) (old new : Store) (channel : ℕ) (sent : Sent) : Type 0 where
  pub done : IsDone core old new (Comm channel (sent_value new.desk.heap sent))
  pub sent_is : IsSent new.desk.heap sent
