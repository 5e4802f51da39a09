-- The view of a machine, and the configurations that it stands for.
use Rattle.std.specs.Prelude.{ℕ, Bool, true, ◌||◌, ◌≡◌, ◌⊎◌, List, [], length, map, filter, slice_get, unwrap_or}
use Rattle.std.specs.List.{AllByRecursion}
use Rattle.pict_core.specs.Term.{Process}
use Rattle.pict_core.specs.Configuration.{Entry, Configuration}
use Rattle.pict_core.specs.Step.{is_ready, is_parked_reader, is_parked_message, reads, sends}

-- the ready processes in order, and the list of what is parked at each channel, the oldest first; no stamps
pub record View : Type 0 where
  pub ready : List Process
  pub channels : List (List Process)

-- the processes that pass the test, by rising stamps
abbrev pub processes : (Entry → Bool) → List Entry → List Process
processes test es = map (λ (e : Entry). e.process) (filter test es)

-- parked at channel c, as a reader or as a message
abbrev pub is_parked_at : ℕ → Entry → Bool
is_parked_at c e = is_parked_reader c e || is_parked_message c e

-- the list of channel c; nothing past the last channel
abbrev pub list_at : ℕ → List (List Process) → List Process
list_at c lists = unwrap_or (slice_get lists c) []

-- The channels are as many, the first list is the ready processes by rising stamps, and the list of each channel is
-- its parked processes by rising stamps.
pub record StandsFor (v : View) (C : Configuration) : Type 0 where
  pub channels : length v.channels ≡ C.channels
  pub ready : processes is_ready C.entries ≡ v.ready
  pub parked : (c : ℕ) → processes (is_parked_at c) C.entries ≡ list_at c v.channels

-- each is an output on channel c, or each an input at it
abbrev pub AreOutputs : ℕ → List Process → Type 0
AreOutputs c ps = AllByRecursion (λ p. sends c p ≡ true) ps

abbrev pub AreInputs : ℕ → List Process → Type 0
AreInputs c ps = AllByRecursion (λ p. reads c p ≡ true) ps

-- The list of each channel is of outputs on it, or of inputs at it. A machine keeps this.
pub record KeepsApart (v : View) : Type 0 where
  pub apart : (c : ℕ) → AreOutputs c (list_at c v.channels) ⊎ AreInputs c (list_at c v.channels)
