-- Silent steps, and steps of one process by itself that print nothing, one after the other.
use Rattle.std.specs.Prelude.{ℕ, ◌≡◌, ◌⊎◌, Bool, true, false, ◌&&◌, List, filter, slice_get, Option, Some, None}
use Rattle.pict_core.specs.Term.{Val, Process, Boolean, PrimitiveVal, Out, If}
use Rattle.pict_core.specs.Primitives.{Effect, Leaves, Answer, effect_of}
use Rattle.pict_core.specs.Configuration.{Entry, Configuration, IsConfiguration}
use Rattle.pict_core.specs.Step.{is_ready, least}
use Rattle.pict_core.specs.Places.{Place}
use Rattle.pict_reduction.specs.Reading.{reading}
use Rattle.pict_reduction.specs.Silent.{IsStill, is_silent, acts_silently}
use Rattle.pict_exploration.specs.Alone.{SettlesTo}
use Rattle.pict_exploration.specs.Explored.{Vertex, IsReachedByChoices}
use Rattle.pict_orders.specs.Room.{IsFull}
use Rattle.pict_orders.specs.declared.settling.Once.{Once}
use Rattle.pict_orders.specs.declared.settling.Once.TheVariants as once

-- nothing is printed, and there is an answer
abbrev pub is_quiet : Option (List ℕ) → Leaves → Bool
is_quiet None (Answer k a) = true
is_quiet _ _ = false

abbrev pub is_quiet_effect : Option Effect → Bool
is_quiet_effect None = false
is_quiet_effect (Some e) = is_quiet e.printed e.leaves

abbrev pub is_truth_value : Val → Bool
is_truth_value (Boolean b) = true
is_truth_value _ = false

-- an output to a primitive that answers and prints nothing
abbrev pub is_answered : Val → Val → Bool
is_answered (PrimitiveVal f) message = is_quiet_effect (effect_of f message)
is_answered _ message = false

-- The process reduces by itself and prints nothing: a conditional, or an output to a primitive.
abbrev pub goes_alone : Process → Bool
goes_alone (If test p q) = is_truth_value test
goes_alone (Out chan message at) = is_answered chan message
goes_alone _ = false

-- the entry is ready, and its process passes the test
abbrev pub is_ready_for : (Process → Bool) → Entry → Bool
is_ready_for t e = is_ready e && t e.process

-- No ready one passes the test; or the one of this number does, among those that are ready.
abbrev pub FirstReady : (Process → Bool) → List Entry → Option ℕ → Type 0
FirstReady t es None = least (is_ready_for t) es ≡ None
FirstReady t es (Some i) = (a : Entry) × (slice_get (filter is_ready es) i ≡ Some a) × (t a.process ≡ true)

-- no ready process reduces by itself and prints nothing
abbrev pub NoneGoesAlone : List Entry → Type 0
NoneGoesAlone es = least (is_ready_for goes_alone) es ≡ None

-- No ready process of the configuration acts silently, and none reduces by itself and prints nothing.
pub record IsSettled (C : Configuration) : Type 0 where
  pub still : IsStill C
  pub none : NoneGoesAlone C.entries

-- None acts silently or by itself; or the one of this number, among those that are ready, does.
abbrev pub FirstQuiet : List Entry → Option ℕ → Type 0
FirstQuiet es None = (least (acts_silently es) es ≡ None) × NoneGoesAlone es
FirstQuiet es (Some i) = (a : Entry) × (slice_get (filter is_ready es) i ≡ Some a) × ((is_silent es a.process ≡ true) ⊎ (goes_alone a.process ≡ true))

abbrev pub vertex : List Place → List ℕ → Configuration → Vertex
vertex choices bytes C = record { choices = choices; bytes = bytes; configuration = C }

-- Choices that lead to C go on as choices that lead to D and print no more, and the reading of C settles to that of D.
pub record LeadsQuietly (before : List Place) (C : Configuration) (after : List Place) (D : Configuration) : Type 0 where
  pub is : IsConfiguration D
  pub settles : SettlesTo 0 (reading C) (reading D)
  pub runs : (p : Process) (bytes : List ℕ) → IsReachedByChoices p (vertex before bytes C) → IsReachedByChoices p (vertex after bytes D)

-- One such step, or none: D has settled; or there may be no numbers for one more.
abbrev pub SettlesOnce : Once → List Place → Configuration → List Place → Configuration → Type 0
SettlesOnce once.Still before C after D = (after ≡ before) × (D ≡ C) × IsSettled D
SettlesOnce once.NoRoom before C after D = (after ≡ before) × (D ≡ C) × IsFull D
SettlesOnce once.Stepped before C after D = LeadsQuietly before C after D

-- All of them, until D has settled.
abbrev pub Settles : List Place → Configuration → List Place → Configuration → Type 0
Settles before C after D = LeadsQuietly before C after D × IsSettled D

-- Some of them, until there may be no numbers for one more.
abbrev pub SettlesToFull : List Place → Configuration → List Place → Configuration → Type 0
SettlesToFull before C after D = LeadsQuietly before C after D × IsFull D
