-- The laws of ranges.
use Rattle.std.specs.Prelude.{ℕ, ◌+◌, ◌≤◌, ◌<◌, ◌^◌, List, length, Option, Some, IfSome}
use Rattle.std.specs.List.{AllByRecursion}
use Rattle.pict_core.specs.Term.{Process}
use Rattle.pict_core.specs.Closed.{IsClosed}
use Rattle.pict_core.specs.Configuration.{Configuration, IsConfiguration, opening}
use Rattle.pict_core.specs.Step.{Label, Choice, Free}
use Rattle.pict_core.specs.Run.{Reaches}
use Rattle.pict_core.specs.Places.{Place}
use Rattle.pict_core.specs.FreeRun.{FreelyRuns}
use Rattle.pict_outside.specs.Texts.{Texts}
use Rattle.pict_gather.specs.Phases.{accepts}
use Rattle.pict_gather.specs.Fetching.{MayGive}
use Rattle.pict_trace.specs.Lines.{lines_text}
use Rattle.pict_trace.specs.Ordered.{FitsLine}
use Rattle.pict_trace.specs.Laws.{AreReadBack}
use Rattle.pict_front.specs.Front.{Accepted, IsFront}
use Rattle.pict_ranges.specs.Ranges.{IsMachineProcess, IsMachineConfiguration, IsShort, IsShownAmong, IsShownWithin, NestsWithin}

-- A free step shows what is within ranges. Unless it sends a string that is too long it keeps each value within them.
abbrev pub FreeStepsKeepRanges : Type 0
FreeStepsKeepRanges =
    (C : Configuration) (choice : Choice) (D : Configuration) (label : Label) → IsConfiguration C → IsMachineConfiguration C → Free C choice D label
    → IsShownAmong C.channels label × (D.channels ≤ C.channels + 1) × (IsShort label → IsMachineConfiguration D)

-- What a free run of so many steps shows is within ranges, where no string is sent that is too long.
abbrev pub FreeRunsAreInRange : Type 0
FreeRunsAreInRange =
    (p : Process) (places : List Place) (labels : List (ℕ × Label)) (C : Configuration) → IsClosed p → IsMachineProcess p → FreelyRuns (opening p) places labels C
    → AllByRecursion (λ (l : ℕ × Label). IsShort l.1) labels → AllByRecursion (IsShownWithin (length places)) labels

-- So it fits lines that are read, where the steps are no more than the channels may be and values nest no deeper than in such a line.
abbrev pub FreeRunsFitLines : Type 0
FreeRunsFitLines =
    (p : Process) (places : List Place) (labels : List (ℕ × Label)) (C : Configuration) → IsClosed p → IsMachineProcess p → FreelyRuns (opening p) places labels C
    → AllByRecursion (λ (l : ℕ × Label). IsShort l.1) labels → length places ≤ 2 ^ 32 → AllByRecursion NestsWithin labels → AllByRecursion FitsLine labels

-- In the core process of an accepted file each value is within ranges. A text that is visited is short; so is to be the prelude.
abbrev pub AcceptedIsInRange : Type 0
AcceptedIsInRange =
    (held : Option Texts) (prelude : Option (List ℕ)) (file : List ℕ) (a : Accepted) → IsFront (MayGive held) prelude file (Some (accepts a))
    → IfSome prelude (λ text. length text < 2 ^ 63) → IsMachineProcess a.front.core

-- What a free run of it writes, in up to 2 ^ 32 steps, where values nest no deeper than in a line that is read, is read back.
abbrev pub AcceptedRunsAreReadBack : Type 0
AcceptedRunsAreReadBack =
    (held : Option Texts) (prelude : Option (List ℕ)) (file : List ℕ) (a : Accepted) (places : List Place) (labels : List (ℕ × Label)) (C : Configuration)
    → IsFront (MayGive held) prelude file (Some (accepts a)) → IfSome prelude (λ text. length text < 2 ^ 63) → FreelyRuns (opening a.front.core) places labels C
    → length places ≤ 2 ^ 32 → length (lines_text a.front.names labels) < 2 ^ 63 → AllByRecursion NestsWithin labels → AreReadBack a.front.names labels

-- The same of the run by oldest-first steps.
abbrev pub AcceptedTraceIsReadBack : Type 0
AcceptedTraceIsReadBack =
    (held : Option Texts) (prelude : Option (List ℕ)) (file : List ℕ) (a : Accepted) (n : ℕ) (labels : List (ℕ × Label)) (C : Configuration)
    → IsFront (MayGive held) prelude file (Some (accepts a)) → IfSome prelude (λ text. length text < 2 ^ 63) → Reaches n (opening a.front.core) labels C
    → n ≤ 2 ^ 32 → length (lines_text a.front.names labels) < 2 ^ 63 → AllByRecursion NestsWithin labels → AreReadBack a.front.names labels
