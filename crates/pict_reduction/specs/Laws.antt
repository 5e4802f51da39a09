-- The laws, each the contract of a public function that does nothing.
use Rattle.std.specs.Prelude.{ℕ, ◌≡◌, ◌⊎◌, List, []}
use Rattle.pict_core.specs.Term.{Process}
use Rattle.pict_core.specs.Closed.{IsClosed}
use Rattle.pict_core.specs.Configuration.{Configuration, IsConfiguration, opening}
use Rattle.pict_core.specs.Step.{Label, Choice, Free, Steps, Finished, next}
use Rattle.pict_core.specs.Run.{Reaches, printed_by}
use Rattle.pict_core.specs.Places.{Place}
use Rattle.pict_core.specs.FreeRun.{FreelyRuns}
use Rattle.pict_reduction.specs.Congruence.{Congruent}
use Rattle.pict_reduction.specs.Reduction.{Reduces, IsIrreducible}
use Rattle.pict_reduction.specs.Reading.{reading}
use Rattle.pict_reduction.specs.Components.{components, AreAlike}
use Rattle.pict_reduction.specs.Redex.{Reacts}
use Rattle.pict_reduction.specs.Reached.{FreelyReaches, IsParkedApart}
use Rattle.pict_reduction.specs.Silent.{IsReachedBySteps}
use Rattle.pict_reduction.specs.Traffic.{Traffic, Carries, IsInOrder}

-- In each configuration that free steps reach from the opening one of a closed process, a parked process stands at a
-- channel, and no channel has a parked message and a parked reader at once.
abbrev pub ParkedApart : Type 0
ParkedApart = (p : Process) (C : Configuration) → IsClosed p → FreelyReaches (opening p) C → IsParkedApart C

-- In each oldest-first run of a closed process each channel is first in, first out.
abbrev pub ChannelsInOrder : Type 0
ChannelsInOrder = (p : Process) (c : ℕ) (C : Configuration) (t : Traffic) → IsClosed p → Carries c (opening p) C t → IsInOrder c C t

-- A free step leaves the reading congruent and prints nothing, or reduces it by one reduction and prints what that prints.
abbrev pub StepsAreReductions : Type 0
StepsAreReductions = (C : Configuration) (choice : Choice) (D : Configuration) (label : Label) → IsConfiguration C → Free C choice D label
    → (Congruent 0 (reading C) (reading D) × (printed_by label ≡ [])) ⊎ Reduces 0 (printed_by label) (reading C) (reading D)

-- Where nothing is ready, in a configuration that free steps reach from the opening one of a closed process, no
-- reduction leaves the reading, nor any process congruent to it.
abbrev pub FinishedIsIrreducible : Type 0
FinishedIsIrreducible = (p : Process) (C : Configuration) → IsClosed p → FreelyReaches (opening p) C → next C ≡ Finished → IsIrreducible 0 (reading C)

-- In an oldest-first run of a closed process each step leaves the reading congruent and prints nothing, or reduces it by one
-- reduction and prints what that prints; and where the run is finished no reduction leaves the reading, nor any process
-- congruent to it.
abbrev pub RunsReduce : Type 0
RunsReduce = (p : Process) (n : ℕ) (labels : List (ℕ × Label)) (C : Configuration) → IsClosed p → Reaches n (opening p) labels C
    → ((D : Configuration) (label : Label) → next C ≡ Steps D label → (Congruent 0 (reading C) (reading D) × (printed_by label ≡ [])) ⊎ Reduces 0 (printed_by label) (reading C) (reading D))
    × (next C ≡ Finished → IsIrreducible 0 (reading C))

-- Congruent processes have the same components, up to order and a bijection of the variables bound there.
abbrev pub CongruentAreAlike : Type 0
CongruentAreAlike = (n : ℕ) (p q : Process) → Congruent n p q → AreAlike n (components n p) (components n q)

-- A reduction of a process, up to congruence, is the firing of a redex among the process' own components, with the same bytes
-- printed.
abbrev pub ReductionsAreReactions : Type 0
ReductionsAreReactions = (n : ℕ) (bytes : List ℕ) (p q : Process) → Reduces n bytes p q → Reacts n bytes (components n p) (components n q)

-- Processes with like components are congruent.
abbrev pub AlikeAreCongruent : Type 0
AlikeAreCongruent = (n : ℕ) (p q : Process) → AreAlike n (components n p) (components n q) → Congruent n p q

-- Free steps lose no reduction: each reduction of the reading of a configuration that free steps reach from the opening one
-- of a closed process is reached by silent steps and then one that reduces.
abbrev pub ReductionsAreReached : Type 0
ReductionsAreReached = (p : Process) (C : Configuration) (bytes : List ℕ) (R : Process) → IsClosed p → FreelyReaches (opening p) C → Reduces 0 bytes (reading C) R → IsReachedBySteps C bytes R

-- The free run of a list of places reaches its last configuration by free steps.
abbrev pub FreeRunsReach : Type 0
FreeRunsReach =
    (p : Process) (places : List Place) (labels : List (ℕ × Label)) (D : Configuration) → IsClosed p
    → FreelyRuns (opening p) places labels D → FreelyReaches (opening p) D
