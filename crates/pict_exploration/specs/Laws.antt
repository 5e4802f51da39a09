-- The laws of explorations, each the contract of a public function that does nothing.
use Rattle.std.specs.Prelude.{ℕ, ◌≡◌, ◌↔◌, ◌⊎◌, List, []}
use Rattle.pict_syntax.specs.declared.span.Span.{Span}
use Rattle.pict_core.specs.Term.{Process}
use Rattle.pict_core.specs.Closed.{IsClosed}
use Rattle.pict_core.specs.Configuration.{Configuration, opening}
use Rattle.pict_core.specs.Step.{Label, Choice, IsChoice, Traps, Finished, free_step, next}
use Rattle.pict_core.specs.Run.{bytes_of}
use Rattle.pict_core.specs.Places.{Place}
use Rattle.pict_core.specs.FreeRun.{FreelyRuns}
use Rattle.pict_reduction.specs.Congruence.{Congruent}
use Rattle.pict_reduction.specs.Reduction.{Reduces}
use Rattle.pict_reduction.specs.Reading.{reading}
use Rattle.pict_exploration.specs.Alone.{ReducesAlone}
use Rattle.pict_exploration.specs.Explored.{FreelyPrints, ReducesTo, Vertex, Has, IsFoundAs, IsFoundSettled, Explores}

-- Free steps of a process lead to a configuration and print these bytes exactly where choices by place do.
abbrev pub PrintingsHavePlaces : Type 0
PrintingsHavePlaces =
    (p : Process) (bytes : List ℕ) (C : Configuration) → IsClosed p
    → FreelyPrints (opening p) bytes C
    ↔ ((places : List Place) × (labels : List (ℕ × Label)) × FreelyRuns (opening p) places labels C × (bytes_of labels ≡ bytes))

-- q and r are the same up to congruence, and nothing was printed on the way to r; or one process of r reduces by itself to
-- what q reduces to, and that prints these bytes.
abbrev pub Joins : ℕ → List ℕ → Process → Process → Type 0
Joins n bytes q r = ((bytes ≡ []) × Congruent n q r) ⊎ ((s : Process) × Reduces n bytes q s × ReducesAlone n r s)

-- A reduction of one process by itself that prints nothing commutes with each other reduction.
abbrev pub AloneCommutes : Type 0
AloneCommutes =
    (n : ℕ) (bytes : List ℕ) (p q r : Process) → ReducesAlone n p q → Reduces n bytes p r → Joins n bytes q r

-- What is found is what the process reduces to, up to congruence, by reductions that print its bytes.
abbrev pub FoundIsReduced : Type 0
FoundIsReduced =
    (p : Process) (found : List Vertex) → IsClosed p → Explores p found
    → (v : Vertex) → Has found v → ReducesTo 0 (reading (opening p)) v.bytes (reading v.configuration)

-- Whatever free steps of the process reach, in any order, settles to what is found with the bytes that they print.
abbrev pub ExplorationsCoverRuns : Type 0
ExplorationsCoverRuns =
    (p : Process) (found : List Vertex) → IsClosed p → Explores p found
    → (C : Configuration) (bytes : List ℕ) → FreelyPrints (opening p) bytes C → IsFoundSettled found bytes (reading C)

-- Each such run goes on, by free steps that print nothing, to a configuration that is found, up to congruence, with its bytes.
abbrev pub RunsGoOnToFound : Type 0
RunsGoOnToFound =
    (p : Process) (found : List Vertex) → IsClosed p → Explores p found
    → (C : Configuration) (bytes : List ℕ) → FreelyPrints (opening p) bytes C
    → (D : Configuration) × FreelyPrints C [] D × IsFoundAs found bytes (reading D)

-- Whatever the process reduces to settles to what is found with the bytes that the reductions print.
abbrev pub ExplorationsCoverReductions : Type 0
ExplorationsCoverReductions =
    (p : Process) (found : List Vertex) → IsClosed p → Explores p found
    → (q : Process) (bytes : List ℕ) → ReducesTo 0 (reading (opening p)) bytes q → IsFoundSettled found bytes q

-- A finished configuration that free steps reach is found itself, up to congruence, as one that is finished.
abbrev pub FinishedRunsAreFound : Type 0
FinishedRunsAreFound =
    (p : Process) (found : List Vertex) → IsClosed p → Explores p found
    → (C : Configuration) (bytes : List ℕ) → FreelyPrints (opening p) bytes C → next C ≡ Finished
    → (f : IsFoundAs found bytes (reading C)) × (next f.vertex.configuration ≡ Finished)

-- Where a choice divides by zero in what free steps reach, one divides by zero, at the same place of the text, in what is
-- found for it.
abbrev pub TrapsAreFound : Type 0
TrapsAreFound =
    (p : Process) (found : List Vertex) → IsClosed p → Explores p found
    → (C : Configuration) (bytes : List ℕ) (choice : Choice) (at : Span) → FreelyPrints (opening p) bytes C
    → IsChoice C choice → free_step C choice ≡ Traps at
    → (f : IsFoundSettled found bytes (reading C)) × (other : Choice) × IsChoice f.vertex.configuration other
    × (free_step f.vertex.configuration other ≡ Traps at)
