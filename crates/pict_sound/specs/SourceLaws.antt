-- The laws of typed programs, each the contract of a public function that does nothing.
use Rattle.std.specs.Prelude.{ℕ, ◌≡◌, List}
use Rattle.pict_syntax.specs.Trees.{Decs}
use Rattle.pict_core.specs.Configuration.{Configuration, opening}
use Rattle.pict_core.specs.Step.{Label, IsWrong, Wrong, next}
use Rattle.pict_core.specs.Run.{Reaches, Misshapen, Runs}
use Rattle.pict_rules.specs.Derivations.{IsTyped}
use Rattle.pict_translation.specs.Translation.{program_core}
use Rattle.pict_reduction.specs.Reached.{FreelyReaches}

-- No configuration that free steps reach from the opening one of a typed program's core process is wrong.
abbrev pub ProgramIsNeverWrong : Type 0
ProgramIsNeverWrong = (names : List (List ℕ)) (program : Decs) (C : Configuration)
    → IsTyped names program → FreelyReaches (opening (program_core names program)) C → IsWrong C → ⊥

-- In the oldest-first run of a typed program no step is wrong, and no run of it ends by a wrong step.
abbrev pub ProgramStepsAreNotWrong : Type 0
ProgramStepsAreNotWrong = (names : List (List ℕ)) (program : Decs) (n : ℕ) (labels : List (ℕ × Label)) (C : Configuration)
    → IsTyped names program → Reaches n (opening (program_core names program)) labels C → next C ≡ Wrong → ⊥

abbrev pub ProgramRunsAreNotWrong : Type 0
ProgramRunsAreNotWrong = (names : List (List ℕ)) (program : Decs) (fuel : ℕ) (labels : List (ℕ × Label))
    → IsTyped names program → Runs (program_core names program) fuel Misshapen labels → ⊥
