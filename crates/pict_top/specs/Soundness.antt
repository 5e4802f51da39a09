-- What holds of each configuration of a run of an accepted program.
use Rattle.std.specs.Prelude.{◌≡◌, ◌⊎◌, ℕ, List, []}
use Rattle.pict_core.specs.Term.{Process}
use Rattle.pict_core.specs.Configuration.{Configuration, opening}
use Rattle.pict_core.specs.Step.{Label, Choice, Steps, Finished, Free, IsWrong, next}
use Rattle.pict_core.specs.Run.{Reaches, printed_by}
use Rattle.pict_reduction.specs.Congruence.{Congruent}
use Rattle.pict_reduction.specs.Reduction.{Reduces, IsIrreducible}
use Rattle.pict_reduction.specs.Reading.{reading}
use Rattle.pict_reduction.specs.Reached.{FreelyReaches}
use Rattle.pict_reduction.specs.Silent.{IsReachedBySteps}

-- No choice of a ready process and a partner is wrong. The step leaves the reading congruent and prints nothing, or reduces it
-- by one reduction and prints what that prints; and where nothing is ready no reduction leaves the reading, nor any process congruent to it.
pub record IsSoundAt (C : Configuration) : Type 0 where
  pub right : IsWrong C → ⊥
  pub reduces : (D : Configuration) (label : Label) → next C ≡ Steps D label
      → (Congruent 0 (reading C) (reading D) × (printed_by label ≡ [])) ⊎ Reduces 0 (printed_by label) (reading C) (reading D)
  pub finished : next C ≡ Finished → IsIrreducible 0 (reading C)

-- so it is at each configuration that oldest-first steps of the process reach, whatever the fuel
abbrev pub IsSound : Process → Type 0
IsSound p = (steps : ℕ) (labels : List (ℕ × Label)) (C : Configuration) → Reaches steps (opening p) labels C → IsSoundAt C

-- ---- in any order

-- No choice of a ready process and a partner is wrong. Each free step leaves the reading congruent and prints nothing, or reduces
-- it by one reduction and prints what that prints. Each reduction of the reading is reached, by free steps that leave it congruent
-- and print nothing and then one that reduces it and prints the same; and where nothing is ready there is none.
pub record IsFreelySoundAt (C : Configuration) : Type 0 where
  pub right : IsWrong C → ⊥
  pub reduces : (choice : Choice) (D : Configuration) (label : Label) → Free C choice D label
      → (Congruent 0 (reading C) (reading D) × (printed_by label ≡ [])) ⊎ Reduces 0 (printed_by label) (reading C) (reading D)
  pub reached : (bytes : List ℕ) (R : Process) → Reduces 0 bytes (reading C) R → IsReachedBySteps C bytes R
  pub finished : next C ≡ Finished → IsIrreducible 0 (reading C)

-- so it is at each configuration that free steps of the process reach, whichever ready process acts each time, with whichever
-- partner
abbrev pub IsFreelySound : Process → Type 0
IsFreelySound p = (C : Configuration) → FreelyReaches (opening p) C → IsFreelySoundAt C
