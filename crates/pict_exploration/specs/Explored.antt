-- Explorations: lists of configurations that hold, up to congruence, whatever any order of steps leads to.
use Rattle.std.specs.Prelude.{ℕ, ◌≡◌, List, [], ◌++◌, Some, slice_get}
use Rattle.pict_core.specs.Term.{Process}
use Rattle.pict_core.specs.Configuration.{Configuration, opening}
use Rattle.pict_core.specs.Step.{Label, Choice, Free}
use Rattle.pict_core.specs.Run.{printed_by, bytes_of}
use Rattle.pict_core.specs.Places.{Place}
use Rattle.pict_core.specs.FreeRun.{FreelyRuns}
use Rattle.pict_reduction.specs.Congruence.{Congruent}
use Rattle.pict_reduction.specs.Reduction.{Reduces}
use Rattle.pict_reduction.specs.Reading.{reading}
use Rattle.pict_reduction.specs.Silent.{IsStill}
use Rattle.pict_exploration.specs.Alone.{SettlesTo}

-- Some free steps, or none, lead from C to a configuration, and print these bytes.
pub data FreelyPrints (C : Configuration) : List ℕ → Configuration → Type 0 where
  at_start : FreelyPrints C [] C
  by_step : {D E : Configuration} {bytes : List ℕ} {choice : Choice} {label : Label}
      → FreelyPrints C bytes D → Free D choice E label → FreelyPrints C (bytes ++ printed_by label) E

-- Some reductions, or none, lead from p to a process, up to congruence, and print these bytes.
pub data ReducesTo (n : ℕ) (p : Process) : List ℕ → Process → Type 0 where
  at_start : {q : Process} → Congruent n p q → ReducesTo n p [] q
  by_reduction : {q r : Process} {bytes more : List ℕ}
      → ReducesTo n p bytes q → Reduces n more q r → ReducesTo n p (bytes ++ more) r

-- What is found: a configuration, choices that lead to it, and the bytes that their steps print.
pub record Vertex : Type 0 where
  pub choices : List Place
  pub bytes : List ℕ
  pub configuration : Configuration

-- The choices of the vertex lead from the opening configuration of p to its own, and print its bytes.
pub record IsReachedByChoices (p : Process) (v : Vertex) : Type 0 where
  pub labels : List (ℕ × Label)
  pub runs : FreelyRuns (opening p) v.choices labels v.configuration
  pub prints : bytes_of labels ≡ v.bytes

abbrev pub Has : List Vertex → Vertex → Type 0
Has found v = (i : ℕ) × (slice_get found i ≡ Some v)

-- with these bytes a configuration is found whose reading is p, up to congruence
pub record IsFoundAs (found : List Vertex) (bytes : List ℕ) (p : Process) : Type 0 where
  pub vertex : Vertex
  pub is : Has found vertex
  pub printed : vertex.bytes ≡ bytes
  pub same : Congruent 0 (reading vertex.configuration) p

-- so is what p settles to: reductions of one process by itself that print nothing, or none, lead from p to its reading
pub record IsFoundSettled (found : List Vertex) (bytes : List ℕ) (p : Process) : Type 0 where
  pub vertex : Vertex
  pub is : Has found vertex
  pub printed : vertex.bytes ≡ bytes
  pub settles : SettlesTo 0 p (reading vertex.configuration)

-- An exploration of a process. Each vertex that is found is reached by its choices, and has no silent step left; what the
-- opening configuration settles to is found, up to congruence, and so is what each step of one that is found leads to, once it
-- has settled. Of choices whose step is wrong nothing is said.
pub record Explores (p : Process) (found : List Vertex) : Type 0 where
  pub reached : (v : Vertex) → Has found v → IsReachedByChoices p v
  pub still : (v : Vertex) → Has found v → IsStill v.configuration
  pub opens : IsFoundSettled found [] (reading (opening p))
  pub steps : (v : Vertex) (choice : Choice) (D : Configuration) (label : Label)
      → Has found v → Free v.configuration choice D label → IsFoundSettled found (v.bytes ++ printed_by label) (reading D)
