-- What a search does, step by step.
use Rattle.std.specs.Prelude.{ℕ, ◌≡◌, ◌<◌, List, [], ◌∷◌, ◌++◌, length, slice_get, Some}
use Rattle.pict_core.specs.Term.{Process}
use Rattle.pict_core.specs.Configuration.{Configuration, opening}
use Rattle.pict_core.specs.Step.{Label, StepOutcome, Steps, Traps, Wrong, Finished}
use Rattle.pict_core.specs.Run.{printed_by}
use Rattle.pict_core.specs.Places.{Place, IsPlace, ready_entries, outcome_at}
use Rattle.pict_reduction.specs.Reading.{reading}
use Rattle.pict_exploration.specs.Explored.{Vertex, IsFoundSettled}
use Rattle.pict_orders.specs.Plain.{place}
use Rattle.pict_orders.specs.Room.{ComesToFull}
use Rattle.pict_orders.specs.Found.{vertices, IsSearch, HasTrap}
use Rattle.pict_orders.specs.declared.search.Extent.{Extent}
use Rattle.pict_orders.specs.declared.search.Extent.TheVariants.{All, NoRoom}
use Rattle.pict_orders.specs.declared.search.Search.{Search}
use Rattle.pict_orders.specs.declared.search.Trap.{Trap}

-- What was found stays, and more may be found.
pub record Extends (old new : Search) : Type 0 where
  pub more : List Vertex
  pub more_traps : List Trap
  pub found : vertices new.found.items ≡ vertices old.found.items ++ more
  pub traps : new.traps.items ≡ old.traps.items ++ more_traps

-- The search goes on; where nothing is left out this is done; and where it ends for want of numbers, choices lead to that.
pub record Goes (p : Process) (old new : Search) (extent : Extent) (Done : Type 0) : Type 0 where
  pub is : IsSearch p (vertices new.found.items) new.traps.items
  pub extends : Extends old new
  pub done : extent ≡ All → Done
  pub full : extent ≡ NoRoom → ComesToFull p

-- one vertex more is found
pub record IsAdded (old new : Search) (v : Vertex) : Type 0 where
  pub found : vertices new.found.items ≡ vertices old.found.items ++ v ∷ []
  pub traps : new.traps.items ≡ old.traps.items
  pub limit : new.limit ≡ old.limit

-- the vertex of this number has this place
abbrev pub IsThere : List Vertex → ℕ → Place → Type 0
IsThere found number there = (v : Vertex) → slice_get found number ≡ Some v → IsPlace v.configuration there

-- so many processes of it are ready, and more
abbrev pub IsReadyAt : List Vertex → ℕ → ℕ → Type 0
IsReadyAt found number ready = (v : Vertex) → slice_get found number ≡ Some v → ready < length (ready_entries v.configuration)

-- The step of the vertex of this number at the place leads to D, and shows this label.
pub record IsStepFrom (found : List Vertex) (number : ℕ) (at : Place) (D : Configuration) (label : Label) : Type 0 where
  pub vertex : Vertex
  pub is : slice_get found number ≡ Some vertex
  pub there : IsPlace vertex.configuration at
  pub steps : outcome_at vertex.configuration at ≡ Steps D label

-- what D settles to is found, with the bytes of the vertex of this number and those of the label
abbrev pub IsFoundBy : Search → Search → ℕ → Label → Configuration → Type 0
IsFoundBy old new number label D =
    (v : Vertex) → slice_get (vertices old.found.items) number ≡ Some v
    → IsFoundSettled (vertices new.found.items) (v.bytes ++ printed_by label) (reading D)

-- what the step of a vertex at a place leads to is found, once it has settled; or it traps, and that is listed
abbrev pub IsCovered : Search → ℕ → Vertex → Place → StepOutcome → Type 0
IsCovered s number v there (Steps D label) = IsFoundSettled (vertices s.found.items) (v.bytes ++ printed_by label) (reading D)
IsCovered s number v there (Traps at) = HasTrap s.traps.items number there at
IsCovered s number v there Wrong = Unit {0}
IsCovered s number v there Finished = Unit {0}

-- the step of the vertex of this number at the place is covered
abbrev pub IsTried : Search → ℕ → Place → Type 0
IsTried s number there =
    (v : Vertex) → slice_get (vertices s.found.items) number ≡ Some v → IsCovered s number v there (outcome_at v.configuration there)

-- so are its steps at all places of one ready process
abbrev pub AreTried : Search → ℕ → ℕ → Type 0
AreTried s number ready =
    (v : Vertex) → slice_get (vertices s.found.items) number ≡ Some v
    → (j : ℕ) → IsPlace v.configuration (place ready j) → IsCovered s number v (place ready j) (outcome_at v.configuration (place ready j))

-- so are its steps at all places
abbrev pub IsExpanded : Search → ℕ → Type 0
IsExpanded s number =
    (v : Vertex) → slice_get (vertices s.found.items) number ≡ Some v
    → (there : Place) → IsPlace v.configuration there → IsCovered s number v there (outcome_at v.configuration there)

-- all vertices are expanded
abbrev pub AreExpanded : Search → Type 0
AreExpanded s = (number : ℕ) → IsExpanded s number

-- what the opening configuration settles to is found
abbrev pub IsOpened : Process → Search → Type 0
IsOpened p s = IsFoundSettled (vertices s.found.items) [] (reading (opening p))

-- it is found, and all vertices are expanded
pub record IsWhole (p : Process) (s : Search) : Type 0 where
  pub opened : IsOpened p s
  pub expanded : AreExpanded s
