-- What a search has found.
use Rattle.std.specs.Prelude.{ℕ, ◌≡◌, List, map, slice_get, Some}
use Rattle.pict_syntax.specs.declared.span.Span.{Span}
use Rattle.pict_core.specs.Term.{Process}
use Rattle.pict_core.specs.Configuration.{Configuration}
use Rattle.pict_core.specs.Step.{Traps}
use Rattle.pict_core.specs.Places.{Place, IsPlace, outcome_at}
use Rattle.pict_reduction.specs.Reading.{reading}
use Rattle.pict_exploration.specs.Alone.{SettlesTo}
use Rattle.pict_exploration.specs.Explored.{Vertex, Has, IsReachedByChoices}
use Rattle.pict_orders.specs.Plain.{configuration_of, place_of}
use Rattle.pict_orders.specs.Settling.{IsSettled}
use Rattle.pict_orders.specs.declared.search.Found.{Found}
use Rattle.pict_orders.specs.declared.search.Trap.{Trap}

abbrev pub vertex_of : Found → Vertex
vertex_of f = record { choices = map place_of f.choices.items; bytes = f.bytes.items; configuration = configuration_of f.state }

-- the vertices that are found
abbrev pub vertices : List Found → List Vertex
vertices = map vertex_of

-- The trap is one: the vertex has this place, and its step there divides by zero, at this place of the text.
pub record IsTrap (found : List Vertex) (t : Trap) : Type 0 where
  pub vertex : Vertex
  pub is : slice_get found t.vertex ≡ Some vertex
  pub there : IsPlace vertex.configuration (place_of t.choice)
  pub traps : outcome_at vertex.configuration (place_of t.choice) ≡ Traps t.at

-- Each vertex is reached by its choices and has settled, and each trap is one.
pub record IsSearch (p : Process) (found : List Vertex) (traps : List Trap) : Type 0 where
  pub reached : (v : Vertex) → Has found v → IsReachedByChoices p v
  pub settled : (v : Vertex) → Has found v → IsSettled v.configuration
  pub trapped : (i : ℕ) (t : Trap) → slice_get traps i ≡ Some t → IsTrap found t

-- The first vertex, if there is one, is what C settles to, and has these bytes.
abbrev pub BeginsAt : List Vertex → List ℕ → Configuration → Type 0
BeginsAt found bytes C = (v : Vertex) → slice_get found 0 ≡ Some v → (v.bytes ≡ bytes) × SettlesTo 0 (reading C) (reading v.configuration)

-- a trap of this vertex with this choice, at this place of the text, is listed
pub record HasTrap (traps : List Trap) (number : ℕ) (there : Place) (at : Span) : Type 0 where
  pub index : ℕ
  pub trap : Trap
  pub listed : slice_get traps index ≡ Some trap
  pub vertex : trap.vertex ≡ number
  pub choice : place_of trap.choice ≡ there
  pub same : trap.at ≡ at

-- Wherever the step of a vertex at a place divides by zero, this trap of the vertex is listed, at the same place of the text.
abbrev pub ListsTraps : List Vertex → List Trap → Type 0
ListsTraps found traps =
    (number : ℕ) (v : Vertex) → slice_get found number ≡ Some v
    → (there : Place) (at : Span) → IsPlace v.configuration there → outcome_at v.configuration there ≡ Traps at → HasTrap traps number there at
