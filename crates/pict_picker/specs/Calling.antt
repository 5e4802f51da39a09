-- What a primitive does, as a deed.
use Rattle.std.specs.Prelude.{◌≡◌, ℕ, List}
use Rattle.pict_syntax.specs.declared.span.Span.{Span}
use Rattle.pict_core.specs.Term.{Process}
use Rattle.pict_core.specs.Deed.{leaves}
use Rattle.pict_core.specs.Primitives.{Effect}
use Rattle.pict_core.specs.Step.{printing}
use Rattle.pict_heap.specs.HeapState.{HeapState}
use Rattle.pict_picker.specs.Deeds.{deed_of, FitsDeed}
use Rattle.pict_picker.specs.declared.deed.Deed.{Deed}

-- The words say what an output to a primitive does that has this effect, at this place in the text, wherever it stands.
pub record HasEffect (h : HeapState) (e : Effect) (at : Span) (d : Deed) : Type 0 where
  pub is : (core : Process) (lists : List (List Process)) (j : ℕ) (own : Process) → deed_of core h lists j own d ≡ leaves at (printing e.printed) e.leaves
  pub fits : (core : Process) (lists : List (List Process)) (j : ℕ) (own : Process) → FitsDeed core h lists j own d
