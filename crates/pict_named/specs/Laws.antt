-- The laws of the targets of types and of values.
use Rattle.std.specs.Prelude.{◌≡◌, ℕ, List, [], ◌∷◌, Some, None, slice_get}
use Rattle.pict_syntax.specs.declared.id.Id.{Id}
use Rattle.pict_syntax.specs.Names.{text_of}
use Rattle.pict_syntax.specs.Trees.{Decs}
use Rattle.pict_scope.specs.declared.target.Target.{Target}
use Rattle.pict_scope.specs.declared.target.Target.TheVariants.{Prim, Binder}
use Rattle.pict_scope.specs.PrimitiveNames.{primitive_named}
use Rattle.pict_scope.specs.Forms.{in_decs}
use Rattle.pict_scope.specs.Scopes.{scope_stop, type_targets, value_targets}
use Rattle.pict_named.specs.Phrases.{Use, value_uses, type_uses, AreOthers, IsNearest}
use Rattle.pict_named.specs.Binders.{types_bound, values_bound}
use Rattle.pict_named.specs.Extents.{program_phrase}

-- what stands at this place among these binders is the binder of the use: its scope holds the use, and that of no nearer binder of the
-- name does. An identifier has its place in the text, so no two binders are one
pub record HasBinder (bound : List Id) (u : Use) (place : ℕ) : Type 0 where
  pub binder : Id
  pub stands : slice_get bound place ≡ Some binder
  pub is_nearest : IsNearest u.name u.around binder

-- each use has its binder, in order
abbrev pub HaveBinders : List Id → List Use → List ℕ → Type 0
HaveBinders bound [] [] = Unit {0}
HaveBinders bound [] (k ∷ ks) = ⊥
HaveBinders bound (u ∷ us) [] = ⊥
HaveBinders bound (u ∷ us) (k ∷ ks) = HasBinder bound u k × HaveBinders bound us ks

-- Where no rule of scopes fails, the target of each use of a type, in reading order, is the place of its binder among the program's
-- binders of types in reading order, from 0.
abbrev pub TypeTargetsAreNearest : Type 0
TypeTargetsAreNearest =
    (texts : List (List ℕ)) (p : Decs) → scope_stop texts p ≡ None
    → HaveBinders (types_bound (in_decs p)) (type_uses [] (program_phrase p)) (type_targets texts p)

-- the primitive of the name's text, where no scope of a binder of the name holds the use; or the place of its binder among these
abbrev pub IsTargetOf : List (List ℕ) → List Id → Use → Target → Type 0
IsTargetOf texts bound u (Prim q) = (primitive_named (text_of texts u.name) ≡ Some q) × AreOthers u.name u.around
IsTargetOf texts bound u (Binder place) = HasBinder bound u place

-- each use has its target, in order
abbrev pub AreTargetsOf : List (List ℕ) → List Id → List Use → List Target → Type 0
AreTargetsOf texts bound [] [] = Unit {0}
AreTargetsOf texts bound [] (t ∷ ts) = ⊥
AreTargetsOf texts bound (u ∷ us) [] = ⊥
AreTargetsOf texts bound (u ∷ us) (t ∷ ts) = IsTargetOf texts bound u t × AreTargetsOf texts bound us ts

-- the same of values, whose target is a primitive where the scope of no binder of the name holds the use
abbrev pub ValueTargetsAreNearest : Type 0
ValueTargetsAreNearest =
    (texts : List (List ℕ)) (p : Decs) → scope_stop texts p ≡ None
    → AreTargetsOf texts (values_bound (in_decs p)) (value_uses [] (program_phrase p)) (value_targets texts p)
