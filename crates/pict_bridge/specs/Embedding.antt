-- Contexts of erased types, and contexts and worlds that grow.
use Rattle.std.specs.Prelude.{◌≡◌, ℕ, List, [], ◌∷◌, ◌++◌, slice_get, Some}
use Rattle.pict_types.specs.Types.{PlainType, PlainBounds, no_bound, bounds, PlainArg, TypeContext}
use Rattle.pict_types.specs.Renaming.{rename}
use Rattle.pict_types.specs.Replacing.{replace_bound, arguments}
use Rattle.pict_types.specs.Kinds.{Kind, kinds, kind_at}
use Rattle.pict_sub.specs.Laws.{KeepsBounds}
use Rattle.pict_typing.specs.Erasing.{erased_bound}
use Rattle.pict_typing.specs.Worlds.{World, MayStandFor}

-- the context with each bound erased
abbrev pub erased_context : TypeContext → TypeContext
erased_context [] = []
erased_context (b ∷ c) = erased_bound b ∷ erased_context c

-- f takes the type variables of c to those of d, with their bounds and their kinds
pub record Embeds (f : ℕ → ℕ) (c d : TypeContext) : Type 0 where
  pub keeps : KeepsBounds f c d
  pub kept : (i : ℕ) (k : Kind) → kind_at (kinds c) i ≡ Some k → kind_at (kinds d) (f i) ≡ Some k

-- v has all that w has, its type variables renumbered by f
pub record WorldGrows (f : ℕ → ℕ) (w v : World) : Type 0 where
  pub names_ : v.names ≡ w.names
  pub messages_ : v.messages ≡ w.messages
  pub embeds : Embeds f w.type_variables v.type_variables
  pub variables_ : (level : ℕ) (t : PlainType) → slice_get w.variables level ≡ Some t → slice_get v.variables level ≡ Some (rename f t)

-- each argument may stand for its type field, once the earlier ones are put in
abbrev pub MayStandInOrder : World → List PlainArg → List PlainArg → PlainBounds → Type 0
MayStandInOrder w earlier [] no_bound = Unit {0}
MayStandInOrder w earlier [] (bounds b bs) = ⊥
MayStandInOrder w earlier (a ∷ args) no_bound = ⊥
MayStandInOrder w earlier (a ∷ args) (bounds b bs) =
    MayStandFor w (replace_bound (arguments earlier) b) a × MayStandInOrder w (earlier ++ a ∷ []) args bs
