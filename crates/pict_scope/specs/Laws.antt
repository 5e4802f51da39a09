-- The laws of scopes.
use Rattle.std.specs.Prelude.{◌≡◌, ℕ, ◌<◌, List, [], ◌∷◌, ◌++◌, length, Some, None, IsSome, IsTrue, not}
use Rattle.pict_syntax.specs.declared.code.Code.{Code}
use Rattle.pict_syntax.specs.declared.span.Span.{Span}
use Rattle.pict_syntax.specs.declared.id.Id.{Id}
use Rattle.pict_syntax.specs.Trees.{Decs}
use Rattle.pict_binders.specs.Numbered.{nearest}
use Rattle.pict_scope.specs.declared.target.Target.{Target}
use Rattle.pict_scope.specs.declared.target.Target.TheVariants.{Prim, Binder}
use Rattle.pict_scope.specs.Around.{Around, meaning, is_among}
use Rattle.pict_scope.specs.Marks.{Mark, value_used, type_used, value_bound, stands_twice, first_stop, value_meanings, type_meanings, binders_read}
use Rattle.pict_scope.specs.Outlines.{Outline, ◌▸◌, value_use, type_use, opens, marks, once}
use Rattle.pict_scope.specs.Scopes.{program_marks, scope_stop, value_targets}
use Rattle.pict_scope.specs.DistinctLabels.{DecsHaveDistinctLabels}

-- a program has at most one scope stop
abbrev pub OneScopeStop : Type 0
OneScopeStop = (texts : List (List ℕ)) (p : Decs) (c d : Code) (s t : Span)
    → scope_stop texts p ≡ Some (c, s) → scope_stop texts p ≡ Some (d, t) → (c ≡ d) × (s ≡ t)

-- each use has a meaning, and no name stands twice
abbrev pub IsInOrder : Mark → Type 0
IsInOrder (value_used s meaning) = IsSome meaning
IsInOrder (type_used s meaning) = IsSome meaning
IsInOrder (value_bound n) = Unit {0}
IsInOrder (stands_twice c s) = ⊥

abbrev pub AreInOrder : List Mark → Type 0
AreInOrder [] = Unit {0}
AreInOrder (m ∷ ms) = IsInOrder m × AreInOrder ms

-- where nothing is refused, each use has its binder or is a primitive, and no name stands twice
abbrev pub UsesAreBound : Type 0
UsesAreBound = (texts : List (List ℕ)) (p : Decs) → scope_stop texts p ≡ None → AreInOrder (program_marks texts p)

-- a target that is no primitive is one of so many binders
abbrev pub IsAmongBinders : ℕ → Target → Type 0
IsAmongBinders count (Prim p) = Unit {0}
IsAmongBinders count (Binder place) = place < count

abbrev pub AreAmongBinders : ℕ → List Target → Type 0
AreAmongBinders count [] = Unit {0}
AreAmongBinders count (t ∷ ts) = IsAmongBinders count t × AreAmongBinders count ts

-- and so each target is a primitive or one of the program's binders of values
abbrev pub TargetsAreBinders : Type 0
TargetsAreBinders = (texts : List (List ℕ)) (p : Decs) → scope_stop texts p ≡ None
    → AreAmongBinders (length (binders_read (program_marks texts p))) (value_targets texts p)

-- where nothing is refused in one outline after another, nothing is refused in either
abbrev pub PartsAreScoped : Type 0
PartsAreScoped = (o p : Outline) (a : Around) → first_stop (marks (o ▸ p) a) ≡ None
    → (first_stop (marks o a) ≡ None) × (first_stop (marks p (opens o a)) ≡ None)

-- where a name that may stand once isn't refused, it is none of those before it in its group
abbrev pub StandsOnce : Type 0
StandsOnce = (c : Code) (x : Id) (a : Around) → first_stop (marks (once c x) a) ≡ None → IsTrue (not (is_among a.group x.name.0))

-- where nothing is refused, no label stands twice
abbrev pub NoLabelTwice : Type 0
NoLabelTwice = (texts : List (List ℕ)) (p : Decs) → scope_stop texts p ≡ None → DecsHaveDistinctLabels p

-- what a use of a value means is what look-up finds in what stands around it. It stands, in reading order, behind what the
-- uses before it mean, and before what those after it mean
abbrev pub ValuesByLookUp : Type 0
ValuesByLookUp = (o p : Outline) (a : Around) (s : Span) (n : ℕ) (t : Target) → meaning (opens o a) n ≡ Some t
    → value_meanings (marks (o ▸ value_use s n ▸ p) a) ≡ value_meanings (marks o a) ++ t ∷ value_meanings (marks p (opens o a))

-- and so is the binder of a use of a type
abbrev pub TypesByLookUp : Type 0
TypesByLookUp = (o p : Outline) (a : Around) (s : Span) (n k : ℕ) → nearest (opens o a).types_ n ≡ Some k
    → type_meanings (marks (o ▸ type_use s n ▸ p) a) ≡ type_meanings (marks o a) ++ k ∷ type_meanings (marks p (opens o a))
