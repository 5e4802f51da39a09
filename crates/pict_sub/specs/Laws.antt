-- The laws of subtyping.
use Rattle.std.specs.Prelude.{◌≡◌, ◌≢◌, ℕ, true, List, length, ◌⊎◌, ◌↔◌}
use Rattle.pict_types.specs.Types.{Capability, PlainType, Top, Var, Apply, Chan, Fields, Rec, PlainTypes, PlainLabels, PlainBounds, Below, Operator, Op, TypeContext, count_types}
use Rattle.pict_syntax.specs.declared.type_tree.Mark.{Mark}
use Rattle.pict_types.specs.Renaming.{bound_of, rename}
use Rattle.pict_types.specs.Replacing.{Head, variable, operator, nothing, Replacement, replace}
use Rattle.pict_types.specs.Variance.{varies}
use Rattle.pict_types.specs.Kinds.{Kind, LabelsAreWellFormed, kinds, with_parameters, IsWellFormed}
use Rattle.pict_sub.specs.Subtyping.{IsSubtype, AreByMarks, AreRecordsBelow, AreChannelsBelow, HasBoundBelow}
use Rattle.pict_sub.specs.Exposing.{ExposesTo, exposure}

-- a fact holds or doesn't
abbrev pub IsDecided : Type 0 → Type 0
IsDecided A = A ⊎ (A → ⊥)

-- of any two types it is decided whether one is a subtype of the other
abbrev pub SubtypingIsDecided : Type 0
SubtypingIsDecided = (c : TypeContext) (s t : PlainType) → IsDecided (IsSubtype c s t)

-- f takes the variables of c to variables of d with the same bounds
pub record KeepsBounds (f : ℕ → ℕ) (c d : TypeContext) : Type 0 where
  pub each : (i : ℕ) (b : PlainType) → bound_of c i ≡ Below b → bound_of d (f i) ≡ Below (rename f b)
  pub marks : (i : ℕ) (ms : List Mark) → bound_of c i ≡ Operator ms → bound_of d (f i) ≡ Operator ms

-- weakening: more variables in the context change nothing
abbrev pub Weakening : Type 0
Weakening = (f : ℕ → ℕ) (c d : TypeContext) (s t : PlainType) → KeepsBounds f c d → IsSubtype c s t → IsSubtype d (rename f s) (rename f t)

-- what stands for an operator variable with these marks: a variable with the same marks, or a well formed operator that
-- varies as they say
abbrev pub StandsAsMarked : List (List ℕ) → TypeContext → List Mark → Head → Type 0
StandsAsMarked names d ms (variable j) = bound_of d j ≡ Operator ms
StandsAsMarked names d ms (operator n t) =
    (n ≡ length ms) × (IsWellFormed names (with_parameters n (kinds d)) t × (varies d (Op n t) ms ≡ true))
StandsAsMarked names d ms nothing = ⊥

-- in d each variable's replacement is below the variable's bound, replaced, and each operator variable's varies as its
-- marks say
pub record IsWithinBounds (names : List (List ℕ)) (r : Replacement) (c d : TypeContext) : Type 0 where
  pub each : (i : ℕ) (b : PlainType) → bound_of c i ≡ Below b → IsSubtype d (r.type_of i) (replace r b)
  pub heads : (i : ℕ) (ms : List Mark) → bound_of c i ≡ Operator ms → StandsAsMarked names d ms (r.head_of i)

-- substitution: types within their bounds, and operators that vary as the marks say, may be put for variables; a bound may
-- become Top
abbrev pub Substitution : Type 0
Substitution =
    (names : List (List ℕ)) (r : Replacement) (c d : TypeContext) (s t : PlainType)
    → IsWithinBounds names r c d → IsSubtype c s t → IsSubtype d (replace r s) (replace r t)

-- inversion: channel types compare by their capabilities and their messages
abbrev pub ChannelsByMessages : Type 0
ChannelsByMessages = (c : TypeContext) (m n : Capability) (s t : PlainType) → IsSubtype c (Chan m s) (Chan n t) ↔ AreChannelsBelow c m n s t

abbrev pub IsChannel : PlainType → Type 0
IsChannel t = (m : Capability) × (u : PlainType) × (t ≡ Chan m u)

-- above a channel type are only Top and channel types
abbrev pub AboveChannels : Type 0
AboveChannels = (c : TypeContext) (m : Capability) (s t : PlainType) → IsSubtype c (Chan m s) t → (t ≡ Top) ⊎ IsChannel t

-- below a channel type are only channel types, and variables whose bound is below it
abbrev pub BelowChannels : Type 0
BelowChannels = (c : TypeContext) (n : Capability) (s t : PlainType) → IsSubtype c s (Chan n t) → IsChannel s ⊎ HasBoundBelow c s (Chan n t)

-- inversion: records compare part by part, where the labelled fields of the first are well formed
abbrev pub RecordsByParts : Type 0
RecordsByParts =
    (names : List (List ℕ)) (ks : List Kind) (c : TypeContext) (bs cs : PlainBounds) (ps qs : PlainTypes) (ls ms : PlainLabels)
    → LabelsAreWellFormed names ks ls → IsSubtype c (Fields bs ps ls) (Fields cs qs ms) ↔ AreRecordsBelow c bs cs ps qs ls ms

-- inversion: an operator variable applied twice compares argument by argument, as its marks say, where there are as many
-- arguments as marks
abbrev pub AppliedByArguments : Type 0
AppliedByArguments =
    (c : TypeContext) (i j : ℕ) (ms : List Mark) (ss ts : PlainTypes)
    → bound_of c i ≡ Operator ms → length ms ≡ count_types ss → IsSubtype c (Apply i ss) (Apply j ts) ↔ ((i ≡ j) × AreByMarks c ms ss ts)

-- an application of this operator variable
abbrev pub IsAppliedTo : ℕ → PlainType → Type 0
IsAppliedTo i t = (us : PlainTypes) × (t ≡ Apply i us)

-- above an applied operator variable are only Top and applications of the same variable
abbrev pub AboveApplied : Type 0
AboveApplied = (c : TypeContext) (i : ℕ) (ss : PlainTypes) (t : PlainType) → IsSubtype c (Apply i ss) t → (t ≡ Top) ⊎ IsAppliedTo i t

-- below one are only applications of the same variable, and variables whose bound is below it
abbrev pub BelowApplied : Type 0
BelowApplied = (c : TypeContext) (i : ℕ) (s : PlainType) (ts : PlainTypes) → IsSubtype c s (Apply i ts) → IsAppliedTo i s ⊎ HasBoundBelow c s (Apply i ts)

-- above a recursive type are exactly Top and itself
abbrev pub AboveRecursive : Type 0
AboveRecursive = (c : TypeContext) (s t : PlainType) → IsSubtype c (Rec s) t ↔ ((t ≡ Top) ⊎ (t ≡ Rec s))

-- below a recursive type are exactly itself, and variables whose bound is below it
abbrev pub BelowRecursive : Type 0
BelowRecursive = (c : TypeContext) (s t : PlainType) → IsSubtype c s (Rec t) ↔ ((s ≡ Rec t) ⊎ HasBoundBelow c s (Rec t))

-- a type is below what it exposes to
abbrev pub ExposesAbove : Type 0
ExposesAbove = (c : TypeContext) (t u : PlainType) → ExposesTo c t u → IsSubtype c t u

-- and what it exposes to is below each type above it that is no variable
abbrev pub ExposesBelow : Type 0
ExposesBelow = (c : TypeContext) (s u t : PlainType) → ExposesTo c s u → ((i : ℕ) → t ≢ Var i) → IsSubtype c s t → IsSubtype c u t

-- each type exposes to exactly one type, its exposure
abbrev pub ExposesToOne : Type 0
ExposesToOne = (c : TypeContext) (t : PlainType) → ExposesTo c t (exposure c t) × ((u : PlainType) → ExposesTo c t u → u ≡ exposure c t)
