-- A type that is well formed without variables mentions none: it stays as it is where they are replaced or renamed.
use Rattle.std.proofs.Common.{◌≡◌, ℕ, zero, suc, Bool, false, List, [], ◌∷◌, refl, subst, Some}
use Rattle.std.specs.Prelude.{slice_get}
use Rattle.pict_types.specs.Types.{PlainType, Top, Int, Char, Str, Boolean, Var, Apply, Chan, Fields, Rec, PlainTypes, no_type, types, PlainLabels, no_label, labels, PlainBound, Free, Below, Operator, PlainBounds, no_bound, bounds}
use Rattle.pict_types.specs.Renaming.{rename}
use Rattle.pict_types.specs.Replacing.{Replacement, replace}
use Rattle.pict_types.specs.Kinds.{Kind, proper, kind_by, kinds_under, kind_at, IsWellFormed, AreWellFormed, LabelsAreWellFormed, BoundIsWellFormed, BoundsAreWellFormed}
use Rattle.pict_types.specs.Mentions.{outside, outside_all, mentions, mentions_types, mentions_labels, mentions_bound, mentions_bounds, IsClosed}
use Rattle.pict_types.proofs.Mentioned as mentioned
use Rattle.pict_types.proofs.Replacements.{formed_normal}
use Rattle.pict_typing.specs.Worlds.{IsTypeIn}
use Rattle.pict_typing.specs.Processes.{AreClosedTypes}
use Rattle.pict_types.proofs.Mentioned.{neither}

-- no variable of these kinds is one of p
record Misses (p : ℕ → Bool) (ks : List Kind) : Type 0 where
  each : (i : ℕ) (k : Kind) → kind_at ks i ≡ Some k → p i ≡ false

misses_beyond : {p : ℕ → Bool} {ks : List Kind} (k : Kind) → Misses p ks → Misses (outside p) (k ∷ ks)
misses_beyond {p = p} {ks = ks} k x = record { each = go }
  where
    go : (i : ℕ) (j : Kind) → kind_at (k ∷ ks) i ≡ Some j → outside p i ≡ false
    go zero j q = refl
    go (suc i) j q = x.each i j q

misses_under : {p : ℕ → Bool} {ks : List Kind} (bs : PlainBounds) → Misses p ks → Misses (outside_all bs p) (kinds_under ks bs)
misses_under no_bound x = x
misses_under (bounds b bs) x = misses_under bs (misses_beyond (kind_by b) x)

module _ (names : List (List ℕ)) where
  mutual
    missed : {p : ℕ → Bool} {ks : List Kind} (t : PlainType) → Misses p ks → IsWellFormed names ks t → mentions p t ≡ false
    missed Top h w = refl
    missed Int h w = refl
    missed Char h w = refl
    missed Str h w = refl
    missed Boolean h w = refl
    missed (Var i) h w = h.each i proper w
    missed (Apply i ts) h w = neither (h.each i _ w.0) (types_missed ts h w.1)
    missed (Chan m t) h w = missed t h w
    missed (Fields bs ps ls) h w = neither (bounds_missed bs h w.0) (neither (types_missed ps (misses_under bs h) w.1.0) (labels_missed ls (misses_under bs h) w.1.1))
    missed (Rec t) h w = missed t (misses_beyond proper h) w

    types_missed : {p : ℕ → Bool} {ks : List Kind} (t : PlainTypes) → Misses p ks → AreWellFormed names ks t → mentions_types p t ≡ false
    types_missed no_type h w = refl
    types_missed (types t ts) h w = neither (missed t h w.0) (types_missed ts h w.1)

    labels_missed : {p : ℕ → Bool} {ks : List Kind} (t : PlainLabels) → Misses p ks → LabelsAreWellFormed names ks t → mentions_labels p t ≡ false
    labels_missed no_label h w = refl
    labels_missed (labels l t ts) h w = neither (missed t h w.1.0) (labels_missed ts h w.1.1)

    bounds_missed : {p : ℕ → Bool} {ks : List Kind} (t : PlainBounds) → Misses p ks → BoundsAreWellFormed names ks t → mentions_bounds p t ≡ false
    bounds_missed no_bound h w = refl
    bounds_missed (bounds b bs) h w = neither (bound_missed b h w.0) (bounds_missed bs (misses_beyond (kind_by b) h) w.1)

    bound_missed : {p : ℕ → Bool} {ks : List Kind} (t : PlainBound) → Misses p ks → BoundIsWellFormed names ks t → mentions_bound p t ≡ false
    bound_missed Free h w = refl
    bound_missed (Below t) h w = missed t h w.1
    bound_missed (Operator k) h w = refl

  is_closed : (t : PlainType) → IsTypeIn names [] t → IsClosed t
  is_closed t w = missed t (record { each = λ i k q. absurd (cc) }) w

  pub closed_replaced : (r : Replacement) (t : PlainType) → IsTypeIn names [] t → replace r t ≡ t
  closed_replaced r t w = mentioned.closed_replaced r t (is_closed t w) (formed_normal names [] t w)

  pub closed_renamed : (f : ℕ → ℕ) (t : PlainType) → IsTypeIn names [] t → rename f t ≡ t
  closed_renamed f t w = mentioned.closed_renamed f t (is_closed t w)

-- the type of a channel's messages is closed
pub closed_type : (names : List (List ℕ)) (ms : List PlainType) (c : ℕ) (t : PlainType) → AreClosedTypes names ms → slice_get ms c ≡ Some t → IsTypeIn names [] t
closed_type names [] c t x e = absurd (cc)
closed_type names (m ∷ ms) zero t x e = let q : m ≡ t = cc in subst (IsTypeIn names []) q x.0
closed_type names (m ∷ ms) (suc c) t x e = closed_type names ms c t x.1 e
