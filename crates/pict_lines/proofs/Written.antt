-- Fields with type arguments put in: they are fit as the record's own fields are with the arguments found.
use Rattle.std.proofs.Common.{◌≡◌, ℕ, zero, suc, ◌-◌, List, [], ◌∷◌, refl, ◌∙◌, ap, Bool, true, false, ◌&&◌, map, length}
use Rattle.std.specs.Prelude.{nat_lt}
use Rattle.pict_types.specs.Types.{PlainType, Top, Int, Char, Str, Boolean, Var, Apply, Chan, Fields, Rec, PlainTypes, no_type, types, PlainLabels, no_label, labels, PlainBound, Free, Below, Operator, PlainBounds, no_bound, bounds, PlainArg}
use Rattle.pict_types.specs.Kinds.{Kind, IsWellFormed}
use Rattle.pict_types.proofs.Replacements.{formed_normal, nothing_changed, replace_same}
use Rattle.pict_types.specs.Replacing.{arguments, replace}
use Rattle.pict_types.specs.Mentions.{mentions, mentions_bound, mentions_bounds, mentions_labels, mentions_types, outside, outside_all}
use Rattle.pict_rules.specs.Found.{filled, argument_in, is_missing, mentions_missing, with_found}
use Rattle.pict_types.proofs.Mentioned.{neither}

-- what stands for type fields that are all found
pub all_arguments : (args : List PlainArg) → map argument_in (map filled args) ≡ args
all_arguments [] = refl
all_arguments (a ∷ args) = ap (λ z. a ∷ z) (all_arguments args)

pub filled_put : (args : List PlainArg) (t : PlainType) → with_found (map filled args) t ≡ replace (arguments args) t
filled_put args t = ap (λ z. replace (arguments z) t) (all_arguments args)

-- none of them is missing
pub none_missing : (args : List PlainArg) (i : ℕ) → is_missing (map filled args) i ≡ false
none_missing [] i = refl
none_missing (a ∷ args) zero = refl
none_missing (a ∷ args) (suc i) = none_missing args i

-- no variable is one of none
record AreNone (p : ℕ → Bool) : Type 0 where
  each : (i : ℕ) → p i ≡ false

none_outside : {p : ℕ → Bool} → AreNone p → AreNone (outside p)
none_outside {p = p} h = record { each = go }
  where
    go : (i : ℕ) → outside p i ≡ false
    go zero = refl
    go (suc i) = h.each i

none_under : {p : ℕ → Bool} (bs : PlainBounds) → AreNone p → AreNone (outside_all bs p)
none_under no_bound h = h
none_under (bounds b bs) h = none_under bs (none_outside h)

mutual
  mentions_none : {p : ℕ → Bool} (t : PlainType) → AreNone p → mentions p t ≡ false
  mentions_none Top h = refl
  mentions_none Int h = refl
  mentions_none Char h = refl
  mentions_none Str h = refl
  mentions_none Boolean h = refl
  mentions_none (Var i) h = h.each i
  mentions_none (Apply i ts) h = neither (h.each i) (types_none ts h)
  mentions_none (Chan m t) h = mentions_none t h
  mentions_none (Fields bs ps ls) h = neither (bounds_none bs h) (neither (types_none ps (none_under bs h)) (labels_none ls (none_under bs h)))
  mentions_none (Rec t) h = mentions_none t (none_outside h)

  types_none : {p : ℕ → Bool} (ts : PlainTypes) → AreNone p → mentions_types p ts ≡ false
  types_none no_type h = refl
  types_none (types t ts) h = neither (mentions_none t h) (types_none ts h)

  labels_none : {p : ℕ → Bool} (ls : PlainLabels) → AreNone p → mentions_labels p ls ≡ false
  labels_none no_label h = refl
  labels_none (labels l t ls) h = neither (mentions_none t h) (labels_none ls h)

  bounds_none : {p : ℕ → Bool} (bs : PlainBounds) → AreNone p → mentions_bounds p bs ≡ false
  bounds_none no_bound h = refl
  bounds_none (bounds b bs) h = neither (bound_none b h) (bounds_none bs (none_outside h))

  bound_none : {p : ℕ → Bool} (b : PlainBound) → AreNone p → mentions_bound p b ≡ false
  bound_none Free h = refl
  bound_none (Below t) h = mentions_none t h
  bound_none (Operator ms) h = refl

and_false : (a : Bool) → (a && false) ≡ false
and_false true = refl
and_false false = refl

-- so a type mentions no type field that is missing, where all are found, or there are none
pub filled_mentions : (args : List PlainArg) (t : PlainType) → mentions_missing (map filled args) t ≡ false
filled_mentions args t =
    mentions_none t (record { each = λ i. ap (λ z. nat_lt i (length (map filled args)) && z) (none_missing args (length (map filled args) - 1 - i)) ∙ and_false (nat_lt i (length (map filled args))) })

pub nothing_mentions : (t : PlainType) → mentions_missing [] t ≡ false
nothing_mentions t = filled_mentions [] t

-- and a well formed type with nothing put in is itself
pub nothing_put : (ns : List (List ℕ)) (ks : List Kind) (t : PlainType) → IsWellFormed ns ks t → with_found [] t ≡ t
nothing_put ns ks t w = replace_same t nothing_changed (formed_normal ns ks t w)
