-- Normal forms of written types: they are well formed, and within the limits or refused.
use Rattle.pict_syntax.specs.declared.limits.TheConstants.{HEIGHT_LIMIT, WEIGHT_LIMIT}
use Rattle.std.proofs.Common.{◌≡◌, ℕ, zero, suc, ◌≤◌, Bool, true, false, nat_lt, List, [], ◌∷◌, length, Option, Some, None, refl, sym, ◌∙◌, ap, subst, arith}
use Rattle.std.specs.Prelude.{if◌then◌else◌, ◌||◌}
use borrow.Author.Tests.{ltb-true}
use Rattle.std.proofs.lemmas.Bool.{ltb-false}
use Rattle.pict_syntax.specs.declared.span.Span.{Span}
use Rattle.pict_syntax.specs.declared.code.Code.TheVariants.{K4}
use Rattle.pict_syntax.specs.Trees.{TypeTree}
use Rattle.pict_normal.specs.declared.stops.KindError.{KindError}
use Rattle.pict_normal.specs.declared.stops.KindError.TheVariants.{Named, Memory}
use Rattle.pict_types.specs.Types.{TypeContext, PlainType, PlainArg, Plain, Op}
use Rattle.pict_types.specs.Kinds.{Kind, proper, operator_of, kind_at, kind_by, kinds, IsWellFormed, ArgIsWellFormed}
use Rattle.pict_types.specs.Replacing.{Replacement, with_arg}
use Rattle.pict_types.specs.Entries.{PlainWhat, Variable, Definition, PlainContext, variables, with_variable, EntryIsWellFormed, EntriesAreWellFormed}
use Rattle.pict_normal.specs.Meanings.{meanings, with_what, kind_of_what, entry_kinds}
use Rattle.pict_types.specs.Measures.{weight_of, height_of}
use Rattle.pict_normal.specs.Normal.{normal, kind_stops, size_stop, first_or, kind_stop}
use Rattle.pict_normal.specs.Raw.{raw}
use Rattle.pict_types.specs.Places.{entry_names}
use Rattle.pict_normal.specs.Refusals.{IsFirst, IsRefusal}
use Rattle.pict_scope.specs.DistinctLabels.{HasDistinctLabels}
use Rattle.pict_types.specs.Fitting.{ReplacesKinds, StandsForOperator}
use Rattle.pict_types.proofs.Formed.{replaces_beyond, replace_formed}
use Rattle.pict_normal.proofs.RawFormed.{raw_formed}
use Rattle.pict_normal.proofs.RawNormal.{raw_normal}
use Rattle.pict_syntax.specs.Grammar.{type_span}
use Rattle.pict_syntax.specs.Stops.{Stop}

-- what the entries mean is well formed
replaces_definition : {ns : List (List ℕ)} {s : Replacement} {ks js : List Kind} (a : PlainArg) → ArgIsWellFormed ns js a → ReplacesKinds ns s ks js → ReplacesKinds ns (with_arg a s) (kind_of_what (Definition a) ∷ ks) js
replaces_definition {ns = ns} {s = s} {ks = ks} {js = js} (Plain t) w h = record { types_ = go; heads_ = go2 }
  where
    go : (i : ℕ) → kind_at (proper ∷ ks) i ≡ Some proper → IsWellFormed ns js ((with_arg (Plain t) s).type_of i)
    go zero q = w
    go (suc i) q = h.types_ i q

    go2 : (i n : ℕ) → kind_at (proper ∷ ks) i ≡ Some (operator_of n) → StandsForOperator ns js n ((with_arg (Plain t) s).head_of i)
    go2 zero n q = absurd (cc)
    go2 (suc i) n q = h.heads_ i n q
replaces_definition {ns = ns} {s = s} {ks = ks} {js = js} (Op m t) w h = record { types_ = go; heads_ = go2 }
  where
    go : (i : ℕ) → kind_at (operator_of m ∷ ks) i ≡ Some proper → IsWellFormed ns js ((with_arg (Op m t) s).type_of i)
    go zero q = absurd (cc)
    go (suc i) q = h.types_ i q

    go2 : (i n : ℕ) → kind_at (operator_of m ∷ ks) i ≡ Some (operator_of n) → StandsForOperator ns js n ((with_arg (Op m t) s).head_of i)
    go2 zero n q = (cc, w)
    go2 (suc i) n q = h.heads_ i n q

meanings_further : (ns : List (List ℕ)) (c : PlainContext) (w : PlainWhat) → EntryIsWellFormed ns (variables c) w → ReplacesKinds ns (meanings c) (entry_kinds c) (kinds (variables c)) → ReplacesKinds ns (with_what w (meanings c)) (kind_of_what w ∷ entry_kinds c) (kinds (variables (record { name = 0; what = w } ∷ c)))
meanings_further ns c (Variable b) f h = replaces_beyond (kind_by b) (kind_by b) refl h
meanings_further ns c (Definition a) f h = replaces_definition a f h

pub meanings_keep : (ns : List (List ℕ)) (c : PlainContext) → EntriesAreWellFormed ns c → ReplacesKinds ns (meanings c) (entry_kinds c) (kinds (variables c))
meanings_keep ns [] f = record { types_ = λ i q. absurd (cc); heads_ = λ i n q. absurd (cc) }
meanings_keep ns (e ∷ c) f = meanings_further ns c e.what f.0 (meanings_keep ns c f.1)

pub normal_formed : (ns : List (List ℕ)) (c : PlainContext) (t : TypeTree) → EntriesAreWellFormed ns c → HasDistinctLabels t → kind_stops ns c t ≡ [] → IsWellFormed ns (kinds (variables c)) (normal ns c t)
normal_formed ns c t f d k =
    subst (IsWellFormed ns (kinds (variables c))) (sym (raw_normal ns c t k)) (replace_formed ns (raw ns (entry_names c) t) (meanings_keep ns c f) (raw_formed ns c t d k))

-- the limits
abbrev whole : Bool → Bool → Span → Option Stop
whole a b s = if a || b then Some (K4, s) else None

not_past : (m n : ℕ) → n ≤ m → nat_lt m n ≡ false
not_past m n h = go (nat_lt m n) refl
  where
    go : (b : Bool) → nat_lt m n ≡ b → b ≡ false
    go false e = refl
    go true e = absurd (omega (arith, ltb-true m n e))

pub size_clear : (c : PlainContext) (t : PlainType) (s : Span) → weight_of (variables c) t ≤ WEIGHT_LIMIT → height_of (variables c) t ≤ HEIGHT_LIMIT → size_stop c t s ≡ None
size_clear c t s w h = go (nat_lt WEIGHT_LIMIT (weight_of (variables c) t)) (nat_lt HEIGHT_LIMIT (height_of (variables c) t)) (not_past WEIGHT_LIMIT (weight_of (variables c) t) w) (not_past HEIGHT_LIMIT (height_of (variables c) t) h)
  where
    go : (a b : Bool) → a ≡ false → b ≡ false → whole a b s ≡ None
    go true b q r = absurd (cc)
    go false true q r = absurd (cc)
    go false false q r = refl

pub allowed : (ns : List (List ℕ)) (c : PlainContext) (t : TypeTree) → kind_stops ns c t ≡ [] → weight_of (variables c) (normal ns c t) ≤ WEIGHT_LIMIT → height_of (variables c) (normal ns c t) ≤ HEIGHT_LIMIT → kind_stop ns c t ≡ None
allowed ns c t k w h =
    ap (λ x. first_or x (size_stop c (normal ns c t) (type_span t))) k ∙ size_clear c (normal ns c t) (type_span t) w h

-- a measure past its limit
pub too_big : (c : PlainContext) (t : PlainType) (s : Span) → (weight_of (variables c) t ≤ WEIGHT_LIMIT → height_of (variables c) t ≤ HEIGHT_LIMIT → ⊥) → size_stop c t s ≡ Some (K4, s)
too_big c t s past = go (nat_lt WEIGHT_LIMIT (weight_of (variables c) t)) (nat_lt HEIGHT_LIMIT (height_of (variables c) t)) refl refl
  where
    go : (a b : Bool) → nat_lt WEIGHT_LIMIT (weight_of (variables c) t) ≡ a → nat_lt HEIGHT_LIMIT (height_of (variables c) t) ≡ b → whole a b s ≡ Some (K4, s)
    go true b q r = refl
    go false true q r = refl
    go false false q r = absurd (past (ltb-false WEIGHT_LIMIT (weight_of (variables c) t) q) (ltb-false HEIGHT_LIMIT (height_of (variables c) t) r))

pub refused_whole : (ns : List (List ℕ)) (c : PlainContext) (t : TypeTree) → kind_stops ns c t ≡ [] → (weight_of (variables c) (normal ns c t) ≤ WEIGHT_LIMIT → height_of (variables c) (normal ns c t) ≤ HEIGHT_LIMIT → ⊥) → kind_stop ns c t ≡ Some (K4, type_span t)
refused_whole ns c t k past =
    ap (λ x. first_or x (size_stop c (normal ns c t) (type_span t))) k ∙ too_big c (normal ns c t) (type_span t) past

pub first_refusal : (stops : List Stop) (o : Option Stop) (e : KindError) → IsFirst stops e → IsRefusal (first_or stops o) e
first_refusal [] o (Named code span) h = absurd h
first_refusal (x ∷ stops) o (Named code span) h = ap Some h
first_refusal stops o Memory h = tt

variables_more : (w : PlainWhat) (c : TypeContext) → length (with_variable w c) ≤ suc (length c)
variables_more (Variable b) c = omega arith
variables_more (Definition a) c = omega arith

-- no more variables than entries
pub variables_length : (c : PlainContext) → length (variables c) ≤ length c
variables_length [] = omega arith
variables_length (e ∷ c) = omega (arith, variables_more e.what (variables c), variables_length c)
