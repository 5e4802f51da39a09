-- Bounds followed with the code's sums; exposing gives one type, above the given one, and loses no subtyping.
use Rattle.std.proofs.Common.{◌≡◌, ◌≢◌, ℕ, suc, ◌+◌, ◌≤◌, List, refl, sym, ◌∙◌, ap, subst, arith, add-one}
use Rattle.pict_types.specs.Types.{PlainType, Var, Below, TypeContext}
use Rattle.pict_types.specs.Renaming.{rename, rename_bound, moved, bound_at, bound_of}
use Rattle.pict_types.specs.Kinds.{IsWellFormed, ContextIsWellFormed, kinds}
use Rattle.pict_types.specs.Measures.{weight_of}
use Rattle.pict_types.proofs.Renamed.{bound_before}
use Rattle.pict_sub.specs.Shapes.{shape_of, variable}
use Rattle.pict_sub.specs.Exposing.{HasNoBound, ExposesTo, stays, follows, exposure}
use Rattle.pict_sub.specs.Subtyping.{IsSubtype, same, through, below_bound}
use Rattle.pict_sub.proofs.Exposed.{exposes}
use Rattle.pict_sub.proofs.Deciding.{Decides, d_same, d_top, d_bound, to_decided, of_decided}
use Rattle.pict_types.proofs.Contexts.{weigh_bound, bound_is_formed}

unbounded : (c : TypeContext) (i : ℕ) → ((b : PlainType) → bound_at c i ≢ Below b) → HasNoBound c (Var i)
unbounded c i h j b e q =
    let same_variable : j ≡ i = cc in
    let z = bound_before (moved (suc i) 0) (bound_at c i) b (subst (λ x. bound_of c x ≡ Below b) same_variable q) in
    h z.0 z.1

-- a type is below what it exposes to
pub below_exposed : {c : TypeContext} {t u : PlainType} → ExposesTo c t u → IsSubtype c t u
below_exposed (stays h) = same
below_exposed (follows {b = b} h d) = through b (below_bound h) (below_exposed d)

-- what a type exposes to is below every type above it, but for variables
decided_exposed : {c : TypeContext} {s u t : PlainType} → ExposesTo c s u → Decides c s t → shape_of t ≢ variable → Decides c u t
decided_exposed (stays h) d n = d
decided_exposed (follows h e) d_same n = absurd (n refl)
decided_exposed (follows h e) d_top n = d_top
decided_exposed {t = t} (follows {c = c} {i = i} {b = b} h e) (d_bound {b = b2} k d) n =
    let q : Below b2 ≡ Below b = sym k ∙ h in
    let z : b2 ≡ b = cc in
    decided_exposed e (subst (λ x. Decides c x t) z d) n

pub exposed_below : (c : TypeContext) (s u t : PlainType) → ExposesTo c s u → ((i : ℕ) → t ≢ Var i) → IsSubtype c s t → IsSubtype c u t
exposed_below c s u t e n d = of_decided (decided_exposed e (to_decided d) (by_shape t n))
  where
    by_shape : (t : PlainType) → ((i : ℕ) → t ≢ Var i) → shape_of t ≢ variable
    by_shape (Var i) n e = n i refl
    by_shape _ n e = cc

-- and there is one such type
pub one_exposed : {c : TypeContext} {s t u : PlainType} → ExposesTo c s t → ExposesTo c s u → t ≡ u
one_exposed (stays h) (stays k) = refl
one_exposed (stays h) (follows k e) = absurd (h _ _ refl k)
one_exposed (follows h d) (stays k) = absurd (k _ _ refl h)
one_exposed {u = u} (follows {c = c} {b = b} h d) (follows {b = b2} k e) =
    let q : Below b2 ≡ Below b = sym k ∙ h in
    let z : b2 ≡ b = cc in
    one_exposed d (subst (λ x. ExposesTo c x u) z e)

pub exactly_one_exposed : (c : TypeContext) (t : PlainType) → ExposesTo c t (exposure c t) × ((u : PlainType) → ExposesTo c t u → u ≡ exposure c t)
exactly_one_exposed c t = (exposes c t, λ u d. one_exposed d (exposes c t))

-- the ways in which the code ends
pub not_variable : (c : TypeContext) (t : PlainType) → shape_of t ≢ variable → exposure c t ≡ t
not_variable c t h = one_exposed (exposes c t) (stays (λ i b e. absurd (h (ap shape_of e))))

pub no_bound : (c : TypeContext) (i : ℕ) → ((b : PlainType) → bound_at c i ≢ Below b) → exposure c (Var i) ≡ Var i
no_bound c i h = one_exposed (exposes c (Var i)) (stays (unbounded c i h))

pub bound_followed : (c : TypeContext) (i : ℕ) (b : PlainType) → bound_at c i ≡ Below b → exposure c (Var i) ≡ exposure c (rename (moved (i + 1) 0) b)
bound_followed c i b h =
    let u = exposure c (rename (moved (i + 1) 0) b) in
    let moved_past = subst (λ n. ExposesTo c (rename (moved n 0) b) u) (add-one i) (exposes c (rename (moved (i + 1) 0) b)) in
    one_exposed (exposes c (Var i)) (follows (ap (rename_bound (moved (suc i) 0)) h) moved_past)

-- what a type exposes to weighs no more, and is well formed where the type is
exposed_lighter : {c : TypeContext} {t u : PlainType} → ExposesTo c t u → weight_of c u ≤ weight_of c t
exposed_lighter (stays h) = omega arith
exposed_lighter {c = c} (follows {i = i} {b = b} e d) = omega (arith, weigh_bound c i b e, exposed_lighter d)

pub exposure_lighter : (c : TypeContext) (t : PlainType) → weight_of c (exposure c t) ≤ weight_of c t
exposure_lighter c t = exposed_lighter (exposes c t)

exposed_formed : (ns : List (List ℕ)) {c : TypeContext} {t u : PlainType} → ContextIsWellFormed ns c → ExposesTo c t u → IsWellFormed ns (kinds c) t → IsWellFormed ns (kinds c) u
exposed_formed ns w (stays h) f = f
exposed_formed ns {c = c} w (follows {i = i} {b = b} e d) f =
    let x = bound_before (moved (suc i) 0) (bound_at c i) b e in
    let g : IsWellFormed ns (kinds c) (rename (moved (i + 1) 0) x.0) = bound_is_formed ns c i x.0 w x.1 in
    exposed_formed ns w d (subst (IsWellFormed ns (kinds c)) (ap (λ n. rename (moved n 0) x.0) (add-one i) ∙ x.2) g)

pub exposure_formed : (ns : List (List ℕ)) (c : TypeContext) (t : PlainType) → ContextIsWellFormed ns c → IsWellFormed ns (kinds c) t → IsWellFormed ns (kinds c) (exposure c t)
exposure_formed ns c t w f = exposed_formed ns w (exposes c t) f

pub ruleset exposing_rules = (no_bound, bound_followed)
