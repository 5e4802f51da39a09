-- A type exposes to its exposure.
use Rattle.std.proofs.Common.{◌≡◌, ℕ, zero, suc, List, [], ◌∷◌, refl, sym, ◌∙◌, ap, subst}
use Rattle.pict_types.specs.Types.{PlainType, Top, Int, Char, Str, Boolean, Var, Apply, Chan, Fields, Rec, PlainBound, Free, Below, Operator, TypeContext}
use Rattle.pict_syntax.specs.declared.type_tree.Mark.{Mark}
use Rattle.pict_types.specs.Renaming.{rename, rename_bound, moved, bound_of}
use Rattle.pict_types.proofs.Renamed.{moved_is_suc, bound_further, bound_before}
use Rattle.pict_sub.specs.Exposing.{HasNoBound, ExposesTo, stays, follows, exposure}

-- one more variable bounds none of the others
no_bound_further : (b : PlainBound) (c : TypeContext) (t : PlainType) → HasNoBound c t → HasNoBound (b ∷ c) (rename suc t)
no_bound_further b c (Var j) h i d e q =
    let k : suc j ≡ i = cc in
    let x = bound_before suc (bound_of c j) d (sym (bound_further b c j) ∙ subst (λ i. bound_of (b ∷ c) i ≡ Below d) (sym k) q) in
    h j x.0 refl x.1
no_bound_further b c Top h i d e q = cc
no_bound_further b c Int h i d e q = cc
no_bound_further b c Char h i d e q = cc
no_bound_further b c Str h i d e q = cc
no_bound_further b c Boolean h i d e q = cc
no_bound_further b c (Apply j ts) h i d e q = cc
no_bound_further b c (Chan m t) h i d e q = cc
no_bound_further b c (Fields bs ps ls) h i d e q = cc
no_bound_further b c (Rec t) h i d e q = cc

exposes_further : (b : PlainBound) {c : TypeContext} {t u : PlainType} → ExposesTo c t u → ExposesTo (b ∷ c) (rename suc t) (rename suc u)
exposes_further b {c = c} {t = t} (stays h) = stays (no_bound_further b c t h)
exposes_further b {c = c} (follows {i = i} e r) = follows (bound_further b c i ∙ ap (rename_bound suc) e) (exposes_further b r)

-- the bound of the innermost variable
innermost : (b : PlainBound) (c : TypeContext) (i : ℕ) (d : PlainType) → Var zero ≡ Var i → bound_of (b ∷ c) i ≡ Below d → rename_bound (moved 1 0) b ≡ Below d
innermost b c i d e q = let k : zero ≡ i = cc in subst (λ i. bound_of (b ∷ c) i ≡ Below d) (sym k) q

innermost_free : (c : TypeContext) → HasNoBound (Free ∷ c) (Var zero)
innermost_free c i d e q = let z : Free ≡ Below d = innermost Free c i d e q in cc

innermost_operator : (n : List Mark) (c : TypeContext) → HasNoBound (Operator n ∷ c) (Var zero)
innermost_operator n c i d e q = let z : Operator n ≡ Below d = innermost (Operator n) c i d e q in cc

pub exposes : (c : TypeContext) (t : PlainType) → ExposesTo c t (exposure c t)
exposes [] t = stays (λ i b e q. cc)
exposes (Free ∷ c) (Var zero) = stays (innermost_free c)
exposes (Operator n ∷ c) (Var zero) = stays (innermost_operator n c)
exposes (Below u ∷ c) (Var zero) =
    let moved_once : rename suc u ≡ rename (moved 1 0) u = ap (λ f. rename f u) (sym moved_is_suc) in
    follows refl (subst (λ x. ExposesTo (Below u ∷ c) x (rename suc (exposure c u))) moved_once (exposes_further (Below u) (exposes c u)))
exposes (b ∷ c) (Var (suc i)) = exposes_further b (exposes c (Var i))
exposes (b ∷ c) Top = stays (λ i b e q. cc)
exposes (b ∷ c) Int = stays (λ i b e q. cc)
exposes (b ∷ c) Char = stays (λ i b e q. cc)
exposes (b ∷ c) Str = stays (λ i b e q. cc)
exposes (b ∷ c) Boolean = stays (λ i b e q. cc)
exposes (b ∷ c) (Apply j ts) = stays (λ i b e q. cc)
exposes (b ∷ c) (Chan m t) = stays (λ i b e q. cc)
exposes (b ∷ c) (Fields bs ps ls) = stays (λ i b e q. cc)
exposes (b ∷ c) (Rec t) = stays (λ i b e q. cc)
