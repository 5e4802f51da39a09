-- What the variables of a type become where types are put for the innermost ones.
use Rattle.std.proofs.Common.{◌≡◌, ℕ, zero, suc, ◌+◌, ◌-◌, ◌≤◌, ◌<◌, List, [], ◌∷◌, length, get_or, Some, None, refl, sym, ◌∙◌, ap, arith}
use Rattle.pict_types.specs.declared.types.Ty.{Ty}
use Rattle.pict_types.specs.declared.types.Ty.TheVariants.{Top as Top_, Int as Int_, Char as Char_, Str as Str_, Bool as Bool_, Var as Var_, Apply' as Apply_, Chan' as Chan_, Fields' as Fields_, Rec' as Rec_}
use Rattle.pict_types.specs.Types.{Var, Below, PlainBounds, no_bound, bounds, count_types, count_bounds}
use Rattle.pict_types.specs.Renaming.{rename, moved}
use Rattle.pict_types.specs.Replacing.{bound_by, Filling, filling_beyond_all, next_variable, with_types, with_type}
use Rattle.pict_types.specs.Filling.{filling_past, moved_by, put_for}
use Rattle.pict_types.specs.Plain.{plain, plain_types}
use Rattle.pict_types.proofs.Renamed.{renamed_twice, rename_same}

-- a type that isn't Top is a bound
pub bound_by_other : (t : Ty) → (t ≡ Top_ → ⊥) → bound_by (plain t) ≡ Below (plain t)
bound_by_other Top_ h = absurd (h refl)
bound_by_other Int_ h = refl
bound_by_other Char_ h = refl
bound_by_other Str_ h = refl
bound_by_other Bool_ h = refl
bound_by_other (Var_ i) h = refl
bound_by_other (Apply_ i p shape ts) h = refl
bound_by_other (Chan_ m p t) h = refl
bound_by_other (Fields_ p a bs b ps c ls) h = refl
bound_by_other (Rec_ p t) h = refl

-- the variables of the binders stay
past_low : (s : Filling) (d i : ℕ) → i < d → (filling_past d s).type_for i ≡ Var i
past_low s zero i h = absurd (omega arith)
past_low s (suc d) zero h = refl
past_low s (suc d) (suc i) h = ap (rename suc) (past_low s d i (omega arith))

-- the others become what they become outside, moved under the binders
past_high : (s : Filling) (d i j : ℕ) → i ≡ j + d → (filling_past d s).type_for i ≡ rename (moved d 0) (s.type_for j)
past_high s zero i j e =
    let k : i ≡ j = omega arith in
    ap s.type_for k ∙ sym (rename_same (s.type_for j) (record { each = λ n. none n }))
  where
    none : (n : ℕ) → n + 0 ≡ n
    none n = omega arith
past_high s (suc d) zero j e = absurd (omega arith)
past_high s (suc d) (suc i) j e =
    ap (rename suc) (past_high s d i j (omega arith)) ∙ renamed_twice (s.type_for j) (record { each = λ n. more n })
  where
    more : (n : ℕ) → suc (n + d) ≡ n + suc d
    more n = omega arith

past_head_low : (s : Filling) (d i : ℕ) → i < d → (filling_past d s).head_for i ≡ Some i
past_head_low s zero i h = absurd (omega arith)
past_head_low s (suc d) zero h = refl
past_head_low s (suc d) (suc i) h = ap next_variable (past_head_low s d i (omega arith))

past_head_none : (s : Filling) (d i j : ℕ) → i ≡ j + d → s.head_for j ≡ None → (filling_past d s).head_for i ≡ None
past_head_none s zero i j e h = let k : i ≡ j = omega arith in ap s.head_for k ∙ h
past_head_none s (suc d) zero j e h = absurd (omega arith)
past_head_none s (suc d) (suc i) j e h = ap next_variable (past_head_none s d i j (omega arith) h)

past_head_some : (s : Filling) (d i j k : ℕ) → i ≡ j + d → s.head_for j ≡ Some k → (filling_past d s).head_for i ≡ Some (k + d)
past_head_some s zero i j k e h =
    let l : i ≡ j = omega arith in
    let m : k ≡ k + 0 = omega arith in
    ap s.head_for l ∙ h ∙ ap Some m
past_head_some s (suc d) zero j k e h = absurd (omega arith)
past_head_some s (suc d) (suc i) j k e h =
    let m : suc (k + d) ≡ k + suc d = omega arith in
    ap next_variable (past_head_some s d i j k (omega arith) h) ∙ ap Some m

-- what stands for variable j: the last type for variable 0, and beyond all types what was there before
put_rest : (xs : List Ty) (s : Filling) (j k : ℕ) → j ≡ k + length xs → (with_types (count_types (plain_types xs)) (plain_types xs) s).type_for j ≡ s.type_for k
put_rest [] s j k e = let h : j ≡ k = omega arith in ap s.type_for h
put_rest (x ∷ xs) s j k e = put_rest xs (with_type (plain x) s) j (suc k) (omega arith)

put_type : (xs : List Ty) (s : Filling) (p j : ℕ) (d : Ty) → j + suc p ≡ length xs → (with_types (count_types (plain_types xs)) (plain_types xs) s).type_for j ≡ plain (get_or xs p d)
put_type [] s p j d e = absurd (omega arith)
put_type (x ∷ xs) s zero j d e = put_rest xs (with_type (plain x) s) j 0 (omega arith)
put_type (x ∷ xs) s (suc p) j d e = put_type xs (with_type (plain x) s) p j d (omega arith)

put_head_rest : (xs : List Ty) (s : Filling) (j k : ℕ) → j ≡ k + length xs → (with_types (count_types (plain_types xs)) (plain_types xs) s).head_for j ≡ s.head_for k
put_head_rest [] s j k e = let h : j ≡ k = omega arith in ap s.head_for h
put_head_rest (x ∷ xs) s j k e = put_head_rest xs (with_type (plain x) s) j (suc k) (omega arith)

put_head : (xs : List Ty) (s : Filling) (p j : ℕ) → j + suc p ≡ length xs → (with_types (count_types (plain_types xs)) (plain_types xs) s).head_for j ≡ None
put_head [] s p j e = absurd (omega arith)
put_head (x ∷ xs) s zero j e = put_head_rest xs (with_type (plain x) s) j 0 (omega arith)
put_head (x ∷ xs) s (suc p) j e = put_head xs (with_type (plain x) s) p j (omega arith)

pub variable_low : (us : List Ty) (k d i : ℕ) → i < d → (filling_past d (put_for (plain_types us) k)).type_for i ≡ Var i
variable_low us k d i h = past_low (put_for (plain_types us) k) d i h

pub variable_put : (us : List Ty) (k d i : ℕ) (x : Ty) → d ≤ i → i - d < length us → (filling_past d (put_for (plain_types us) k)).type_for i ≡ rename (moved d 0) (plain (get_or us (length us - 1 - (i - d)) x))
variable_put us k d i x h1 h2 =
    past_high (put_for (plain_types us) k) d i (i - d) (omega arith)
    ∙ ap (rename (moved d 0)) (put_type us (moved_by k) (length us - 1 - (i - d)) (i - d) x (omega arith))

pub variable_rest : (us : List Ty) (k d i : ℕ) → d ≤ i → length us ≤ i - d → (filling_past d (put_for (plain_types us) k)).type_for i ≡ Var (i - length us + k)
variable_rest us k d i h1 h2 =
    let e : i - d - length us + k + d ≡ i - length us + k = omega arith in
    past_high (put_for (plain_types us) k) d i (i - d) (omega arith)
    ∙ ap (rename (moved d 0)) (put_rest us (moved_by k) (i - d) (i - d - length us) (omega arith))
    ∙ ap Var e

pub ruleset fill_rules = (variable_low, variable_put, variable_rest)

pub head_low : (us : List Ty) (k d i : ℕ) → i < d → (filling_past d (put_for (plain_types us) k)).head_for i ≡ Some i
head_low us k d i h = past_head_low (put_for (plain_types us) k) d i h

pub head_put : (us : List Ty) (k d i : ℕ) → d ≤ i → i - d < length us → (filling_past d (put_for (plain_types us) k)).head_for i ≡ None
head_put us k d i h1 h2 =
    past_head_none (put_for (plain_types us) k) d i (i - d) (omega arith) (put_head us (moved_by k) (length us - 1 - (i - d)) (i - d) (omega arith))

pub head_rest : (us : List Ty) (k d i : ℕ) → d ≤ i → length us ≤ i - d → (filling_past d (put_for (plain_types us) k)).head_for i ≡ Some (i - length us + k)
head_rest us k d i h1 h2 =
    let e : i - d - length us + k + d ≡ i - length us + k = omega arith in
    past_head_some (put_for (plain_types us) k) d i (i - d) (i - d - length us + k) (omega arith) (put_head_rest us (moved_by k) (i - d) (i - d - length us) (omega arith))
    ∙ ap Some e

pub ruleset head_rules = (head_low, head_put, head_rest)

-- under the type fields of a record
pub past_all : (d : ℕ) (s : Filling) (bs : PlainBounds) → filling_beyond_all bs (filling_past d s) ≡ filling_past (d + count_bounds bs) s
past_all d s no_bound = ap (λ n. filling_past n s) (omega arith)
past_all d s (bounds b bs) = past_all (suc d) s bs ∙ ap (λ n. filling_past n s) (omega arith)
