-- Lists at an index, lists that grow, and filters.
use Rattle.std.proofs.Common.{ℕ, zero, suc, ◌+◌, ◌<◌, ◌≡◌, ◌⊎◌, inl, inr, Bool, true, false, cond, List, [], ◌∷◌, ◌++◌, length, filter, refl, ap, arith, Some, None}
use Rattle.std.specs.List.{slice_get}
use Rattle.pict_core.specs.Configuration.{Entry}
use Rattle.pict_core.specs.Step.{least}

pub or_last : (j m : ℕ) → j < m + 1 → (j < m) ⊎ (j ≡ m)
or_last zero zero k = inr refl
or_last zero (suc m) k = inl (omega arith)
or_last (suc j) zero k = absurd (omega (arith, k))
or_last (suc j) (suc m) k = step (or_last j m (omega (arith, k)))
  where
    step : (j < m) ⊎ (j ≡ m) → (suc j < suc m) ⊎ (suc j ≡ suc m)
    step (inl a) = inl (omega (arith, a))
    step (inr a) = inr (ap suc a)

module _ {X : Type 0} where
  pub get_front : (xs ys : List X) (i : ℕ) (x : X) → slice_get xs i ≡ Some x → slice_get (xs ++ ys) i ≡ Some x
  get_front [] ys i x e = cc
  get_front (z ∷ xs) ys zero x e = e
  get_front (z ∷ xs) ys (suc i) x e = get_front xs ys i x e

  pub get_below : (xs ys : List X) (i : ℕ) → i < length xs → slice_get (xs ++ ys) i ≡ slice_get xs i
  get_below [] ys i h = absurd (omega (arith, h))
  get_below (z ∷ xs) ys zero h = refl
  get_below (z ∷ xs) ys (suc i) h = get_below xs ys i (omega (arith, h))

  pub get_last : (xs : List X) (x y : X) (i : ℕ) → slice_get (xs ++ x ∷ []) i ≡ Some y → (slice_get xs i ≡ Some y) ⊎ (x ≡ y)
  get_last [] x y zero e = let f : x ≡ y = cc in inr f
  get_last [] x y (suc i) e = cc
  get_last (z ∷ xs) x y zero e = inl e
  get_last (z ∷ xs) x y (suc i) e = get_last xs x y i e

  pub get_own : (xs : List X) (x : X) → slice_get (xs ++ x ∷ []) (length xs) ≡ Some x
  get_own [] x = refl
  get_own (z ∷ xs) x = get_own xs x

  pub get_within : (xs : List X) (i : ℕ) (x : X) → slice_get xs i ≡ Some x → i < length xs
  get_within [] i x e = cc
  get_within (z ∷ xs) zero x e = omega arith
  get_within (z ∷ xs) (suc i) x e = let h = get_within xs i x e in omega (arith, h)

-- ---- filters

none_cons : (t : Entry → Bool) (d : Entry) (es : List Entry) → (least t es ≡ None → filter t es ≡ []) → (b : Bool) → cond b (Some d) (least t es) ≡ None → cond b (d ∷ filter t es) (filter t es) ≡ []
none_cons t d es ih true e = cc
none_cons t d es ih false e = ih e

pub none_left : (t : Entry → Bool) (es : List Entry) → least t es ≡ None → filter t es ≡ []
none_left t [] e = refl
none_left t (d ∷ es) e = none_cons t d es (none_left t es) (t d) e
