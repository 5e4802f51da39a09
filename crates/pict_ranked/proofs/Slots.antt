-- What stands in slots, when one of them is emptied or filled.
use Rattle.std.proofs.Common.{ℕ, zero, suc, ◌≤◌, ◌≡◌, List, [], ◌∷◌, ◌++◌, length, map, take, drop, set, replicate, refl, ap, Option, Some, None, arith}
use Rattle.std.specs.Prelude.{slice_get, is_some}
use Rattle.std.specs.List.{filter}
use Rattle.pict_ranked.specs.Tree.{total}
use Rattle.pict_ranked.specs.Ranking.{standing, one_if_full}

module _ {X : Type 0} where
  pub standing-append : (xs ys : List (Option X)) → standing (xs ++ ys) ≡ standing xs ++ standing ys
  standing-append [] ys = refl
  standing-append (None ∷ xs) ys = standing-append xs ys
  standing-append (Some x ∷ xs) ys = ap (λ l. x ∷ l) (standing-append xs ys)

  pub total_full : (slots : List (Option X)) → total (map one_if_full slots) ≡ length (standing slots)
  total_full [] = refl
  total_full (None ∷ slots) = let ih = total_full slots in omega (arith, ih)
  total_full (Some x ∷ slots) = let ih = total_full slots in omega (arith, ih)

  pub standing_fewer : (slots : List (Option X)) → length (standing slots) ≤ length slots
  standing_fewer [] = omega arith
  standing_fewer (None ∷ slots) = let ih = standing_fewer slots in omega (arith, ih)
  standing_fewer (Some x ∷ slots) = let ih = standing_fewer slots in omega (arith, ih)

  -- how many stand before a slot
  abbrev pub rank : ℕ → List (Option X) → ℕ
  rank s slots = length (standing (take s slots))

  pub stands_there : (slots : List (Option X)) (s : ℕ) (x : X) → slice_get slots s ≡ Some (Some x) → slice_get (standing slots) (rank s slots) ≡ Some x
  stands_there [] s x e = cc
  stands_there (None ∷ slots) zero x e = cc
  stands_there (Some y ∷ slots) zero x e = cc
  stands_there (None ∷ slots) (suc s) x e = stands_there slots s x e
  stands_there (Some y ∷ slots) (suc s) x e = stands_there slots s x e

  pub emptied : (slots : List (Option X)) (s : ℕ) (x : X) → slice_get slots s ≡ Some (Some x) → standing (set slots s None) ≡ take (rank s slots) (standing slots) ++ drop (suc (rank s slots)) (standing slots)
  emptied [] s x e = cc
  emptied (None ∷ slots) zero x e = cc
  emptied (Some y ∷ slots) zero x e = refl
  emptied (None ∷ slots) (suc s) x e = emptied slots s x e
  emptied (Some y ∷ slots) (suc s) x e = ap (λ l. y ∷ l) (emptied slots s x e)

  pub filled : (slots : List (Option X)) (s : ℕ) (x y : X) → slice_get slots s ≡ Some (Some x) → standing (set slots s (Some y)) ≡ take (rank s slots) (standing slots) ++ y ∷ drop (suc (rank s slots)) (standing slots)
  filled [] s x y e = cc
  filled (None ∷ slots) zero x y e = cc
  filled (Some z ∷ slots) zero x y e = refl
  filled (None ∷ slots) (suc s) x y e = filled slots s x y e
  filled (Some z ∷ slots) (suc s) x y e = ap (λ l. z ∷ l) (filled slots s x y e)

  -- the same slots are full
  pub full_still : (slots : List (Option X)) (s : ℕ) (x y : X) → slice_get slots s ≡ Some (Some x) → map one_if_full (set slots s (Some y)) ≡ map one_if_full slots
  full_still [] s x y e = cc
  full_still (None ∷ slots) zero x y e = cc
  full_still (Some z ∷ slots) zero x y e = refl
  full_still (z ∷ slots) (suc s) x y e = ap (λ l. one_if_full z ∷ l) (full_still slots s x y e)

  -- ---- the full slots alone

  pub standing-full : (slots : List (Option X)) → standing (filter is_some slots) ≡ standing slots
  standing-full [] = refl
  standing-full (None ∷ slots) = standing-full slots
  standing-full (Some x ∷ slots) = ap (λ l. x ∷ l) (standing-full slots)

  pub all_full : (slots : List (Option X)) → map one_if_full (filter is_some slots) ≡ replicate (length (filter is_some slots)) 1
  all_full [] = refl
  all_full (None ∷ slots) = all_full slots
  all_full (Some x ∷ slots) = ap (λ l. 1 ∷ l) (all_full slots)

  pub as_many_full : (slots : List (Option X)) → length (filter is_some slots) ≡ length (standing slots)
  as_many_full [] = refl
  as_many_full (None ∷ slots) = as_many_full slots
  as_many_full (Some x ∷ slots) = let ih = as_many_full slots in omega (arith, ih)
