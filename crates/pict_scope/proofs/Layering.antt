-- The nearest binder of a name in the open layer.
use Rattle.std.proofs.Common.{◌≡◌, ℕ, zero, suc, ◌<◌, ◌≤◌, Bool, true, false, nat_eq, List, [], ◌∷◌, take, Option, Some, None, refl, arith}
use Rattle.std.specs.Prelude.{if◌then◌else◌}
use Rattle.std.specs.Option.{option_map}
use Rattle.pict_binders.specs.Names.{place_of}
use Rattle.pict_binders.specs.declared.binders.Binder.{Binder}
use Rattle.pict_binders.specs.Numbered.{names_of, nearest}

pub place_within : (bs : List Binder) (k n i : ℕ) → place_of (names_of bs) n ≡ Some i → i < k → nearest (take k bs) n ≡ nearest bs n
place_within [] zero n i h l = refl
place_within [] (suc k) n i h l = refl
place_within (b ∷ bs) zero n i h l = absurd (omega arith)
place_within (b ∷ bs) (suc k) n i h l = go (nat_eq b.name n) (place_of (names_of bs) n) (λ j. place_within bs k n j) h
  where
    go : (t : Bool) (p : Option ℕ) → ((j : ℕ) → p ≡ Some j → j < k → nearest (take k bs) n ≡ nearest bs n) → (if t then Some 0 else option_map suc p) ≡ Some i → (if t then Some b.number else nearest (take k bs) n) ≡ (if t then Some b.number else nearest bs n)
    go true p r e = refl
    go false None r e = absurd (cc)
    go false (Some j) r e = let s : suc j ≡ i = cc in r j refl (omega arith)

pub place_outside : (bs : List Binder) (k n i : ℕ) → place_of (names_of bs) n ≡ Some i → k ≤ i → nearest (take k bs) n ≡ None
place_outside [] zero n i h l = refl
place_outside [] (suc k) n i h l = refl
place_outside (b ∷ bs) zero n i h l = refl
place_outside (b ∷ bs) (suc k) n i h l = go (nat_eq b.name n) (place_of (names_of bs) n) (λ j. place_outside bs k n j) h
  where
    go : (t : Bool) (p : Option ℕ) → ((j : ℕ) → p ≡ Some j → k ≤ j → nearest (take k bs) n ≡ None) → (if t then Some 0 else option_map suc p) ≡ Some i → (if t then Some b.number else nearest (take k bs) n) ≡ None
    go true p r e = let s : 0 ≡ i = cc in absurd (omega arith)
    go false None r e = absurd (cc)
    go false (Some j) r e = let s : suc j ≡ i = cc in r j refl (omega arith)

pub place_nowhere : (bs : List Binder) (k n : ℕ) → place_of (names_of bs) n ≡ None → nearest (take k bs) n ≡ None
place_nowhere [] zero n h = refl
place_nowhere [] (suc k) n h = refl
place_nowhere (b ∷ bs) zero n h = refl
place_nowhere (b ∷ bs) (suc k) n h = go (nat_eq b.name n) (place_of (names_of bs) n) (place_nowhere bs k n) h
  where
    go : (t : Bool) (p : Option ℕ) → (p ≡ None → nearest (take k bs) n ≡ None) → (if t then Some 0 else option_map suc p) ≡ None → (if t then Some b.number else nearest (take k bs) n) ≡ None
    go true p r e = absurd (cc)
    go false None r e = r refl
    go false (Some j) r e = absurd (cc)
