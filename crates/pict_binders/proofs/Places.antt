-- The place of a name from its level.
use Rattle.std.proofs.Common.{◌≡◌, ℕ, suc, ◌+◌, ◌-◌, ◌<◌, Bool, true, false, nat_eq, List, [], ◌∷◌, length, Option, Some, None, refl, ◌∙◌, ap, arith}
use Rattle.std.specs.Prelude.{if◌then◌else◌}
use Rattle.std.specs.Option.{option_map}
use Rattle.pict_binders.specs.Names.{level_of, place_of}

pub level_below : (ms : List ℕ) (n l : ℕ) → level_of ms n ≡ Some l → l < length ms
level_below [] n l h = absurd (cc)
level_below (m ∷ ms) n l h = go (λ k. level_below ms n l k) (nat_eq m n) h
  where
    go : (level_of ms n ≡ Some l → l < length ms) → (x : Bool) → (if x then Some (length ms) else level_of ms n) ≡ Some l → l < length (m ∷ ms)
    go r true k = let e : length ms ≡ l = cc in omega arith
    go r false k = omega (arith, r k)

pub place_none : (ms : List ℕ) (n : ℕ) → level_of ms n ≡ None → place_of ms n ≡ None
place_none [] n h = refl
place_none (m ∷ ms) n h = go (λ k. place_none ms n k) (nat_eq m n) h
  where
    go : (level_of ms n ≡ None → place_of ms n ≡ None) → (x : Bool) → (if x then Some (length ms) else level_of ms n) ≡ None → (if x then Some 0 else option_map suc (place_of ms n)) ≡ None
    go r true k = absurd (cc)
    go r false k = ap (option_map suc) (r k)

pub place_some : (ms : List ℕ) (n l : ℕ) → level_of ms n ≡ Some l → place_of ms n ≡ Some (length ms - 1 - l)
place_some [] n l h = absurd (cc)
place_some (m ∷ ms) n l h = go (λ k. place_some ms n l k) (nat_eq m n) h
  where
    go : (level_of ms n ≡ Some l → place_of ms n ≡ Some (length ms - 1 - l)) → (x : Bool) → (if x then Some (length ms) else level_of ms n) ≡ Some l → (if x then Some 0 else option_map suc (place_of ms n)) ≡ Some (length (m ∷ ms) - 1 - l)
    go r true k =
        let e : length ms ≡ l = cc in
        let d : 0 ≡ length (m ∷ ms) - 1 - l = omega arith in
        ap Some d
    go r false k =
        let e = level_below ms n l k in
        let d : suc (length ms - 1 - l) ≡ length (m ∷ ms) - 1 - l = omega arith in
        ap (option_map suc) (r k) ∙ ap Some d
