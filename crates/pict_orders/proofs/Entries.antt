-- Entries of the program and plain ones.
use Rattle.std.proofs.Common.{ℕ, ◌≡◌, Bool, true, false, not, nat_eq, List, [], ◌∷◌, map, filter, refl, ap, cond}
use Rattle.pict_core.specs.Configuration.{Entry}
use Rattle.pict_shared.specs.declared.held.Held.{Held}
use Rattle.pict_shared.specs.Plain.{plain_held}

filter_cons : (e : Held) (xs : List Held) (ys : List Entry) (b : Bool) → map plain_held xs ≡ ys → map plain_held (cond b (e ∷ xs) xs) ≡ cond b (plain_held e ∷ ys) ys
filter_cons e xs ys true h = ap (λ zs. plain_held e ∷ zs) h
filter_cons e xs ys false h = h

pub map-filter_stamp : (s : ℕ) (es : List Held) → map plain_held (filter (λ (e : Held). not (nat_eq s e.stamp)) es) ≡ filter (λ (e : Entry). not (nat_eq s e.stamp)) (map plain_held es)
map-filter_stamp s [] = refl
map-filter_stamp s (e ∷ es) = filter_cons e (filter (λ (d : Held). not (nat_eq s d.stamp)) es) (filter (λ (d : Entry). not (nat_eq s d.stamp)) (map plain_held es)) (not (nat_eq s e.stamp)) (map-filter_stamp s es)
