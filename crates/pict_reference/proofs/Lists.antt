-- Entries of the program and plain ones.
use Rattle.std.proofs.Common.{ℕ, ◌≡◌, Bool, true, false, not, nat_eq, List, [], ◌∷◌, map, filter, refl, ap, cond}
use Rattle.pict_core.specs.Configuration as plain
use Rattle.pict_reference.specs.declared.entry.Entry.{Entry}
use Rattle.pict_reference.specs.Plain.{plain_entry}

filter_cons : (e : Entry) (xs : List Entry) (ys : List plain.Entry) (b : Bool) → map plain_entry xs ≡ ys → map plain_entry (cond b (e ∷ xs) xs) ≡ cond b (plain_entry e ∷ ys) ys
filter_cons e xs ys true h = ap (λ zs. plain_entry e ∷ zs) h
filter_cons e xs ys false h = h

pub map-filter_stamp : (s : ℕ) (es : List Entry) → map plain_entry (filter (λ (e : Entry). not (nat_eq s e.stamp)) es) ≡ filter (λ (e : plain.Entry). not (nat_eq s e.stamp)) (map plain_entry es)
map-filter_stamp s [] = refl
map-filter_stamp s (e ∷ es) = filter_cons e (filter (λ (d : Entry). not (nat_eq s d.stamp)) es) (filter (λ (d : plain.Entry). not (nat_eq s d.stamp)) (map plain_entry es)) (not (nat_eq s e.stamp)) (map-filter_stamp s es)
