-- Types that are kept with the number of type variables around them.
use Rattle.std.proofs.Common.{◌≡◌, ℕ, zero, suc, ◌+◌, ◌-◌, ◌<◌, ◌≤◌, List, [], ◌∷◌, ◌++◌, length, map, reverse, max, refl, sym, ◌∙◌, ap, ap₂, arith, ◌⊎◌, inl, inr}
use Rattle.std.proofs.lemmas.Bool.{cases_lt}
use Rattle.std.proofs.lemmas.List.{map-append, reverse-append, length-map, length-reverse}
use Rattle.pict_types.specs.Types.{PlainType, PlainBound}
use Rattle.pict_types.specs.Plain.{plain}
use Rattle.pict_types.specs.Renaming.{rename, rename_bound, moved, plus}
use Rattle.pict_types.proofs.Entries.{last_first}
use Rattle.pict_types.proofs.Moving.{times_low, times_high}
use Rattle.pict_types.proofs.Renamed.{Stays, stays_beyond, bound_same, renamed_twice, renamed_alike}
use Rattle.pict_rules.specs.Environments.{KnownValue, rename_values, shifted_by}
use Rattle.pict_infer.specs.declared.known.Known.{Known}
use Rattle.pict_infer.specs.declared.known.Binder.{Binder}
use Rattle.pict_infer.specs.Knowing.{known_value, known_values, known_type, known_types, names_known, deepest}

moved_low : (k d i : ℕ) → i < d → moved k d i ≡ i
moved_low k d i h = times_low (plus k) d i h

moved_high : (k d i : ℕ) → d ≤ i → moved k d i ≡ i + k
moved_high k d i h = omega (arith, times_high (plus k) d i h)

-- nothing moves past no variable
pub stays_moved : (d : ℕ) → Stays (moved 0 d)
stays_moved zero = record { each = λ i. omega arith }
stays_moved (suc d) = stays_beyond (stays_moved d)

pub bound_unmoved : (d : ℕ) (b : PlainBound) → rename_bound (moved 0 d) b ≡ b
bound_unmoved d b = bound_same b (stays_moved d)

-- n more variables are opened: a type that is kept at depth d moves by itself
pub kept_opens : (v n d : ℕ) (t : PlainType) → d ≤ v → rename (moved n 0) (shifted_by (v - d) t) ≡ shifted_by (v + n - d) t
kept_opens v n d t h = renamed_twice t (record { each = λ i. omega (arith, h) })

below_or_above : (k m d i : ℕ) → d ≤ m → (i < d) ⊎ (d ≤ i) → moved k m (i + (m - d)) ≡ moved k d i + (m - d)
below_or_above k m d i h (inl l) = moved_low k m (i + (m - d)) (omega (arith, h, l)) ∙ ap (λ j. j + (m - d)) (sym (moved_low k d i l))
below_or_above k m d i h (inr g) =
    moved_high k m (i + (m - d)) (omega (arith, h, g)) ∙ (omega arith) ∙ ap (λ j. j + (m - d)) (sym (moved_high k d i g))

-- m variables go past k others: a type that is kept at depth d among them goes past those alone
pub kept_joins : (k m d : ℕ) (t : PlainType) → d ≤ m → rename (moved k m) (shifted_by (m - d) t) ≡ shifted_by (m - d) (rename (moved k d) t)
kept_joins k m d t h = renamed_alike (moved k m) (λ i. i + (m - d)) (λ i. i + (m - d)) (moved k d) t (λ i. below_or_above k m d i h (cases_lt i d))

-- a type that is kept outside all of them goes past them all
pub kept_outside : (k m n : ℕ) (t : PlainType) → m ≤ n → rename (moved k m) (shifted_by n t) ≡ shifted_by (n + k) t
kept_outside k m n t h = renamed_twice t (record { each = λ i. moved_high k m (i + n) (omega (arith, h)) ∙ omega arith })

-- lists that gain one at the end
pub values_more : (n : ℕ) (vs : List Known) (v : Known) → known_values n (vs ++ v ∷ []) ≡ known_value n v ∷ known_values n vs
values_more n vs v = last_first (known_value n) vs v

pub names_more : (vs : List Known) (v : Known) → names_known (vs ++ v ∷ []) ≡ v.name.0 ∷ names_known vs
names_more vs v = last_first (λ v. v.name.0) vs v

pub values_both : (n : ℕ) (vs ws : List Known) → known_values n (vs ++ ws) ≡ known_values n ws ++ known_values n vs
values_both n vs ws = ap reverse (map-append (known_value n) vs ws) ∙ reverse-append (map (known_value n) vs) (map (known_value n) ws)

pub types_length : (bs : List Binder) → length (known_types bs) ≡ length bs
types_length bs =
    let m : length (map known_type bs) ≡ length bs = simp length-map refl in
    length-reverse (map known_type bs) ∙ m

pub deepest_both : (vs ws : List Known) → deepest (vs ++ ws) ≡ max (deepest vs) (deepest ws)
deepest_both [] ws = omega arith
deepest_both (v ∷ vs) ws = omega (arith, deepest_both vs ws)

pub deepest_one : (vs : List Known) (v : Known) → deepest (vs ++ v ∷ []) ≡ max (deepest vs) v.depth
deepest_one vs v = omega (arith, deepest_both vs (v ∷ []))

-- the types of values go past n more variables by themselves
each_opened : (b n : ℕ) (vs : List Known) → deepest vs ≤ b → map (known_value (b + n)) vs ≡ rename_values (moved n 0) (map (known_value b) vs)
each_opened b n [] h = refl
each_opened b n (v ∷ vs) h =
    ap₂ (λ (t : PlainType) (ws : List KnownValue). let w : KnownValue = record { name = v.name.0; has = t } in w ∷ ws)
    (sym (kept_opens b n v.depth (plain v.has) (omega (arith, h)))) (each_opened b n vs (omega (arith, h)))

renamed_reverse : (f : ℕ → ℕ) (vs : List KnownValue) → reverse (rename_values f vs) ≡ rename_values f (reverse vs)
renamed_reverse f [] = refl
renamed_reverse f (v ∷ vs) =
    let w : KnownValue = record { name = v.name; has = rename f v.has } in
    reverse-append (w ∷ []) (rename_values f vs) ∙ ap (λ z. z ++ w ∷ []) (renamed_reverse f vs)
    ∙ sym (ap (rename_values f) (reverse-append (v ∷ []) vs) ∙ map-append (λ (u : KnownValue). let z : KnownValue = record { name = u.name; has = rename f u.has } in z) (reverse vs) (v ∷ []))

pub values_opened : (b n : ℕ) (vs : List Known) → deepest vs ≤ b → known_values (b + n) vs ≡ rename_values (moved n 0) (known_values b vs)
values_opened b n vs h = ap reverse (each_opened b n vs h) ∙ renamed_reverse (moved n 0) (map (known_value b) vs)
