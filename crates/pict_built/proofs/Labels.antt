-- The labels of an object, which are its names where it is read by no others.
use Rattle.std.proofs.Common.{◌≡◌, ℕ, zero, suc, ◌+◌, ◌<◌, ◌⊎◌, inl, inr, Bool, true, false, List, [], ◌∷◌, ◌++◌, length, drop, get_or, slice_get, Some, refl, sym, ◌∙◌, ap, subst, append_assoc, append-nil, arith}
use Rattle.std.specs.Prelude.{IsTrue}
use Rattle.std.specs.List.{flat_map, list_any}
use Rattle.std.specs.Str.{bytes_eq}
use Rattle.std.proofs.lemmas.Bool.{cases_lt, cases_Bool}
use Rattle.std.proofs.lemmas.List.{length-append, get_or_append_left, get_or_push}
use Rattle.pict_syntax.specs.declared.name.Name.{Name}
use Rattle.pict_syntax.specs.Names.{with_name, with_names, HasNoRepeats}
use Rattle.pict_syntax.proofs.NamesLemmas.{with_absent, interned_distinct}
use Rattle.pict_core.specs.Term.{Process}
use Rattle.pict_object.specs.Objects.{TextsRise, text_bytes, process_bytes, place_in}
use Rattle.pict_object.specs.Cores.{IsObject}
use Rattle.pict_object.specs.Decoded.{IsDecoded}
use Rattle.pict_object.specs.Heads.{own_labels, AreNumbered}
use Rattle.pict_object.specs.Reading.{label_in, no_label}
use Rattle.pict_object.proofs.Once.{count_once}
use Rattle.pict_object.proofs.Whole.{tables_once}
use Rattle.pict_object.proofs.Objects.{one_core}
use Rattle.pict_object.proofs.Tables.{Before, In, trans, not_itself, in_first, in_rest, first_or_rest}
use Rattle.pict_built.specs.Laws.{ObjectsAreDecodedOnce}

-- ---- names that are gained

-- each of the names is this text or comes before it
abbrev UpTo : List ℕ → List (List ℕ) → Type 0
UpTo last names = (a : List ℕ) → In a names → (a ≡ last) ⊎ Before a last

in_more : (names : List (List ℕ)) (text a : List ℕ) → In a (names ++ text ∷ []) → In a names ⊎ (a ≡ text)
in_more [] text a h = elim (first_or_rest a text [] h) [ inl e ↦ inr e | inr k ↦ inl k ]
in_more (name ∷ names) text a h = elim (first_or_rest a name (names ++ text ∷ []) h) [
  | inl e ↦ inl (subst (λ x. In x (name ∷ names)) (sym e) (in_first name names))
  | inr k ↦ elim (in_more names text a k) [ inl m ↦ inl (in_rest a name names m) | inr e ↦ inr e ]
]

-- labels that rise are gained in turn
rising_names : (last : List ℕ) (names table : List (List ℕ)) → UpTo last names → TextsRise last table → with_names names table ≡ names ++ table
rising_names last names [] up rise = sym (append-nil names)
rising_names last names (text ∷ table) up rise =
    let absent : list_any (bytes_eq text) names ≡ false = elim (cases_Bool (list_any (bytes_eq text) names)) [
      | inl h ↦ absurd (elim (up text h) [ inl e ↦ not_itself text (subst (λ x. Before x text) (sym e) rise.0) | inr b ↦ not_itself text (trans text last text b rise.0) ])
      | inr h ↦ h
    ] in
    let more : UpTo text (names ++ text ∷ []) = λ a h. elim (in_more names text a h) [
      | inl k ↦ elim (up a k) [ inl e ↦ inr (subst (λ x. Before x text) (sym e) rise.0) | inr b ↦ inr (trans a last text b rise.0) ]
      | inr e ↦ inl e
    ] in
    ap (λ n. with_names n table) (with_absent names text absent) ∙ rising_names text (names ++ text ∷ []) table more rise.1 ∙ append_assoc names (text ∷ []) table

pub own_names : (table : List (List ℕ)) → TextsRise [] table → with_names [] table ≡ table
own_names table rise = rising_names [] [] table (λ a h. absurd (never h)) rise
  where
    never : false ≡ true → ⊥
    never e = cc

names_distinct : (names texts : List (List ℕ)) → HasNoRepeats names → HasNoRepeats (with_names names texts)
names_distinct names [] h = h
names_distinct names (text ∷ texts) h = names_distinct (with_name names text) texts (interned_distinct names text h)

pub gained_distinct : (texts : List (List ℕ)) → HasNoRepeats (with_names [] texts)
gained_distinct texts = names_distinct [] texts (λ i j text there also. cc)

-- ---- labels whose numbers are their places

own_many : (n : ℕ) → length (own_labels n) ≡ n
own_many zero = refl
own_many (suc n) = let e = length-append (own_labels n) (record { 0 = n } ∷ []) in omega (arith, e, own_many n)

own_at : (n k : ℕ) → k < n → label_in (own_labels n) k ≡ record { 0 = k }
own_at zero k h = absurd (omega (arith, h))
own_at (suc n) k h = elim (cases_lt k n) [
  | inl less ↦ get_or_append_left (own_labels n) (record { 0 = n } ∷ []) no_label k (omega (arith, less, own_many n)) ∙ own_at n k less
  | inr more ↦ let e : k ≡ n = omega (arith, more, h) in
      ap (λ z. label_in (own_labels (suc n)) z) e ∙ get_or_push (own_labels n) (record { 0 = n }) no_label n (own_many n) ∙ ap (λ z. record { 0 = z }) (sym e)
]

pub own_number : (n k : ℕ) → k < n → (label_in (own_labels n) k).0 ≡ k
own_number n k h = ap (λ (name : Name). name.0) (own_at n k h)

pub own_length : (n : ℕ) → length (own_labels n) ≡ n
own_length = own_many

stands_at : (texts : List (List ℕ)) (k : ℕ) → k < length texts → slice_get texts k ≡ Some (get_or texts k [])
stands_at [] k h = absurd (omega (arith, h))
stands_at (text ∷ texts) zero h = refl
stands_at (text ∷ texts) (suc k) h = stands_at texts k (omega (arith, h))

-- they are the numbers of the labels among themselves
pub own_numbered : (table : List (List ℕ)) → TextsRise [] table → AreNumbered [] table table (own_labels (length table))
own_numbered table rise = record {
  names = sym (own_names table rise);
  many = own_many (length table);
  stand = λ k h. ap (slice_get table) (own_number (length table) k h) ∙ stands_at table k h;
}

-- ---- one process

-- what the same bytes begin with, and what is behind it
pub one_head : (names others : List (List ℕ)) (bytes : List ℕ) (p q : Process) → (f : IsObject names bytes p) → (g : IsObject others bytes q)
    → (f.table ≡ g.table) × (process_bytes (place_in names f.table) p ≡ process_bytes (place_in others g.table) q)
one_head names others bytes p q f g =
    let r = process_bytes (place_in names f.table) p in
    let s = process_bytes (place_in others g.table) q in
    let n = count_once (length f.table) (length g.table) (flat_map text_bytes f.table ++ r) (flat_map text_bytes g.table ++ s) f.fits.few g.fits.few (ap (drop 5) (sym f.is ∙ g.is)) in
    tables_once f.table g.table r s n.0 f.fits.short g.fits.short n.1

-- the names of what is read by no others are its labels, each once
pub decoded_distinct : (bytes : List ℕ) (names : List (List ℕ)) (p : Process) → IsDecoded [] names bytes p → HasNoRepeats names
decoded_distinct bytes names p d = subst HasNoRepeats (sym d.names) (gained_distinct d.object.table)

pub decoded_once : ObjectsAreDecodedOnce
decoded_once bytes names others p q a b =
    let e : names ≡ others = a.names ∙ ap (with_names []) (one_head names others bytes p q a.object b.object).0 ∙ sym b.names in
    sym a.without_places ∙ one_core others (decoded_distinct bytes others q b) bytes p q (subst (λ n. IsObject n bytes p) e a.object) b.object ∙ b.without_places
