-- Labels sorted by their texts, and each text once: they rise, and the same texts are among them.
use Rattle.std.proofs.Common.{ℕ, zero, suc, ◌≡◌, ◌<◌, Bool, true, false, ◌||◌, List, [], ◌∷◌, map, length, get_or, refl, sym, ◌∙◌, ap, subst, arith}
use Rattle.std.specs.Prelude.{if◌then◌else◌}
use Rattle.std.specs.List.{list_any}
use Rattle.std.specs.Str.{bytes_eq}
use Rattle.std.specs.Ordering.{nat_cmp, is_le, is_lt, is_eq, ordering_then, ordering_reverse}
use Rattle.std.specs.Cmp.Lexicographic.{slice_cmp}
use Rattle.std.specs.declared.cmp.Ordering.{Ordering}
use Rattle.std.specs.declared.cmp.Ordering.TheVariants.{Less, Equal, Greater}
use Rattle.std.proofs.lemmas.Cmp.{nat_list_cmp_total}
use Rattle.std.proofs.lemmas.Map.Text.{is_eq-slice_cmp}
use Rattle.std.proofs.lemmas.Slice.Eq.{bytes_eq-Decides}
use Rattle.pict_syntax.specs.declared.name.Name.{Name}
use Rattle.pict_syntax.specs.Names.{text_of}
use Rattle.pict_syntax.specs.Labels.{label_cmp, with_label, with_labels, in_label_order, by_number}
use Rattle.pict_object.specs.Objects.{TextsRise}
use Rattle.pict_object.specs.Collected.{numbers, distinct_after}
use Rattle.pict_object.proofs.Tables.{In, not_itself, after_it, in_first, in_rest}

abbrev UpTo : List ℕ → List ℕ → Type 0
UpTo a b = is_le (slice_cmp nat_cmp a b) ≡ true

-- each text is the one before it or comes after it
abbrev pub Up : List ℕ → List (List ℕ) → Type 0
Up before [] = Unit {0}
Up before (text ∷ texts) = UpTo before text × Up text texts

first_up : (o p : Ordering) → is_lt (ordering_then o p) ≡ true → is_le o ≡ true
first_up Less p h = refl
first_up Equal p h = refl
first_up Greater p h = absurd (cc)

other_up : (o p : Ordering) → is_lt (ordering_then o p) ≡ false → is_le (ordering_reverse o) ≡ true
other_up Less p h = absurd (cc)
other_up Equal p h = refl
other_up Greater p h = refl

from_none : (text : List ℕ) → UpTo [] text
from_none [] = refl
from_none (x ∷ text) = refl

swap : (a b c : Bool) → (a || (b || c)) ≡ (b || (a || c))
swap true true c = refl
swap true false c = refl
swap false b c = refl

regroup : (a b c : Bool) → (a || (b || c)) ≡ ((b || a) || c)
regroup true true c = refl
regroup true false c = refl
regroup false true c = refl
regroup false false c = refl

or_none : (b : Bool) → (b || false) ≡ b
or_none true = refl
or_none false = refl

module _ {A : Type 0} (names : List (List ℕ)) where
  abbrev texts : List (ℕ × A) → List (List ℕ)
  texts xs = map (λ x. text_of names x.0) xs

  put_up : (before : List ℕ) (l : ℕ) (a : A) (xs : List (ℕ × A)) → UpTo before (text_of names l) → Up before (texts xs) → Up before (texts (with_label names l a xs))
  put_up before l a [] h u = (h, tt)
  put_up before l a (x ∷ xs) h u = go (λ k. put_up (text_of names x.0) l a xs k u.1) (is_lt (label_cmp names l x.0)) refl
    where
      go : (UpTo (text_of names x.0) (text_of names l) → Up (text_of names x.0) (texts (with_label names l a xs))) → (b : Bool) → is_lt (label_cmp names l x.0) ≡ b → Up before (texts (if b then (l, a) ∷ x ∷ xs else x ∷ with_label names l a xs))
      go rest true e = (h, (first_up (slice_cmp nat_cmp (text_of names l) (text_of names x.0)) (nat_cmp l x.0) e, u.1))
      go rest false e = (u.0, rest (ap (λ o. is_le o) (nat_list_cmp_total.antisymm (text_of names x.0) (text_of names l)) ∙ other_up (slice_cmp nat_cmp (text_of names l) (text_of names x.0)) (nat_cmp l x.0) e))

  puts_up : (sorted xs : List (ℕ × A)) → Up [] (texts sorted) → Up [] (texts (with_labels names sorted xs))
  puts_up sorted [] u = u
  puts_up sorted (x ∷ xs) u = puts_up (with_label names x.0 x.1 sorted) xs (put_up [] x.0 x.1 sorted (from_none (text_of names x.0)) u)

  put_any : (text : List ℕ) (l : ℕ) (a : A) (xs : List (ℕ × A)) → list_any (bytes_eq text) (texts (with_label names l a xs)) ≡ (bytes_eq text (text_of names l) || list_any (bytes_eq text) (texts xs))
  put_any text l a [] = refl
  put_any text l a (x ∷ xs) = go (put_any text l a xs) (is_lt (label_cmp names l x.0))
    where
      go : list_any (bytes_eq text) (texts (with_label names l a xs)) ≡ (bytes_eq text (text_of names l) || list_any (bytes_eq text) (texts xs)) → (b : Bool) → list_any (bytes_eq text) (texts (if b then (l, a) ∷ x ∷ xs else x ∷ with_label names l a xs)) ≡ (bytes_eq text (text_of names l) || (bytes_eq text (text_of names x.0) || list_any (bytes_eq text) (texts xs)))
      go rest true = refl
      go rest false = ap (λ c. bytes_eq text (text_of names x.0) || c) rest ∙ swap (bytes_eq text (text_of names x.0)) (bytes_eq text (text_of names l)) (list_any (bytes_eq text) (texts xs))

  puts_any : (text : List ℕ) (sorted xs : List (ℕ × A)) → list_any (bytes_eq text) (texts (with_labels names sorted xs)) ≡ (list_any (bytes_eq text) (texts xs) || list_any (bytes_eq text) (texts sorted))
  puts_any text sorted [] = refl
  puts_any text sorted (x ∷ xs) =
      puts_any text (with_label names x.0 x.1 sorted) xs
      ∙ ap (λ c. list_any (bytes_eq text) (texts xs) || c) (put_any text x.0 x.1 sorted)
      ∙ regroup (list_any (bytes_eq text) (texts xs)) (bytes_eq text (text_of names x.0)) (list_any (bytes_eq text) (texts sorted))

  texts_are : (xs : List (Name × A)) → texts (by_number xs) ≡ map (text_of names) (numbers xs)
  texts_are [] = refl
  texts_are (x ∷ xs) = ap (λ z. text_of names x.0.0 ∷ z) (texts_are xs)

  -- what a sort by the labels makes
  pub sorted_up : (xs ys : List (Name × A)) → by_number ys ≡ in_label_order names (by_number xs) → Up [] (map (text_of names) (numbers ys))
  sorted_up xs ys e = subst (Up []) (sym (ap texts e) ∙ texts_are ys) (puts_up [] (by_number xs) tt)

  pub sorted_any : (text : List ℕ) (xs ys : List (Name × A)) → by_number ys ≡ in_label_order names (by_number xs)
      → list_any (bytes_eq text) (map (text_of names) (numbers ys)) ≡ list_any (bytes_eq text) (map (text_of names) (numbers xs))
  sorted_any text xs ys e =
      ap (list_any (bytes_eq text)) (sym (texts_are ys) ∙ ap texts e) ∙ puts_any text [] (by_number xs) ∙ or_none (list_any (bytes_eq text) (texts (by_number xs)))
      ∙ ap (list_any (bytes_eq text)) (texts_are xs)

-- ---- each text once

less : (o : Ordering) → is_le o ≡ true → is_eq o ≡ false → o ≡ Less
less Less h k = refl
less Equal h k = absurd (cc)
less Greater h k = absurd (cc)

differ_back : (a b : List ℕ) (c d : Bool) → bytes_eq a b ≡ c → bytes_eq b a ≡ d → c ≡ false → d ≡ false
differ_back a b c true e f h =
    let g : true ≡ false = sym ((bytes_eq-Decides a b).1 (sym ((bytes_eq-Decides b a).0 f))) ∙ e ∙ h in absurd (cc)
differ_back a b c false e f h = refl

pub rises : (last : List ℕ) (ts : List (List ℕ)) → Up last ts → TextsRise last (distinct_after last ts)
rises last [] u = tt
rises last (text ∷ ts) u = go (λ v. rises last ts v) (rises text ts u.1) (bytes_eq text last) refl
  where
    go : (Up last ts → TextsRise last (distinct_after last ts)) → TextsRise text (distinct_after text ts) → (b : Bool) → bytes_eq text last ≡ b
        → TextsRise last (if b then distinct_after last ts else text ∷ distinct_after text ts)
    go same more true e = same (subst (λ z. Up z ts) ((bytes_eq-Decides text last).0 e) u.1)
    go same more false e = (less (slice_cmp nat_cmp last text) u.0 (is_eq-slice_cmp last text ∙ differ_back text last (bytes_eq text last) (bytes_eq last text) refl refl e), more)

pub kept : (text last : List ℕ) (ts : List (List ℕ)) → bytes_eq text last ≡ false → list_any (bytes_eq text) (distinct_after last ts) ≡ list_any (bytes_eq text) ts
kept text last [] d = refl
kept text last (x ∷ ts) d = go (kept text last ts d) (λ k. kept text x ts k) (bytes_eq x last) (bytes_eq text x) refl refl
  where
    go : list_any (bytes_eq text) (distinct_after last ts) ≡ list_any (bytes_eq text) ts → (bytes_eq text x ≡ false → list_any (bytes_eq text) (distinct_after x ts) ≡ list_any (bytes_eq text) ts)
        → (b c : Bool) → bytes_eq x last ≡ b → bytes_eq text x ≡ c → list_any (bytes_eq text) (if b then distinct_after last ts else x ∷ distinct_after x ts) ≡ (bytes_eq text x || list_any (bytes_eq text) ts)
    go same more true true e f =
        let g : true ≡ false = sym f ∙ ap (bytes_eq text) ((bytes_eq-Decides x last).0 e) ∙ d in absurd (cc)
    go same more true false e f = same ∙ ap (λ c. c || list_any (bytes_eq text) ts) (sym f)
    go same more false true e f = ap (λ c. c || list_any (bytes_eq text) (distinct_after x ts)) f ∙ ap (λ c. c || list_any (bytes_eq text) ts) (sym f)
    go same more false false e f = ap (λ c. bytes_eq text x || c) (more f)

-- ---- no two places of texts that rise have one text

pub in_at : (ts : List (List ℕ)) (i : ℕ) → i < length ts → In (get_or ts i []) ts
in_at [] i h = absurd (omega (arith, h))
in_at (x ∷ ts) zero h = in_first x ts
in_at (x ∷ ts) (suc i) h = in_rest (get_or ts i []) x ts (in_at ts i (omega (arith, h)))

pub one_place : (before : List ℕ) (ts : List (List ℕ)) → TextsRise before ts → (i j : ℕ) → i < length ts → j < length ts → get_or ts i [] ≡ get_or ts j [] → i ≡ j
one_place before [] r i j h k e = absurd (omega (arith, h))
one_place before (x ∷ ts) r zero zero h k e = refl
one_place before (x ∷ ts) r zero (suc j) h k e = absurd (not_itself x (after_it x x ts r.1 (subst (λ z. In z ts) (sym e) (in_at ts j (omega (arith, k))))))
one_place before (x ∷ ts) r (suc i) zero h k e = absurd (not_itself x (after_it x x ts r.1 (subst (λ z. In z ts) e (in_at ts i (omega (arith, h))))))
one_place before (x ∷ ts) r (suc i) (suc j) h k e = ap (λ n. suc n) (one_place x ts r.1 i j (omega (arith, h)) (omega (arith, k)) e)
