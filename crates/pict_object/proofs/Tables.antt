-- A process has one table of labels.
use Rattle.std.proofs.Common.{ℕ, ◌≡◌, ◌⊎◌, inl, inr, Bool, true, false, ◌||◌, List, [], ◌∷◌, refl, sym, ap, ◌∙◌, subst}
use Rattle.std.specs.Prelude.{IsTrue}
use Rattle.std.specs.List.{list_any}
use Rattle.std.specs.Str.{bytes_eq}
use Rattle.std.specs.Ordering.{nat_cmp, is_le, is_eq}
use Rattle.std.specs.Cmp.Lexicographic.{slice_cmp}
use Rattle.std.specs.declared.cmp.Ordering.TheVariants.{Less}
use Rattle.std.specs.BTreeMap.Comparable.{le_lt_trans}
use Rattle.std.proofs.lemmas.Cmp.{nat_list_cmp_total}
use Rattle.std.proofs.lemmas.Map.Text.{is_eq-slice_cmp}
use Rattle.std.proofs.lemmas.Slice.Eq.{bytes_eq-Decides}
use Rattle.pict_object.specs.Objects.{TextsRise}
use Rattle.pict_object.specs.Laws.{TablesAreOne}

abbrev pub Before : List ℕ → List ℕ → Type 0
Before a b = slice_cmp nat_cmp a b ≡ Less

true_false : true ≡ false → ⊥
true_false h = cc

pub trans : (a b c : List ℕ) → Before a b → Before b c → Before a c
trans a b c h k = le_lt_trans nat_list_cmp_total a b c (ap (λ o. is_le o) h) k

pub not_itself : (a : List ℕ) → Before a a → ⊥
not_itself a h = true_false (sym ((bytes_eq-Decides a a).1 refl) ∙ sym (is_eq-slice_cmp a a) ∙ ap (λ o. is_eq o) h)

abbrev pub In : List ℕ → List (List ℕ) → Type 0
In a t = IsTrue (list_any (bytes_eq a) t)

either : (b c : Bool) → (b || c) ≡ true → (b ≡ true) ⊎ (c ≡ true)
either true c h = inl refl
either false c h = inr h

pub first_or_rest : (a x : List ℕ) (t : List (List ℕ)) → In a (x ∷ t) → (a ≡ x) ⊎ In a t
first_or_rest a x t h = elim (either (bytes_eq a x) (list_any (bytes_eq a) t) h) [ inl k ↦ inl ((bytes_eq-Decides a x).0 k) | inr k ↦ inr k ]

pub in_first : (x : List ℕ) (t : List (List ℕ)) → In x (x ∷ t)
in_first x t = ap (λ b. b || list_any (bytes_eq x) t) ((bytes_eq-Decides x x).1 refl)

rest_step : (b c : Bool) → c ≡ true → (b || c) ≡ true
rest_step true c h = refl
rest_step false c h = h

pub in_rest : (a x : List ℕ) (t : List (List ℕ)) → In a t → In a (x ∷ t)
in_rest a x t h = rest_step (bytes_eq a x) (list_any (bytes_eq a) t) h

-- what stands in a table that rises from x on comes after x
pub after_it : (x a : List ℕ) (t : List (List ℕ)) → TextsRise x t → In a t → Before x a
after_it x a [] r h = absurd (true_false (sym h))
after_it x a (y ∷ t) r h = elim (first_or_rest a y t h) [ inl k ↦ subst (Before x) (sym k) r.0 | inr k ↦ trans x y a r.0 (after_it y a t r.1 k) ]

pub one_table : (before other : List ℕ) (t u : List (List ℕ)) → TextsRise before t → TextsRise other u → ((a : List ℕ) → In a t → In a u) → ((a : List ℕ) → In a u → In a t) → t ≡ u
one_table before other [] [] r q f g = refl
one_table before other [] (y ∷ u) r q f g = absurd (true_false (sym (g y (in_first y u))))
one_table before other (x ∷ t) [] r q f g = absurd (true_false (sym (f x (in_first x t))))
one_table before other (x ∷ t) (y ∷ u) r q f g =
    let same : x ≡ y = elim (first_or_rest x y u (f x (in_first x t))) [
      | inl k ↦ k
      | inr k ↦ elim (first_or_rest y x t (g y (in_first y u))) [
        | inl l ↦ sym l
        | inr l ↦ absurd (not_itself x (trans x y x (after_it x y t r.1 l) (after_it y x u q.1 k)))
      ]
    ] in
    ap (λ z. z ∷ t) same
    ∙ ap (λ z. y ∷ z) (one_table x y t u r.1 q.1
    (λ a h. elim (first_or_rest a y u (f a (in_rest a x t h))) [ inl k ↦ absurd (not_itself x (subst (Before x) (k ∙ sym same) (after_it x a t r.1 h))) | inr k ↦ k ])
    (λ a h. elim (first_or_rest a x t (g a (in_rest a y u h))) [ inl k ↦ absurd (not_itself y (subst (Before y) (k ∙ same) (after_it y a u q.1 h))) | inr k ↦ k ]))

pub tables_are_one : TablesAreOne
tables_are_one names p table others f g =
    one_table [] [] table others f.rise g.rise (λ a h. (g.exactly a).1 ((f.exactly a).0 h)) (λ a h. (f.exactly a).1 ((g.exactly a).0 h))
