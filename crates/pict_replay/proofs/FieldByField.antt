-- The fields of a record are those of another, seen one after the other.
use Rattle.std.proofs.Common.{ℕ, ◌+◌, ◌<◌, ◌≡◌, ◌↔◌, Bool, List, map, length, get_or, drop, refl, sym, ap, ◌∙◌, subst, Option, Some, None, option_map}
use Rattle.std.specs.Prelude.{IsTrue}
use Rattle.std.proofs.lemmas.List.{drop_more}
use Rattle.pict_syntax.specs.declared.name.Name.{Name}
use Rattle.pict_core.specs.Term.{Val, Vals, Labelled, Record, no_vals, more_vals, no_labelled, more_labelled}
use Rattle.pict_core.specs.Plain.{plain_val, plain_field, vals_of, labelled_of}
use Rattle.pict_core.specs.declared.value.CoreVal.{CoreVal}
use Rattle.pict_heap.specs.Fields.{positional_field, labelled_field_at}
use Rattle.pict_heap.specs.HeapState.{HeapState, value_of}
use Rattle.pict_heap.specs.declared.word.Word.{Word}
use Rattle.pict_heap.specs.declared.word.Word.TheVariants as word
use Rattle.pict_show_words.specs.Fields.{positional_in, labelled_in, positional_from, labelled_from}
use Rattle.pict_show_words.proofs.Words.{fields_are}
use Rattle.pict_show_words.proofs.Rests.{from_none, none_from, labelled_from_none, none_labelled_from}

-- ---- what is still to be seen: A says that all fields are the same

-- of fields without labels
module _ (A : Type 0) (here there : Vals) (same : A ↔ (here ≡ there)) where
  module _ (x y : Val) (xs ys : Vals) (h : here ≡ more_vals x xs) (t : there ≡ more_vals y ys) where
    pub vals_on : x ≡ y → A ↔ (xs ≡ ys)
    vals_on e = (
      λ a. (let f : more_vals x xs ≡ more_vals y ys = sym h ∙ same.0 a ∙ t in cc),
      λ f. same.1 (h ∙ ap (λ z. more_vals z xs) e ∙ ap (more_vals y) f ∙ sym t),
    )

    pub vals_differ : (x ≡ y → ⊥) → A → ⊥
    vals_differ n a = let f : more_vals x xs ≡ more_vals y ys = sym h ∙ same.0 a ∙ t in n (cc)

  pub vals_short : (y : Val) (ys : Vals) → here ≡ no_vals → there ≡ more_vals y ys → A → ⊥
  vals_short y ys h t a = let f : no_vals ≡ more_vals y ys = sym h ∙ same.0 a ∙ t in cc

  pub vals_over : there ≡ no_vals → A ↔ (here ≡ no_vals)
  vals_over t = (λ a. same.0 a ∙ t, λ h. same.1 (h ∙ sym t))

-- of fields with labels
module _ (A : Type 0) (here there : Labelled) (same : A ↔ (here ≡ there)) where
  module _ (l m : ℕ) (x y : Val) (xs ys : Labelled) (h : here ≡ more_labelled l x xs) (t : there ≡ more_labelled m y ys) where
    pub labelled_on : l ≡ m → x ≡ y → A ↔ (xs ≡ ys)
    labelled_on e f = (
      λ a. (let g : more_labelled l x xs ≡ more_labelled m y ys = sym h ∙ same.0 a ∙ t in cc),
      λ g. same.1 (h ∙ ap (λ z. more_labelled z x xs) e ∙ ap (λ z. more_labelled m z xs) f ∙ ap (more_labelled m y) g ∙ sym t),
    )

    pub labels_differ : (l ≡ m → ⊥) → A → ⊥
    labels_differ n a = let g : more_labelled l x xs ≡ more_labelled m y ys = sym h ∙ same.0 a ∙ t in n (cc)

    pub labelled_differ : (x ≡ y → ⊥) → A → ⊥
    labelled_differ n a = let g : more_labelled l x xs ≡ more_labelled m y ys = sym h ∙ same.0 a ∙ t in n (cc)

  pub labelled_short : (m : ℕ) (y : Val) (ys : Labelled) → here ≡ no_labelled → there ≡ more_labelled m y ys → A → ⊥
  labelled_short m y ys h t a = let g : no_labelled ≡ more_labelled m y ys = sym h ∙ same.0 a ∙ t in cc

  pub labelled_over : there ≡ no_labelled → A ↔ (here ≡ no_labelled)
  labelled_over t = (λ a. same.0 a ∙ t, λ h. same.1 (h ∙ sym t))

-- ---- what is left of lists of the code

pub values_left : (xs : List CoreVal) (i : ℕ) (x : CoreVal) → i < length xs → x ≡ get_or xs i x → vals_of (map plain_val (drop i xs)) ≡ more_vals (plain_val x) (vals_of (map plain_val (drop (i + 1) xs)))
values_left xs i x few e =
    ap (λ l. vals_of (map plain_val l)) (drop_more xs i x few) ∙ ap (λ y. more_vals (plain_val y) (vals_of (map plain_val (drop (i + 1) xs)))) (sym e)

pub fields_left : (xs : List (Name × CoreVal)) (i : ℕ) (x : Name × CoreVal) → i < length xs → x ≡ get_or xs i x
    → labelled_of (map plain_field (drop i xs)) ≡ more_labelled x.0.0 (plain_val x.1) (labelled_of (map plain_field (drop (i + 1) xs)))
fields_left xs i x few e =
    ap (λ l. labelled_of (map plain_field l)) (drop_more xs i x few) ∙ ap (λ (y : Name × CoreVal). more_labelled y.0.0 (plain_val y.1) (labelled_of (map plain_field (drop (i + 1) xs)))) (sym e)

-- ---- records

-- a record is one of these fields where its fields are these
pub record_same : (h : HeapState) (number : ℕ) (vs : Vals) (ls : Labelled) → positional_from 0 (value_of h (word.Fields number)) ≡ vs → labelled_from 0 (value_of h (word.Fields number)) ≡ ls → value_of h (word.Fields number) ≡ Record vs ls
record_same h number vs ls e f = fields_are h number ∙ ap (λ x. Record x (labelled_in (value_of h (word.Fields number)))) e ∙ ap (Record vs) f

pub record_fields : (v : Val) (vs : Vals) (ls : Labelled) → v ≡ Record vs ls → (positional_from 0 v ≡ vs) × (labelled_from 0 v ≡ ls)
record_fields v vs ls e = (ap positional_in e, ap labelled_in e)

-- the word of a record whose other fields are these stands for the record where its fields with labels are these
pub record_tells : (h : HeapState) (w : Word) (number : ℕ) (v : Val) (vs : Vals) (ls : Labelled) → w ≡ word.Fields number → v ≡ Record vs ls → positional_from 0 (value_of h w) ≡ vs
    → (labelled_from 0 (value_of h w) ≡ ls) ↔ (value_of h w ≡ v)
record_tells h w number v vs ls e f first = (
  λ second. subst (λ x. value_of h x ≡ v) (sym e) (record_same h number vs ls (subst (λ x. positional_from 0 (value_of h x) ≡ vs) e first) (subst (λ x. labelled_from 0 (value_of h x) ≡ ls) e second) ∙ sym f),
  λ whole. (record_fields (value_of h w) vs ls (whole ∙ f)).1,
)

-- ---- the end

some_none : {A B : Type 0} (f : A → B) (r : Option A) (there : Option B) → option_map f r ≡ there → (r ≡ None) ↔ (there ≡ None)
some_none f None there e = (λ n. sym e, λ n. refl)
some_none f (Some x) there e = (λ n. (cc), λ n. (let g : Some (f x) ≡ None = e ∙ n in cc))

-- no field without a label is at this index, and none behind it
pub vals_end : (h : HeapState) (v : Val) (i : ℕ) (r : Option Word) (b : Bool) → option_map (value_of h) r ≡ positional_field v i → IsTrue b ↔ (r ≡ None) → IsTrue b ↔ (positional_from i v ≡ no_vals)
vals_end h v i r b e t =
    let s = some_none (value_of h) r (positional_field v i) e in
    (λ x. from_none v i (s.0 (t.0 x)), λ n. t.1 (s.1 (none_from v i n)))

-- nor one with a label
pub labelled_end : (h : HeapState) (v : Val) (i : ℕ) (r : Option (Name × Word)) (b : Bool) → option_map (λ (f : Name × Word). (f.0.0, value_of h f.1)) r ≡ labelled_field_at v i → IsTrue b ↔ (r ≡ None)
    → IsTrue b ↔ (labelled_from i v ≡ no_labelled)
labelled_end h v i r b e t =
    let s = some_none (λ (f : Name × Word). (f.0.0, value_of h f.1)) r (labelled_field_at v i) e in
    (λ x. labelled_from_none v i (s.0 (t.0 x)), λ n. t.1 (s.1 (none_labelled_from v i n)))

-- two tests in turn
pub both_ways : {A B C : Type 0} → A ↔ B → C ↔ B → A ↔ C
both_ways x y = (λ a. y.1 (x.0 a), λ c. x.1 (y.0 c))
