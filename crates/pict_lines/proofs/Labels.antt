-- The labels that are written, and those of a record type among them.
use Rattle.std.proofs.Common.{◌≡◌, ℕ, ◌+◌, ◌<◌, ◌≤◌, Bool, true, false, cond, ◌&&◌, ◌||◌, nat_eq, nat_lt, List, [], ◌∷◌, ◌++◌, length, get_or, take, drop, refl, sym, ◌∙◌, ap, subst, arith}
use Rattle.std.specs.Ordering.{nat_cmp, is_eq}
use Rattle.std.specs.declared.cmp.Ordering.TheVariants.{Less, Equal, Greater}
use Rattle.std.specs.BTreeSet.{BTreeSet, contains}
use Rattle.std.specs.List.{list_any}
use Rattle.std.proofs.lemmas.Bool.{eq-eqb, eqb-true, ltb-true}
use Rattle.std.proofs.lemmas.List.{take-append-drop, take_all}
use Rattle.pict_syntax.specs.declared.name.Name.{Name}
use Rattle.pict_syntax.specs.declared.tree.LabelledVal.{LabelledVal}
use Rattle.pict_syntax.specs.Trees.{LabelledVals, no_labelled_vals}
use Rattle.pict_syntax.specs.PlainTrees.{labelled_vals_on}
use Rattle.pict_syntax.proofs.ValueLists.{labelled_vals_more}
use Rattle.pict_types.specs.declared.types.Ty.{Ty}
use Rattle.pict_types.specs.Plain.{plain_labels}
use Rattle.pict_rules.specs.Shapes.{all_written, is_written}
use Rattle.pict_lines.specs.Counts.{AddsLabel, HasLabels}
use Rattle.pict_scope.proofs.Reading.{taken}

-- one label more
same_key : (x y : ℕ) → is_eq (nat_cmp x y) ≡ nat_eq y x
same_key x y = go (nat_lt x y) (nat_eq x y) (nat_eq y x) refl refl refl
  where
    go : (a b d : Bool) → nat_lt x y ≡ a → nat_eq x y ≡ b → nat_eq y x ≡ d → is_eq (cond a Less (cond b Equal Greater)) ≡ d
    go true b true p q r = absurd (omega (arith, ltb-true x y p, eqb-true y x r))
    go true b false p q r = refl
    go false true true p q r = refl
    go false true false p q r = sym (eq-eqb y x (sym (eqb-true x y q))) ∙ r
    go false false true p q r = sym q ∙ eq-eqb x y (sym (eqb-true y x r))
    go false false false p q r = refl

either_way : (b c : Bool) → cond b true c ≡ (b || c)
either_way true c = refl
either_way false c = refl

pub label_added : (old new : BTreeSet ℕ) (label : ℕ) → ((l : ℕ) → contains nat_cmp new l ≡ cond (is_eq (nat_cmp label l)) true (contains nat_cmp old l)) → AddsLabel old new label
label_added old new label h l = h l ∙ either_way (is_eq (nat_cmp label l)) (contains nat_cmp old l) ∙ ap (λ b. b || contains nat_cmp old l) (same_key label l)

none_has : (s : BTreeSet ℕ) (l : ℕ) → s.keys ≡ [] → contains nat_cmp s l ≡ false
none_has s l h = ap (λ (ks : List ℕ). list_any (λ k. is_eq (nat_cmp l k)) ks) h

pub no_labels : (s : BTreeSet ℕ) (xs : List LabelledVal) → s.keys ≡ [] → HasLabels s (labelled_vals_on no_labelled_vals (take 0 xs))
unfolding labelled_vals_on
no_labels s xs h l = none_has s l h

pub labels_more : (xs : List LabelledVal) (i : ℕ) (x : LabelledVal) (old new : BTreeSet ℕ) → i < length xs → x ≡ get_or xs i x → HasLabels old (labelled_vals_on no_labelled_vals (take i xs)) → AddsLabel old new x.label.name.0 → HasLabels new (labelled_vals_on no_labelled_vals (take (i + 1) xs))
labels_more xs i x old new h is p q l =
    q l ∙ ap (λ b. nat_eq l x.label.name.0 || b) (p l)
    ∙ sym (ap (λ (z : List LabelledVal). is_written l (labelled_vals_on no_labelled_vals z)) (taken xs i x h is) ∙ ap (is_written l) (labelled_vals_more no_labelled_vals (take i xs) x))

pub all_labels : (xs : List LabelledVal) (i : ℕ) (s : BTreeSet ℕ) → length xs ≤ i → HasLabels s (labelled_vals_on no_labelled_vals (take i xs)) → HasLabels s (labelled_vals_on no_labelled_vals xs)
all_labels xs i s h p = subst (λ (z : List LabelledVal). HasLabels s (labelled_vals_on no_labelled_vals z)) (take_all i xs h) p

-- the labels of a record type, one after the other
written_all : (fs gs : List (Name × Ty)) (ls : LabelledVals) → all_written (plain_labels (fs ++ gs)) ls ≡ (all_written (plain_labels fs) ls && all_written (plain_labels gs) ls)
written_all [] gs ls = refl
written_all (f ∷ fs) gs ls = ap (λ b. is_written f.0.0 ls && b) (written_all fs gs ls) ∙ joined (is_written f.0.0 ls) (all_written (plain_labels fs) ls) (all_written (plain_labels gs) ls)
  where
    joined : (a b c : Bool) → (a && (b && c)) ≡ ((a && b) && c)
    joined true b c = refl
    joined false b c = refl

both : (a b : Bool) → a ≡ true → b ≡ true → (a && (b && true)) ≡ true
both a b h k = rw (h, k) refl

pub written_more : (fs : List (Name × Ty)) (i : ℕ) (f : Name × Ty) (ls : LabelledVals) → i < length fs → f ≡ get_or fs i f → is_written f.0.0 ls ≡ true → all_written (plain_labels (take i fs)) ls ≡ true → all_written (plain_labels (take (i + 1) fs)) ls ≡ true
written_more fs i f ls h is k p =
    ap (λ (z : List (Name × Ty)). all_written (plain_labels z) ls) (taken fs i f h is) ∙ written_all (take i fs) (f ∷ []) ls ∙ both (all_written (plain_labels (take i fs)) ls) (is_written f.0.0 ls) p k

lacks : (a b c : Bool) → b ≡ false → ((a && (b && true)) && c) ≡ false
lacks true b c h = rw h refl
lacks false b c h = refl

pub one_lacks : (fs : List (Name × Ty)) (i : ℕ) (f : Name × Ty) (ls : LabelledVals) → i < length fs → f ≡ get_or fs i f → is_written f.0.0 ls ≡ false → false ≡ all_written (plain_labels fs) ls
one_lacks fs i f ls h is k =
    sym (ap (λ (z : List (Name × Ty)). all_written (plain_labels z) ls) (sym (take-append-drop (i + 1) fs))
    ∙ written_all (take (i + 1) fs) (drop (i + 1) fs) ls
    ∙ ap (λ (z : List (Name × Ty)). all_written (plain_labels z) ls && all_written (plain_labels (drop (i + 1) fs)) ls) (taken fs i f h is)
    ∙ ap (λ b. b && all_written (plain_labels (drop (i + 1) fs)) ls) (written_all (take i fs) (f ∷ []) ls)
    ∙ lacks (all_written (plain_labels (take i fs)) ls) (is_written f.0.0 ls) (all_written (plain_labels (drop (i + 1) fs)) ls) k)

pub all_have : (fs : List (Name × Ty)) (i : ℕ) (ls : LabelledVals) → length fs ≤ i → all_written (plain_labels (take i fs)) ls ≡ true → true ≡ all_written (plain_labels fs) ls
all_have fs i ls h p = sym (subst (λ (z : List (Name × Ty)). all_written (plain_labels z) ls ≡ true) (take_all i fs h) p)
