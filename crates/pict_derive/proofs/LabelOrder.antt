-- Labels are put in order alike, whatever they label; and lists of fields as the fields of records.
use Rattle.std.proofs.Common.{◌≡◌, ℕ, Bool, true, false, List, [], ◌∷◌, ◌++◌, map, refl, sym, ◌∙◌, ap, if◌then◌else◌, append_assoc}
use Rattle.std.proofs.lemmas.List.{append-nil}
use Rattle.std.proofs.Common.{Global}
use Rattle.std.specs.Prelude.{Vec}
use Rattle.pict_core.specs.declared.value.CoreVal.TheVariants as value
use Rattle.pict_core.proofs.Fields.{plain_val-Fields}
use Rattle.pict_translation.specs.Simple.{record_of_fields}
use Rattle.pict_derive.specs.Built.{place}
use Rattle.std.specs.Ordering.{is_lt}
use Rattle.pict_syntax.specs.declared.name.Name.{Name}
use Rattle.pict_syntax.specs.Labels.{label_cmp, with_label, with_labels, in_label_order, by_number}
use Rattle.pict_core.specs.declared.value.CoreVal.{CoreVal}
use Rattle.pict_core.specs.declared.pattern.CorePat.{CorePat}
use Rattle.pict_core.specs.Term as core
use Rattle.pict_core.specs.Plain as plain
use Rattle.pict_core.specs.Plain.{plain_val, plain_pat, plain_field, plain_pat_field}
use Rattle.pict_translation.specs.Arguments.{labelled_of}
use Rattle.pict_translation.specs.Patterns.{Opened, patterns_in, labelled_patterns_in, names_opened, labelled_names_in}
use Rattle.pict_derive.specs.Built.{field_of, pattern_of}

-- the same labels on other things
abbrev pub relabelled : {A B : Type 0} → (A → B) → List (ℕ × A) → List (ℕ × B)
relabelled f xs = map (λ x. (x.0, f x.1)) xs

put_in : {A B : Type 0} (names : List (List ℕ)) (f : A → B) (l : ℕ) (a : A) (xs : List (ℕ × A)) → relabelled f (with_label names l a xs) ≡ with_label names l (f a) (relabelled f xs)
put_in names f l a [] = refl
put_in names f l a (x ∷ xs) = either (put_in names f l a xs) (is_lt (label_cmp names l x.0))
  where
    either : relabelled f (with_label names l a xs) ≡ with_label names l (f a) (relabelled f xs) → (b : Bool) → relabelled f (if b then (l, a) ∷ x ∷ xs else x ∷ with_label names l a xs) ≡ (if b then (l, f a) ∷ (x.0, f x.1) ∷ relabelled f xs else (x.0, f x.1) ∷ with_label names l (f a) (relabelled f xs))
    either rest true = refl
    either rest false = ap (λ ys. (x.0, f x.1) ∷ ys) rest

all_put : {A B : Type 0} (names : List (List ℕ)) (f : A → B) (sorted xs : List (ℕ × A)) → relabelled f (with_labels names sorted xs) ≡ with_labels names (relabelled f sorted) (relabelled f xs)
all_put names f sorted [] = refl
all_put names f sorted (x ∷ xs) = all_put names f (with_label names x.0 x.1 sorted) xs ∙ ap (λ ys. with_labels names ys (relabelled f xs)) (put_in names f x.0 x.1 sorted)

pub order_kept : {A B : Type 0} (names : List (List ℕ)) (f : A → B) (xs : List (ℕ × A)) → relabelled f (in_label_order names xs) ≡ in_label_order names (relabelled f xs)
order_kept names f xs = all_put names f [] xs

pub by_number_then : {A B : Type 0} (f : A → B) (xs : List (Name × A)) → relabelled f (by_number xs) ≡ map (λ x. (x.0.0, f x.1)) xs
by_number_then f [] = refl
by_number_then f (x ∷ xs) = ap (λ ys. (x.0.0, f x.1) ∷ ys) (by_number_then f xs)

-- items that were sorted, with what is in them made plain
pub sorted_are : {A B : Type 0} (names : List (List ℕ)) (f : A → B) (old new : List (Name × A)) → by_number new ≡ in_label_order names (by_number old) → map (λ x. (x.0.0, f x.1)) new ≡ in_label_order names (map (λ x. (x.0.0, f x.1)) old)
sorted_are names f old new is = sym (by_number_then f new) ∙ ap (relabelled f) is ∙ order_kept names f (by_number old) ∙ ap (in_label_order names) (by_number_then f old)

-- ---- the fields of records and patterns

pub labelled_are : (fs : List (Name × CoreVal)) → plain.labelled_of (map plain_field fs) ≡ labelled_of (map field_of fs)
labelled_are [] = refl
labelled_are (f ∷ fs) = ap (core.more_labelled f.0.0 (plain_val f.1)) (labelled_are fs)

pub record_is : (names : List (List ℕ)) (ps : Vec CoreVal Global) (old new : Vec (Name × CoreVal) Global) → by_number new.items ≡ in_label_order names (by_number old.items) → plain_val (value.Fields ps new) ≡ record_of_fields (place names []) (map plain_val ps.items) (map field_of old.items)
record_is names ps old new sorted =
    plain_val-Fields ps new
    ∙ ap (core.Record (plain.vals_of (map plain_val ps.items))) (labelled_are new.items ∙ ap labelled_of (sorted_are names plain_val old.items new.items sorted))

pub patterns_are : (ps : List CorePat) (os : List Opened) → map plain_pat ps ≡ map (λ o. o.pattern) os → plain.pats_of (map plain_pat ps) ≡ patterns_in os
patterns_are ps os same = ap plain.pats_of same ∙ go os
  where
    go : (os : List Opened) → plain.pats_of (map (λ o. o.pattern) os) ≡ patterns_in os
    go [] = refl
    go (o ∷ os) = ap (core.more_pats o.pattern) (go os)

abbrev numbered_pats : List (ℕ × core.Pat) → core.LabelledPats
numbered_pats [] = core.no_labelled_pats
numbered_pats (f ∷ fs) = core.more_labelled_pats f.0 f.1 (numbered_pats fs)

numbered : (ps : List (Name × CorePat)) → plain.labelled_pats_of (map plain_pat_field ps) ≡ numbered_pats (map pattern_of ps)
numbered [] = refl
numbered (p ∷ ps) = ap (core.more_labelled_pats p.0.0 (plain_pat p.1)) (numbered ps)

numbered_in : (fs : List (ℕ × Opened)) → numbered_pats (map (λ f. (f.0, f.1.pattern)) fs) ≡ labelled_patterns_in fs
numbered_in [] = refl
numbered_in (f ∷ fs) = ap (core.more_labelled_pats f.0 f.1.pattern) (numbered_in fs)

pub labelled_patterns_are : (ps : List (Name × CorePat)) (fs : List (ℕ × Opened)) → map pattern_of ps ≡ map (λ f. (f.0, f.1.pattern)) fs → plain.labelled_pats_of (map plain_pat_field ps) ≡ labelled_patterns_in fs
labelled_patterns_are ps fs same = numbered ps ∙ ap numbered_pats same ∙ numbered_in fs

-- ---- the names of fields, one after the other

pub names_in_more : (os : List Opened) (o : Opened) → names_opened (os ++ o ∷ []) ≡ names_opened os ++ o.names
names_in_more [] o = append-nil o.names
names_in_more (p ∷ os) o = ap (λ ns. p.names ++ ns) (names_in_more os o) ∙ sym (append_assoc p.names (names_opened os) o.names)

pub labelled_names_more : (fs : List (ℕ × Opened)) (f : ℕ × Opened) → labelled_names_in (fs ++ f ∷ []) ≡ labelled_names_in fs ++ f.1.names
labelled_names_more [] f = append-nil f.1.names
labelled_names_more (g ∷ fs) f = ap (λ ns. g.1.names ++ ns) (labelled_names_more fs f) ∙ sym (append_assoc g.1.names (labelled_names_in fs) f.1.names)
