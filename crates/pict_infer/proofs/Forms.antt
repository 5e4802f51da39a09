-- What each form of a pattern stands for, and lists of patterns.
use Rattle.std.proofs.Common.{◌≡◌, ℕ, ◌+◌, ◌<◌, List, [], ◌∷◌, None, ◌++◌, length, take, get_or, refl, sym, ◌∙◌, ap, Box, Global, arith}
use Rattle.pict_syntax.specs.declared.span.Span.{Span}
use Rattle.pict_syntax.specs.declared.id.Id.{Id}
use Rattle.pict_syntax.specs.declared.type_tree.RType.{RType}
use Rattle.pict_syntax.specs.declared.type_tree.TypeBinder.{TypeBinder}
use Rattle.pict_syntax.specs.declared.pattern.Pat.{Pat, Bind, Any, Fields, Fold}
use Rattle.pict_syntax.specs.declared.pattern.Pat.TheViews.{out-FieldPats}
use Rattle.pict_syntax.specs.declared.pattern.FieldPats.{FieldPats}
use Rattle.pict_syntax.specs.declared.pattern.LabelledPat.{LabelledPat}
use Rattle.pict_syntax.specs.Trees as trees
use Rattle.pict_syntax.specs.Trees.{bind_pat, any_pat, fields_pat, fold_pat, field_pats, no_binders, more_binders, no_pats, more_pats, no_labelled_pats, more_labelled_pats}
use Rattle.pict_syntax.specs.PlainTrees.{annotation_of, held_annotation, pat_of, field_pats_of, binder_of, binders_on, pats_on, labelled_pats_on}
use Rattle.pict_syntax.proofs.PatternLists.{pats_more, labelled_pats_more}
use Rattle.pict_syntax.proofs.TypeLists.{binders_more}
use Rattle.pict_types.specs.declared.types.Bound.{Bound}
use Rattle.pict_types.specs.declared.types.Ty.{Ty}
use Rattle.pict_types.specs.Plain.{plain_bounds, plain_types}
use Rattle.pict_types.specs.Types.{count_bounds, count_types}
use Rattle.pict_types.proofs.Congruent.{three}
use Rattle.pict_types.proofs.Rows.{count_bounds_length, count_types_length}
use Rattle.pict_rules.specs.Counts.{count_pats, count_binders}
use Rattle.pict_scope.proofs.PatternForms.{field_pats_are}
use Rattle.pict_scope.proofs.Reading.{taken}

pub bind_is : (p : Pat) (s : Span) (x : Id) (r : RType) → p ≡ Bind s x r → pat_of p ≡ bind_pat s x (annotation_of r)
unfolding pat_of
bind_is p s x r is = ap pat_of is

pub any_is : (p : Pat) (s : Span) (r : RType) → p ≡ Any s r → pat_of p ≡ any_pat s (annotation_of r)
unfolding pat_of
any_is p s r is = ap pat_of is

pub fields_is : (p : Pat) (s : Span) (f : Box FieldPats Global) → p ≡ Fields s f → pat_of p ≡ fields_pat s (field_pats_of f.value)
unfolding pat_of
fields_is p s f is = ap pat_of is

pub fold_is : (p : Pat) (s : Span) (r : RType) (q : Box Pat Global) → p ≡ Fold s r q → pat_of p ≡ fold_pat s (annotation_of r) (pat_of q.value)
unfolding pat_of
fold_is p s r q is = ap pat_of is

-- an annotation that is there, and one that isn't
pub not_annotated : (r : RType) → r.of ≡ None → annotation_of r ≡ None
not_annotated r is = ap held_annotation is

-- the parts of fields, as the code reads them
pub parts_read : (f : FieldPats) (xs : List TypeBinder) (ys : List Pat) (zs : List LabelledPat) → xs ≡ (out-FieldPats f).binders.items → ys ≡ (out-FieldPats f).positional.items → zs ≡ (out-FieldPats f).labelled.items
    → field_pats_of f ≡ field_pats (binders_on no_binders xs) (pats_on no_pats ys) (labelled_pats_on no_labelled_pats zs)
parts_read f xs ys zs p q r =
    field_pats_are f ∙ three (λ (us : List TypeBinder) (vs : List Pat) (ws : List LabelledPat). field_pats (binders_on no_binders us) (pats_on no_pats vs) (labelled_pats_on no_labelled_pats ws)) (sym p) (sym q) (sym r)

pub next_binder : (xs : List TypeBinder) (i : ℕ) (x : TypeBinder) → i < length xs → x ≡ get_or xs i x → binders_on no_binders (take (i + 1) xs) ≡ more_binders (binders_on no_binders (take i xs)) (binder_of x)
next_binder xs i x h is = ap (binders_on no_binders) (taken xs i x h is) ∙ binders_more no_binders (take i xs) x

pub next_pat : (xs : List Pat) (i : ℕ) (x : Pat) → i < length xs → x ≡ get_or xs i x → pats_on no_pats (take (i + 1) xs) ≡ more_pats (pats_on no_pats (take i xs)) (pat_of x)
next_pat xs i x h is = ap (pats_on no_pats) (taken xs i x h is) ∙ pats_more no_pats (take i xs) x

pub next_labelled : (xs : List LabelledPat) (i : ℕ) (x : LabelledPat) → i < length xs → x ≡ get_or xs i x → labelled_pats_on no_labelled_pats (take (i + 1) xs) ≡ more_labelled_pats (labelled_pats_on no_labelled_pats (take i xs)) x.label (pat_of x.pat)
next_labelled xs i x h is = ap (labelled_pats_on no_labelled_pats) (taken xs i x h is) ∙ labelled_pats_more no_labelled_pats (take i xs) x

-- one list after another
pub binders_both : (bs : trees.TypeBinders) (xs ys : List TypeBinder) → binders_on bs (xs ++ ys) ≡ binders_on (binders_on bs xs) ys
unfolding binders_on
binders_both bs [] ys = refl
binders_both bs (x ∷ xs) ys = binders_both (more_binders bs (binder_of x)) xs ys

-- how many
binders_count : (bs : trees.TypeBinders) (xs : List TypeBinder) → count_binders (binders_on bs xs) ≡ count_binders bs + length xs
unfolding binders_on
binders_count bs [] = omega arith
binders_count bs (x ∷ xs) = omega (arith, binders_count (more_binders bs (binder_of x)) xs)

pub count_of_binders : (xs : List TypeBinder) → count_binders (binders_on no_binders xs) ≡ length xs
count_of_binders xs = omega (arith, binders_count no_binders xs)

pats_count : (ps : trees.Pats) (xs : List Pat) → count_pats (pats_on ps xs) ≡ count_pats ps + length xs
unfolding pats_on
pats_count ps [] = omega arith
pats_count ps (x ∷ xs) = omega (arith, pats_count (more_pats ps (pat_of x)) xs)

pub count_of_pats : (xs : List Pat) → count_pats (pats_on no_pats xs) ≡ length xs
count_of_pats xs = omega (arith, pats_count no_pats xs)

-- as many as the fields of a record
pub as_many_binders : (xs : List TypeBinder) (bs : List Bound) → length xs ≡ length bs → count_binders (binders_on no_binders xs) ≡ count_bounds (plain_bounds bs)
as_many_binders xs bs h = count_of_binders xs ∙ h ∙ sym (count_bounds_length bs)

pub as_many_patterns : (xs : List Pat) (ts : List Ty) → length xs ≡ length ts → count_pats (pats_on no_pats xs) ≡ count_types (plain_types ts)
as_many_patterns xs ts h = count_of_pats xs ∙ h ∙ sym (count_types_length ts)
