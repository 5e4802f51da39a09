-- The outlines of patterns whose parts stand in vectors and boxes.
use Rattle.std.proofs.Common.{◌≡◌, List, [], ◌∷◌, refl, sym, ◌∙◌, ap, Box, Global}
use Rattle.std.specs.Prelude.{Result}
use Rattle.pict_syntax.specs.declared.span.Span.{Span}
use Rattle.pict_syntax.specs.declared.type_tree.TypeBinder.{TypeBinder as RTypeBinder}
use Rattle.pict_syntax.specs.declared.pattern.Pat.{Pat as RPat, Fields}
use Rattle.pict_syntax.specs.declared.pattern.FieldPats.{FieldPats as RFieldPats}
use Rattle.pict_syntax.specs.declared.pattern.LabelledPat.{LabelledPat as RLabelledPat}
use Rattle.pict_syntax.specs.declared.pattern.Pat.TheViews.{out-FieldPats, roll-out-FieldPats}
use Rattle.pict_syntax.specs.Trees.{TypeBinders, no_binders, more_binders, Pats, no_pats, more_pats, LabelledPats, no_labelled_pats, more_labelled_pats, field_pats}
use Rattle.pict_syntax.specs.PlainTrees.{pat_of, field_pats_of, binder_of, binders_on, pats_on, labelled_pats_on}
use Rattle.pict_syntax.proofs.PatternLists.{field_pats_is}
use Rattle.pict_scope.specs.declared.error.ScopeError.{ScopeError}
use Rattle.pict_scope.specs.declared.reader.Reader.{Reader}
use Rattle.pict_scope.specs.Outlines.{◌▸◌, closed, group, pattern_type}
use Rattle.pict_scope.specs.Forms.{in_pat, in_field_pats, in_pats, in_labelled_pats, in_pattern_binders}
use Rattle.pict_scope.specs.Held.{each_on, each, in_pattern_binder_tree, in_pat_tree, in_labelled_pat}
use Rattle.pict_scope.specs.Reads.{IsRead}
use Rattle.pict_scope.proofs.TypeForms.{bound_is, read_as}

binders_each : (bs : TypeBinders) (xs : List RTypeBinder) → each_on in_pattern_binder_tree (in_pattern_binders bs) xs ≡ in_pattern_binders (binders_on bs xs)
unfolding each_on binders_on
binders_each bs [] = refl
binders_each bs (x ∷ xs) =
    ap (λ o. each_on in_pattern_binder_tree (in_pattern_binders bs ▸ pattern_type x.id o) xs) (bound_is x.bound) ∙ binders_each (more_binders bs (binder_of x)) xs

pats_each : (ps : Pats) (xs : List RPat) → each_on in_pat_tree (in_pats ps) xs ≡ in_pats (pats_on ps xs)
unfolding each_on pats_on
pats_each ps [] = refl
pats_each ps (x ∷ xs) = pats_each (more_pats ps (pat_of x)) xs

labelled_each : (ls : LabelledPats) (xs : List RLabelledPat) → each_on in_labelled_pat (in_labelled_pats ls) xs ≡ in_labelled_pats (labelled_pats_on ls xs)
unfolding each_on labelled_pats_on
labelled_each ls [] = refl
labelled_each ls (x ∷ xs) = labelled_each (more_labelled_pats ls x.label (pat_of x.pat)) xs

fields : (bs : List RTypeBinder) (ps : List RPat) (ls : List RLabelledPat) → each in_pattern_binder_tree bs ▸ (each in_pat_tree ps ▸ group (each in_labelled_pat ls)) ≡ in_field_pats (field_pats (binders_on no_binders bs) (pats_on no_pats ps) (labelled_pats_on no_labelled_pats ls))
fields bs ps ls =
    ap (λ o. o ▸ (each in_pat_tree ps ▸ group (each in_labelled_pat ls))) (binders_each no_binders bs)
    ∙ (ap (λ o. in_pattern_binders (binders_on no_binders bs) ▸ (o ▸ group (each in_labelled_pat ls))) (pats_each no_pats ps)
    ∙ ap (λ o. in_pattern_binders (binders_on no_binders bs) ▸ (in_pats (pats_on no_pats ps) ▸ group o)) (labelled_each no_labelled_pats ls))

pub field_pats_are : (f : RFieldPats) → field_pats_of f ≡ field_pats (binders_on no_binders (out-FieldPats f).binders.items) (pats_on no_pats (out-FieldPats f).positional.items) (labelled_pats_on no_labelled_pats (out-FieldPats f).labelled.items)
field_pats_are f = ap field_pats_of (sym (roll-out-FieldPats f)) ∙ field_pats_is (out-FieldPats f).binders (out-FieldPats f).positional (out-FieldPats f).labelled

pub field_pats_read : {T : Type 0} (f : RFieldPats) (xs : List RTypeBinder) (ys : List RPat) (zs : List RLabelledPat) (a b : Reader) (r : Result T ScopeError) → xs ≡ (out-FieldPats f).binders.items → ys ≡ (out-FieldPats f).positional.items → zs ≡ (out-FieldPats f).labelled.items → IsRead (each in_pattern_binder_tree xs ▸ (each in_pat_tree ys ▸ group (each in_labelled_pat zs))) a b r → IsRead (in_field_pats (field_pats_of f)) a b r
field_pats_read f xs ys zs a b r p q u h =
    let g = out-FieldPats f in
    read_as _ _ a b r (ap (λ l. each in_pattern_binder_tree l ▸ (each in_pat_tree ys ▸ group (each in_labelled_pat zs))) p ∙ (ap (λ l. each in_pattern_binder_tree g.binders.items ▸ (each in_pat_tree l ▸ group (each in_labelled_pat zs))) q ∙ (ap (λ l. each in_pattern_binder_tree g.binders.items ▸ (each in_pat_tree g.positional.items ▸ group (each in_labelled_pat l))) u ∙ (fields g.binders.items g.positional.items g.labelled.items ∙ ap in_field_pats (sym (field_pats_are f)))))) h

pub record_pattern_read : {T : Type 0} (t : RPat) (s : Span) (f : Box RFieldPats Global) (g : RFieldPats) (a b : Reader) (r : Result T ScopeError) → t ≡ Fields s f → g ≡ f.value → IsRead (closed (in_field_pats (field_pats_of g))) a b r → IsRead (in_pat (pat_of t)) a b r
unfolding pat_of
record_pattern_read t s f g a b r is p h = read_as _ _ a b r (ap (λ y. closed (in_field_pats (field_pats_of y))) p ∙ ap (λ y. in_pat (pat_of y)) (sym is)) h
