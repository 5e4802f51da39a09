-- The outlines of written types whose parts stand in vectors and boxes.
use Rattle.std.proofs.Common.{◌≡◌, List, [], ◌∷◌, Some, None, refl, sym, ◌∙◌, ap, subst, Box, Global}
use Rattle.std.specs.Prelude.{Vec, Option, Result}
use Rattle.pict_syntax.specs.declared.code.Code.TheVariants.{S3}
use Rattle.pict_syntax.specs.declared.span.Span.{Span}
use Rattle.pict_syntax.specs.declared.id.Id.{Id}
use Rattle.pict_syntax.specs.declared.type_tree.TypeTree.{TypeTree as RTypeTree, Fields, Apply, Rec}
use Rattle.pict_syntax.specs.declared.type_tree.TypeBinder.{TypeBinder as RTypeBinder}
use Rattle.pict_syntax.specs.declared.type_tree.LabelledType.{LabelledType as RLabelledType}
use Rattle.pict_syntax.specs.Trees.{TypeTrees, no_types, more_types, TypeBinders, no_binders, more_binders, LabelledTypes, no_labelled_types, more_labelled_types}
use Rattle.pict_syntax.specs.PlainTrees.{type_of, binder_of, held_bound, held_annotation, types_on, binders_on, labelled_types_on}
use Rattle.pict_syntax.proofs.TypeLists.{fields_type_is, apply_type_is}
use Rattle.pict_scope.specs.declared.error.ScopeError.{ScopeError}
use Rattle.pict_scope.specs.declared.reader.Reader.{Reader}
use Rattle.pict_scope.specs.Outlines.{Outline, empty, ◌▸◌, closed, group, once, binds_type, type_use}
use Rattle.pict_scope.specs.Forms.{in_type, in_types, in_binders, in_labelled_types, in_bound, in_annotation}
use Rattle.pict_scope.specs.Held.{each_on, each, in_held, in_type_tree, in_binder_tree, in_labelled_type}
use Rattle.pict_scope.specs.Reads.{IsRead}

pub read_as : {T : Type 0} (o p : Outline) (a b : Reader) (r : Result T ScopeError) → o ≡ p → IsRead o a b r → IsRead p a b r
read_as o p a b r is h = subst (λ q. IsRead q a b r) is h

pub bound_is : (h : Option (Box RTypeTree Global)) → in_held h ≡ in_bound (held_bound h)
bound_is None = refl
bound_is (Some t) = refl

pub annotation_is : (h : Option (Box RTypeTree Global)) → in_held h ≡ in_annotation (held_annotation h)
annotation_is None = refl
annotation_is (Some t) = refl

types_each : (ts : TypeTrees) (xs : List RTypeTree) → each_on in_type_tree (in_types ts) xs ≡ in_types (types_on ts xs)
unfolding each_on types_on
types_each ts [] = refl
types_each ts (x ∷ xs) = types_each (more_types ts (type_of x)) xs

binders_each : (bs : TypeBinders) (xs : List RTypeBinder) → each_on in_binder_tree (in_binders bs) xs ≡ in_binders (binders_on bs xs)
unfolding each_on binders_on
binders_each bs [] = refl
binders_each bs (x ∷ xs) =
    ap (λ o. each_on in_binder_tree (in_binders bs ▸ (once S3 x.id ▸ binds_type x.id o)) xs) (bound_is x.bound) ∙ binders_each (more_binders bs (binder_of x)) xs

labelled_each : (ls : LabelledTypes) (xs : List RLabelledType) → each_on in_labelled_type (in_labelled_types ls) xs ≡ in_labelled_types (labelled_types_on ls xs)
unfolding each_on labelled_types_on
labelled_each ls [] = refl
labelled_each ls (x ∷ xs) = labelled_each (more_labelled_types ls x.label (type_of x.of)) xs

pub all_types : (xs : List RTypeTree) → each in_type_tree xs ≡ in_types (types_on no_types xs)
all_types xs = types_each no_types xs

record_type : (s : Span) (bs : Vec RTypeBinder Global) (ts : Vec RTypeTree Global) (ls : Vec RLabelledType Global) → closed (group (each in_binder_tree bs.items) ▸ (each in_type_tree ts.items ▸ group (each in_labelled_type ls.items))) ≡ in_type (type_of (Fields s bs ts ls))
record_type s bs ts ls =
    ap (λ o. closed (group o ▸ (each in_type_tree ts.items ▸ group (each in_labelled_type ls.items)))) (binders_each no_binders bs.items)
    ∙ (ap (λ o. closed (group (in_binders (binders_on no_binders bs.items)) ▸ (o ▸ group (each in_labelled_type ls.items)))) (types_each no_types ts.items)
    ∙ (ap (λ o. closed (group (in_binders (binders_on no_binders bs.items)) ▸ (in_types (types_on no_types ts.items) ▸ group o))) (labelled_each no_labelled_types ls.items)
    ∙ ap in_type (sym (fields_type_is s bs ts ls))))

pub record_type_read : {T : Type 0} (t : RTypeTree) (s : Span) (bs : Vec RTypeBinder Global) (ts : Vec RTypeTree Global) (ls : Vec RLabelledType Global) (xs : List RTypeBinder) (ys : List RTypeTree) (zs : List RLabelledType) (a b : Reader) (r : Result T ScopeError) → t ≡ Fields s bs ts ls → xs ≡ bs.items → ys ≡ ts.items → zs ≡ ls.items → IsRead (closed (group (each in_binder_tree xs) ▸ (each in_type_tree ys ▸ group (each in_labelled_type zs)))) a b r → IsRead (in_type (type_of t)) a b r
record_type_read t s bs ts ls xs ys zs a b r is p q u h =
    read_as _ _ a b r (ap (λ l. closed (group (each in_binder_tree l) ▸ (each in_type_tree ys ▸ group (each in_labelled_type zs)))) p ∙ (ap (λ l. closed (group (each in_binder_tree bs.items) ▸ (each in_type_tree l ▸ group (each in_labelled_type zs)))) q ∙ (ap (λ l. closed (group (each in_binder_tree bs.items) ▸ (each in_type_tree ts.items ▸ group (each in_labelled_type l)))) u ∙ (record_type s bs ts ls ∙ ap (λ x. in_type (type_of x)) (sym is))))) h

pub applied_type_read : {T : Type 0} (t : RTypeTree) (s : Span) (x : Id) (ts : Vec RTypeTree Global) (ys : List RTypeTree) (a b : Reader) (r : Result T ScopeError) → t ≡ Apply s x ts → ys ≡ ts.items → IsRead (type_use x.span x.name.0 ▸ each in_type_tree ys) a b r → IsRead (in_type (type_of t)) a b r
applied_type_read t s x ts ys a b r is p h =
    read_as _ _ a b r (ap (λ l. type_use x.span x.name.0 ▸ each in_type_tree l) p ∙ (ap (λ o. type_use x.span x.name.0 ▸ o) (types_each no_types ts.items) ∙ (ap in_type (sym (apply_type_is s x ts)) ∙ ap (λ y. in_type (type_of y)) (sym is)))) h

pub rec_type_read : {T : Type 0} (t : RTypeTree) (s : Span) (x : Id) (u : Box RTypeTree Global) (v : RTypeTree) (a b : Reader) (r : Result T ScopeError) → t ≡ Rec s x u → v ≡ u.value → IsRead (closed (binds_type x empty ▸ in_type (type_of v))) a b r → IsRead (in_type (type_of t)) a b r
unfolding type_of
rec_type_read t s x u v a b r is p h = read_as _ _ a b r (ap (λ y. closed (binds_type x empty ▸ in_type (type_of y))) p ∙ ap (λ y. in_type (type_of y)) (sym is)) h

pub ruleset type_forms = (bound_is, annotation_is, record_type_read, applied_type_read)
