-- Environments and what stands around: the same names before, and so after patterns and `def`s.
use Rattle.std.proofs.Common.{◌≡◌, ℕ, List, [], ◌∷◌, ◌++◌, refl, sym, ◌∙◌, ap, subst, append_assoc, append-nil}
use Rattle.std.proofs.lemmas.List.{map-append}
use Rattle.pict_syntax.specs.declared.code.Code.{Code}
use Rattle.pict_syntax.specs.declared.code.Code.TheVariants.{S4}
use Rattle.pict_syntax.specs.declared.id.Id.{Id}
use Rattle.pict_syntax.specs.Trees.{TypeBinder, type_binder, TypeBinders, no_binders, more_binders, RType, Pat, bind_pat, any_pat, fields_pat, fold_pat, FieldPats, field_pats, Pats, no_pats, more_pats, LabelledPats, no_labelled_pats, more_labelled_pats, Definitions, no_definitions, more_definitions}
use Rattle.pict_types.specs.Renaming.{moved}
use Rattle.pict_binders.specs.declared.binders.Binder.{Binder}
use Rattle.pict_scope.specs.Around.{Around, with_values}
use Rattle.pict_scope.specs.Outlines.{Outline, empty, ◌▸◌, closed, pattern_value, pattern_type, pattern, group, once, opens}
use Rattle.pict_scope.specs.Forms.{in_annotation, in_pattern_binder, in_pattern_binders, in_pat, in_field_pats, in_pats, in_labelled_pats, defined}
use Rattle.pict_rules.specs.Environments.{Environment, Extension, KnownType, opened, only_types, entries_of, rename_values, extended}
use Rattle.pict_types.specs.Places.{entry_names}
use Rattle.pict_rules.specs.SameNames.{bound_names, HasTypesOf, HasValuesOf}
use Rattle.pict_rules.proofs.BoundIds.{binder_ids, value_ids, field_value_ids, pats_value_ids, labelled_value_ids, type_ids, field_type_ids, pats_type_ids, labelled_type_ids, definition_ids}
use Rattle.pict_rules.proofs.Names.{id_names, binder_names, AddsNames, renamed_names, names_of_both, ids_of_both, each}
use Rattle.pict_rules.proofs.Kept.{same_texts, Keeps, KeepsPattern, keeps_empty, keeps_both, keeps_closed, keeps_once, keeps_annotation, keeps_bound, pattern_keeps_annotation, pattern_keeps_bound}
use Rattle.pict_scope.proofs.ValueForms.{values_more}

further : (vs ws : List Id) (xs : List ℕ) {ys zs : List ℕ} → ys ≡ id_names vs ++ xs → zs ≡ id_names ws ++ ys → zs ≡ id_names (ws ++ vs) ++ xs
further vs ws xs p q =
    q ∙ (ap (λ z. id_names ws ++ z) p ∙ (sym (append_assoc (id_names ws) (id_names vs) xs) ∙ ap (λ z. z ++ xs) (sym (ids_of_both ws vs))))

-- what an outline binds in the pattern that it stands in
pub record InPattern (o : Outline) (vs ts : List Id) : Type 0 where
  pub values : (a : Around) → bound_names (opens o a).pattern_values ≡ id_names vs ++ bound_names a.pattern_values
  pub types_ : (a : Around) → bound_names (opens o a).pattern_types ≡ id_names ts ++ bound_names a.pattern_types

pub binds_none : {o : Outline} → KeepsPattern o → InPattern o [] []
binds_none h = record { values = λ a. ap bound_names (h.values a); types_ = λ a. ap bound_names (h.types_ a) }

pub then_binds : {o p : Outline} (vs ws ts us : List Id) → InPattern o vs ts → InPattern p ws us → InPattern (o ▸ p) (ws ++ vs) (us ++ ts)
unfolding opens
then_binds {o = o} vs ws ts us h k = record { values = λ a. further vs ws _ (h.values a) (k.values (opens o a)); types_ = λ a. further ts us _ (h.types_ a) (k.types_ (opens o a)) }

none_bound : InPattern empty [] []
unfolding opens
none_bound = record { values = λ a. refl; types_ = λ a. refl }

binds_closed : {o : Outline} {vs ts : List Id} → InPattern o vs ts → InPattern (closed o) vs ts
unfolding opens
binds_closed h = record { values = λ a. h.values a; types_ = λ a. h.types_ a }

binds_group : {o : Outline} {vs ts : List Id} → InPattern o vs ts → InPattern (group o) vs ts
unfolding opens
binds_group h = record { values = λ a. h.values _; types_ = λ a. h.types_ _ }

once_binds : {c : Code} {x : Id} → InPattern (once c x) [] []
unfolding opens
once_binds = record { values = λ a. refl; types_ = λ a. refl }

value_binds : (x : Id) → InPattern (pattern_value x) (x ∷ []) []
unfolding opens
value_binds x = record { values = λ a. refl; types_ = λ a. refl }

type_binds : (x : Id) {o : Outline} → KeepsPattern o → InPattern (pattern_type x o) [] (x ∷ [])
unfolding opens
type_binds x h = record { values = λ a. ap bound_names (h.values _); types_ = λ a. ap (λ z. x.name.0 ∷ bound_names z) (h.types_ _) }

binds_binder : (b : TypeBinder) (bs : TypeBinders) {vs : List Id} → InPattern (in_pattern_binders bs) vs (binder_ids bs) → InPattern (in_pattern_binders (more_binders bs b)) vs (binder_ids (more_binders bs b))
binds_binder (type_binder s x k b) bs {vs = vs} h = then_binds vs [] (binder_ids bs) (x ∷ []) h (type_binds x (pattern_keeps_bound b))

binds_binders : (bs : TypeBinders) → InPattern (in_pattern_binders bs) [] (binder_ids bs)
binds_binders no_binders = none_bound
binds_binders (more_binders bs b) = binds_binder b bs (binds_binders bs)

mutual
  pub binds_pat : (p : Pat) → InPattern (in_pat p) (value_ids p) (type_ids p)
  binds_pat (bind_pat s x r) = then_binds (x ∷ []) [] [] [] (value_binds x) (binds_none (pattern_keeps_annotation r))
  binds_pat (any_pat s r) = binds_none (pattern_keeps_annotation r)
  binds_pat (fields_pat s f) = binds_closed (binds_fields f)
  binds_pat (fold_pat s r p) =
      subst (λ vs. InPattern (in_annotation r ▸ in_pat p) vs (type_ids p)) (append-nil (value_ids p))
      (subst (λ ts. InPattern (in_annotation r ▸ in_pat p) (value_ids p ++ []) ts) (append-nil (type_ids p))
      (then_binds [] (value_ids p) [] (type_ids p) (binds_none (pattern_keeps_annotation r)) (binds_pat p)))

  pub binds_fields : (f : FieldPats) → InPattern (in_field_pats f) (field_value_ids f) (field_type_ids f)
  binds_fields (field_pats bs ps ls) =
      let parts : InPattern (in_pats ps ▸ group (in_labelled_pats ls)) (labelled_value_ids ls ++ pats_value_ids ps) (labelled_type_ids ls ++ pats_type_ids ps) = then_binds (pats_value_ids ps) (labelled_value_ids ls) (pats_type_ids ps) (labelled_type_ids ls) (binds_pats ps) (binds_group (binds_labelled ls)) in
      subst (λ vs. InPattern (in_field_pats (field_pats bs ps ls)) vs (field_type_ids (field_pats bs ps ls))) (append-nil (labelled_value_ids ls ++ pats_value_ids ps))
      (subst (λ ts. InPattern (in_field_pats (field_pats bs ps ls)) ((labelled_value_ids ls ++ pats_value_ids ps) ++ []) ts) (append_assoc (labelled_type_ids ls) (pats_type_ids ps) (binder_ids bs))
      (then_binds [] (labelled_value_ids ls ++ pats_value_ids ps) (binder_ids bs) (labelled_type_ids ls ++ pats_type_ids ps) (binds_binders bs) parts))

  binds_pats : (ps : Pats) → InPattern (in_pats ps) (pats_value_ids ps) (pats_type_ids ps)
  binds_pats no_pats = none_bound
  binds_pats (more_pats ps p) = then_binds (pats_value_ids ps) (value_ids p) (pats_type_ids ps) (type_ids p) (binds_pats ps) (binds_pat p)

  binds_labelled : (ls : LabelledPats) → InPattern (in_labelled_pats ls) (labelled_value_ids ls) (labelled_type_ids ls)
  binds_labelled no_labelled_pats = none_bound
  binds_labelled (more_labelled_pats ls l p) =
      let one : InPattern (once S4 l ▸ in_pat p) (value_ids p ++ []) (type_ids p ++ []) = then_binds [] (value_ids p) [] (type_ids p) once_binds (binds_pat p) in
      let same : InPattern (once S4 l ▸ in_pat p) (value_ids p) (type_ids p) = subst (λ vs. InPattern (once S4 l ▸ in_pat p) vs (type_ids p)) (append-nil (value_ids p)) (subst (λ ts. InPattern (once S4 l ▸ in_pat p) (value_ids p ++ []) ts) (append-nil (type_ids p)) one) in
      then_binds (labelled_value_ids ls) (value_ids p) (labelled_type_ids ls) (type_ids p) (binds_labelled ls) same

-- patterns bind nothing at their own place but type binders
keeps_pattern_value : {x : Id} → Keeps (pattern_value x)
unfolding opens
keeps_pattern_value = record { values = λ a. refl; types_ = λ a. refl }

mutual
  pub keeps_pat : (p : Pat) → Keeps (in_pat p)
  keeps_pat (bind_pat s x r) = keeps_both keeps_pattern_value (keeps_annotation r)
  keeps_pat (any_pat s r) = keeps_annotation r
  keeps_pat (fields_pat s f) = keeps_closed _
  keeps_pat (fold_pat s r p) = keeps_both (keeps_annotation r) (keeps_pat p)

pub keeps_pats : (ps : Pats) → Keeps (in_pats ps)
keeps_pats no_pats = keeps_empty
keeps_pats (more_pats ps p) = keeps_both (keeps_pats ps) (keeps_pat p)

pub keeps_labelled_pats : (ls : LabelledPats) → Keeps (in_labelled_pats ls)
keeps_labelled_pats no_labelled_pats = keeps_empty
keeps_labelled_pats (more_labelled_pats ls l p) = keeps_both (keeps_labelled_pats ls) (keeps_both keeps_once (keeps_pat p))

-- from one place to another within it, these values and types are bound
pub record GoesTo (a b : Around) (vs ts : List Id) : Type 0 where
  pub texts : b.texts ≡ a.texts
  pub values : bound_names b.values ≡ id_names vs ++ bound_names a.values
  pub types_ : bound_names b.types_ ≡ id_names ts ++ bound_names a.types_

pub stays : (o : Outline) (a : Around) → Keeps o → GoesTo a (opens o a) [] []
stays o a h = record { texts = same_texts o a; values = ap bound_names (h.values a); types_ = ap bound_names (h.types_ a) }

binder_bound : (b : TypeBinder) (a : Around) → bound_names (opens (in_pattern_binder b) a).types_ ≡ id_names (binder_ids (more_binders no_binders b)) ++ bound_names a.types_
unfolding opens
binder_bound (type_binder s x k b) a = ap (λ z. x.name.0 ∷ bound_names z) ((keeps_bound b).types_ _)

binder_values : (b : TypeBinder) (a : Around) → bound_names (opens (in_pattern_binder b) a).values ≡ bound_names a.values
unfolding opens
binder_values (type_binder s x k b) a = ap bound_names ((keeps_bound b).values _)

more_ids : (bs : TypeBinders) (b : TypeBinder) (xs : List ℕ) → id_names (binder_ids (more_binders no_binders b)) ++ (id_names (binder_ids bs) ++ xs) ≡ id_names (binder_ids (more_binders bs b)) ++ xs
more_ids bs (type_binder s x k b) xs = refl

pub past_binders : (bs : TypeBinders) (a : Around) → GoesTo a (opens (in_pattern_binders bs) a) [] (binder_ids bs)
unfolding opens
past_binders no_binders a = record { texts = refl; values = refl; types_ = refl }
past_binders (more_binders bs b) a =
    let h = past_binders bs a in
    let inner = opens (in_pattern_binders bs) a in
    record {
      texts = same_texts (in_pattern_binder b) inner ∙ h.texts;
      values = binder_values b inner ∙ h.values;
      types_ = binder_bound b inner ∙ (ap (λ z. id_names (binder_ids (more_binders no_binders b)) ++ z) h.types_ ∙ more_ids bs b (bound_names a.types_));
    }

-- behind a pattern, and what stands behind it out of its scope
bound_both : (xs ys : List Binder) → bound_names (xs ++ ys) ≡ bound_names xs ++ bound_names ys
bound_both xs ys = map-append _ xs ys

pub past_pattern : {o p : Outline} (a : Around) (vs ts : List Id) → InPattern o vs ts → Keeps p → GoesTo a (opens (pattern o p) a) vs ts
unfolding opens
past_pattern {o = o} {p = p} a vs ts h k = record {
  texts = same_texts (pattern o p) a;
  values = bound_both _ _ ∙ each (h.values _ ∙ append-nil (id_names vs)) (ap bound_names (k.values _));
  types_ = bound_both _ _ ∙ each (h.types_ _ ∙ append-nil (id_names ts)) (ap bound_names (k.types_ _));
}

pub past_pat : (a : Around) (p : Pat) {q : Outline} → Keeps q → GoesTo a (opens (pattern (in_pat p) q) a) (value_ids p) (type_ids p)
past_pat a p k = past_pattern a (value_ids p) (type_ids p) (binds_pat p) k

pub past_fields : (a : Around) (f : FieldPats) (r : RType) → GoesTo a (opens (pattern (in_field_pats f ▸ in_annotation r) empty) a) (field_value_ids f) (field_type_ids f)
past_fields a f r = past_pattern a (field_value_ids f) (field_type_ids f) (then_binds (field_value_ids f) [] (field_type_ids f) [] (binds_fields f) (binds_none (pattern_keeps_annotation r))) keeps_empty

-- the names of a `def`
pub past_definitions : (a : Around) (ds : Definitions) → GoesTo a (with_values (defined ds) a) (definition_ids ds) []
past_definitions a no_definitions = record { texts = refl; values = refl; types_ = refl }
past_definitions a (more_definitions ds x f) =
    let h = past_definitions a ds in
    let e = values_more (defined ds) x a in
    record {
      texts = ap (λ b. b.texts) e ∙ h.texts;
      values = ap (λ b. bound_names b.values) e ∙ ap (λ z. x.name.0 ∷ z) h.values;
      types_ = ap (λ b. bound_names b.types_) e ∙ h.types_;
    }

-- an environment that has the names around, within an extension that has those that are bound
entry_names_of : (bs : List KnownType) → entry_names (entries_of bs) ≡ binder_names bs
entry_names_of [] = refl
entry_names_of (b ∷ bs) = ap (λ z. b.name ∷ z) (entry_names_of bs)

pub types_within : {e : Environment} {x : Extension} {a b : Around} {vs ts : List Id} → HasTypesOf e a → AddsNames x vs ts → GoesTo a b vs ts → HasTypesOf (extended e x) b
types_within {e = e} {x = x} h k g = record {
  texts = h.texts ∙ sym g.texts;
  same = map-append _ (entries_of x.binders) e.context ∙ (each (entry_names_of x.binders ∙ k.types_) h.same ∙ sym g.types_);
}

pub values_within : {e : Environment} {x : Extension} {a b : Around} {vs ts : List Id} → HasValuesOf e a → AddsNames x vs ts → GoesTo a b vs ts → HasValuesOf (extended e x) b
values_within {e = e} {x = x} h k g = record { same = names_of_both x.values (rename_values (moved (opened x) 0) e.values) ∙ (each k.values (renamed_names _ e.values ∙ h.same) ∙ sym g.values) }

-- and where nothing is bound in between
pub types_still : {e : Environment} {a b : Around} → HasTypesOf e a → GoesTo a b [] [] → HasTypesOf e b
types_still h g = record { texts = h.texts ∙ sym g.texts; same = h.same ∙ sym g.types_ }

pub values_still : {e : Environment} {a b : Around} → HasValuesOf e a → GoesTo a b [] [] → HasValuesOf e b
values_still h g = record { same = h.same ∙ sym g.values }

pub own_adds : (bs : TypeBinders) {own : List KnownType} → binder_names own ≡ id_names (binder_ids bs) → AddsNames (only_types own) [] (binder_ids bs)
own_adds bs h = record { values = refl; types_ = h }
