-- What patterns and declarations bind, by the rules and by the scopes.
use Rattle.std.proofs.Common.{◌≡◌, ℕ, List, [], ◌∷◌, ◌++◌, map, Some, None, refl, sym, ◌∙◌, ap, subst, append_assoc}
use Rattle.std.proofs.lemmas.List.{map-append}
use Rattle.pict_syntax.specs.declared.id.Id.{Id}
use Rattle.pict_syntax.specs.declared.span.Span.{Span}
use Rattle.pict_syntax.specs.Trees.{TypeBinder, type_binder, TypeBinders, no_binders, more_binders, Pat, bind_pat, any_pat, fields_pat, fold_pat, FieldPats, field_pats, Pats, no_pats, more_pats, LabelledPats, no_labelled_pats, more_labelled_pats}
use Rattle.pict_types.specs.Types.{PlainType, PlainTypes, PlainLabels, PlainBound, PlainBounds, type_at}
use Rattle.pict_types.specs.Renaming.{moved}
use Rattle.pict_normal.specs.Normal.{normal}
use Rattle.pict_sub.specs.Exposing.{exposure}
use Rattle.pict_rules.specs.Shapes.{written_bound, nth_bound}
use Rattle.pict_rules.specs.Counts.{count_binders}
use Rattle.pict_rules.specs.Environments.{Environment, Extension, KnownType, KnownValue, context_of, opened, no_extension, one_value, rename_values, moved_binders, joined_extensions, within}
use Rattle.pict_rules.specs.Rules.{Sort, Rule, Result, extension_, pattern_, fields_, binders_, patterns_, labelled_patterns_, opened_, TypedPattern, pattern_gives, fields_give, binders_give, patterns_give, labelled_patterns_give, pattern_against, fields_against, binders_against, patterns_against, labelled_patterns_against}
use Rattle.pict_rules.specs.Clauses.{with_own, binder_name, own_bound}
use Rattle.pict_rules.specs.Typing.{rule}
use Rattle.pict_rules.specs.SameNames.{value_names}
use Rattle.pict_rules.proofs.BoundIds.{binder_ids, value_ids, field_value_ids, pats_value_ids, labelled_value_ids, type_ids, field_type_ids, pats_type_ids, labelled_type_ids}
use Rattle.pict_rules.proofs.Results.{Each, any_asked, IsResult, result_has, gives_, refuses, needs, parts, ensures, unless, in_records, in_recursives, same_bounds, at_labels}

abbrev pub id_names : List Id → List ℕ
id_names xs = map (λ x. x.name.0) xs

abbrev pub binder_names : List KnownType → List ℕ
binder_names bs = map (λ b. b.name) bs

-- an extension has these names of values and of types
pub record AddsNames (x : Extension) (vs ts : List Id) : Type 0 where
  pub values : value_names x.values ≡ id_names vs
  pub types_ : binder_names x.binders ≡ id_names ts

abbrev OwnNames : TypeBinders → List KnownType → Type 0
OwnNames bs own = binder_names own ≡ id_names (binder_ids bs)

-- renaming keeps names
pub renamed_names : (f : ℕ → ℕ) (vs : List KnownValue) → value_names (rename_values f vs) ≡ value_names vs
renamed_names f [] = refl
renamed_names f (v ∷ vs) = ap (λ ns. v.name ∷ ns) (renamed_names f vs)

moved_names : (k : ℕ) (bs : List KnownType) → binder_names (moved_binders k bs) ≡ binder_names bs
moved_names k [] = refl
moved_names k (b ∷ bs) = ap (λ ns. b.name ∷ ns) (moved_names k bs)

pub names_of_both : (xs ys : List KnownValue) → value_names (xs ++ ys) ≡ value_names xs ++ value_names ys
names_of_both xs ys = map-append _ xs ys

binders_of_both : (xs ys : List KnownType) → binder_names (xs ++ ys) ≡ binder_names xs ++ binder_names ys
binders_of_both xs ys = map-append _ xs ys

pub ids_of_both : (xs ys : List Id) → id_names (xs ++ ys) ≡ id_names xs ++ id_names ys
ids_of_both xs ys = map-append _ xs ys

abbrev pub each : {a b c d : List ℕ} → a ≡ c → b ≡ d → a ++ b ≡ c ++ d
each {b = b} {c = c} p q = ap (λ z. z ++ b) p ∙ ap (λ z. c ++ z) q

pub joined_names : {x y : Extension} {vs ts ws us : List Id} → AddsNames x vs ts → AddsNames y ws us → AddsNames (joined_extensions x y) (ws ++ vs) (us ++ ts)
joined_names {x = x} {y = y} {vs = vs} {ts = ts} {ws = ws} {us = us} h k = record {
  values = names_of_both (rename_values (moved (opened x) (opened y)) y.values) (rename_values (moved (opened y) 0) x.values) ∙ (each (renamed_names _ y.values ∙ k.values) (renamed_names _ x.values ∙ h.values) ∙ sym (ids_of_both ws vs));
  types_ = binders_of_both (moved_binders (opened x) y.binders) x.binders ∙ (each (moved_names _ y.binders ∙ k.types_) h.types_ ∙ sym (ids_of_both us ts));
}

pub within_names : (bs : TypeBinders) (own : List KnownType) {x : Extension} {vs ts : List Id} → OwnNames bs own → AddsNames x vs ts → AddsNames (within own x) vs (ts ++ binder_ids bs)
within_names bs own {x = x} {ts = ts} h k = record {
  values = k.values;
  types_ = binders_of_both x.binders own ∙ (each k.types_ h ∙ sym (ids_of_both ts (binder_ids bs)));
}

-- the results
abbrev field_binder_ids : FieldPats → List Id
field_binder_ids (field_pats bs ps ls) = binder_ids bs

pub record FieldNames (f : FieldPats) (own : List KnownType) (x : Extension) : Type 0 where
  pub own_ : binder_names own ≡ id_names (field_binder_ids f)
  pub adds_ : AddsNames (within own x) (field_value_ids f) (field_type_ids f)

fields_within : (bs : TypeBinders) (own : List KnownType) (x : Extension) (vs us ts : List Id) → OwnNames bs own → AddsNames x vs (us ++ ts) → AddsNames (within own x) vs (us ++ (ts ++ binder_ids bs))
fields_within bs own x vs us ts h k = subst (λ ids. AddsNames (within own x) vs ids) (append_assoc us ts (binder_ids bs)) (within_names bs own h k)

abbrev pub Gives : (s : Sort) → (Result s → Type 0) → Rule s → Type 0
Gives s P r = Each any_asked IsResult s P r

abbrev PatternNames : Pat → TypedPattern → Type 0
PatternNames p g = AddsNames g.adds (value_ids p) (type_ids p)

abbrev AddedNames : Pat → Extension → Type 0
AddedNames p x = AddsNames x (value_ids p) (type_ids p)

abbrev PatsNames : Pats → Extension → Type 0
PatsNames ps x = AddsNames x (pats_value_ids ps) (pats_type_ids ps)

abbrev LabelledNames : LabelledPats → Extension → Type 0
LabelledNames ls x = AddsNames x (labelled_value_ids ls) (labelled_type_ids ls)

binder_named : (bs : TypeBinders) (b : TypeBinder) (own : List KnownType) (d : PlainBound) → OwnNames bs own → OwnNames (more_binders bs b) (record { name = binder_name b; bound = d } ∷ own)
binder_named bs (type_binder s x k b) own d h = ap (λ ns. x.name.0 ∷ ns) h

pub binders_named : (e : Environment) (bs : TypeBinders) → Gives binders_ (OwnNames bs) (rule e (binders_give bs))
binders_named e no_binders = gives_ refl
binders_named e (more_binders bs b) = parts tt (λ own h. unless _ (gives_ (binder_named bs b own (own_bound (with_own e own) b) (result_has (binders_named e bs) h))))

pub binders_against_named : (e : Environment) (bs : TypeBinders) (rs : PlainBounds) → Gives binders_ (OwnNames bs) (rule e (binders_against bs rs))
binders_against_named e no_binders rs = gives_ refl
binders_against_named e (more_binders bs b) rs = parts tt (λ own h.
    unless _ (ensures _ _ _ (same_bounds (with_own e own) (written_bound b) _ _ _ (gives_ (binder_named bs b own (nth_bound (count_binders bs) rs) (result_has (binders_against_named e bs rs) h))))))

none_named : AddsNames no_extension [] []
none_named = record { values = refl; types_ = refl }

pub one_named : (x : Id) (t : PlainType) → AddsNames (one_value x t) (x ∷ []) []
one_named x t = record { values = refl; types_ = refl }

fields_joined : (bs : TypeBinders) (ps : Pats) (ls : LabelledPats) (own : List KnownType) (x y : Extension) → OwnNames bs own → PatsNames ps x → LabelledNames ls y → FieldNames (field_pats bs ps ls) own (joined_extensions x y)
fields_joined bs ps ls own x y h k l = record { own_ = h; adds_ = fields_within bs own (joined_extensions x y) _ (labelled_type_ids ls) (pats_type_ids ps) h (joined_names k l) }

mutual
  pub pattern_named : (e : Environment) (p : Pat) → Gives pattern_ (PatternNames p) (rule e (pattern_gives p))
  pattern_named e (bind_pat s x None) = refuses
  pattern_named e (bind_pat s x (Some a)) = unless _ (gives_ (one_named x _))
  pattern_named e (any_pat s None) = refuses
  pattern_named e (any_pat s (Some a)) = unless _ (gives_ none_named)
  pattern_named e (fields_pat s f) = parts tt (λ g h. unless _ (gives_ (result_has (fields_named e f) h).adds_))
  pattern_named e (fold_pat s None p) = refuses
  pattern_named e (fold_pat s (Some a) p) =
      unless _ (in_recursives (normal e.names e.context a) _ _ (λ u. unless _ (parts tt (λ x h. gives_ (result_has (against_named e p u) h)))))

  pub fields_named : (e : Environment) (f : FieldPats) → Gives fields_ (λ g. FieldNames f g.own g.adds) (rule e (fields_give f))
  fields_named e (field_pats bs ps ls) = parts tt (λ own h. parts tt (λ g k. parts tt (λ i l.
      gives_ (fields_joined bs ps ls own g.adds i.adds (result_has (binders_named e bs) h) (result_has (patterns_named (with_own e own) ps) k) (result_has (labels_named (with_own e own) ls) l)))))

  patterns_named : (e : Environment) (ps : Pats) → Gives patterns_ (λ g. PatsNames ps g.adds) (rule e (patterns_give ps))
  patterns_named e no_pats = gives_ none_named
  patterns_named e (more_pats ps p) = parts tt (λ g h. parts tt (λ i k. gives_ (joined_names (result_has (patterns_named e ps) h) (result_has (pattern_named e p) k))))

  labels_named : (e : Environment) (ls : LabelledPats) → Gives labelled_patterns_ (λ g. LabelledNames ls g.adds) (rule e (labelled_patterns_give ls))
  labels_named e no_labelled_pats = gives_ none_named
  labels_named e (more_labelled_pats ls l p) = parts tt (λ g h. parts tt (λ i k. gives_ (joined_names (result_has (labels_named e ls) h) (result_has (pattern_named e p) k))))

  pub against_named : (e : Environment) (p : Pat) (t : PlainType) → Gives extension_ (AddedNames p) (rule e (pattern_against p t))
  against_named e (bind_pat s x None) t = gives_ (one_named x t)
  against_named e (bind_pat s x (Some a)) t = unless _ (needs (gives_ (one_named x _)))
  against_named e (any_pat s None) t = gives_ none_named
  against_named e (any_pat s (Some a)) t = unless _ (needs (gives_ none_named))
  against_named e (fields_pat s f) t =
      in_records (exposure (context_of e) t) (λ bs ps ls. parts tt (λ x h. gives_ (result_has (fields_against_named e s f bs ps ls) h).adds_)) refuses
  against_named e (fold_pat s None p) t =
      in_recursives (exposure (context_of e) t) _ _ (λ u. unless _ (parts tt (λ x h. gives_ (result_has (against_named e p u) h))))
  against_named e (fold_pat s (Some a) p) t =
      unless _ (in_recursives (normal e.names e.context a) _ _ (λ u. needs (unless _ (parts tt (λ x h. gives_ (result_has (against_named e p u) h))))))

  pub fields_against_named : (e : Environment) (s : Span) (f : FieldPats) (rs : PlainBounds) (ts : PlainTypes) (ms : PlainLabels) → Gives opened_ (λ x. FieldNames f x.own x.adds) (rule e (fields_against s f rs ts ms))
  fields_against_named e s (field_pats bs ps ls) rs ts ms =
      ensures _ _ _ (ensures _ _ _ (parts tt (λ own h. parts tt (λ x k. parts tt (λ y l.
      gives_ (fields_joined bs ps ls own x y (result_has (binders_against_named e bs rs) h) (result_has (patterns_against_named (with_own e own) ps ts) k) (result_has (labels_against_named (with_own e own) ls ms) l)))))))

  patterns_against_named : (e : Environment) (ps : Pats) (ts : PlainTypes) → Gives extension_ (PatsNames ps) (rule e (patterns_against ps ts))
  patterns_against_named e no_pats ts = gives_ none_named
  patterns_against_named e (more_pats ps p) ts = parts tt (λ x h. parts tt (λ y k. gives_ (joined_names (result_has (patterns_against_named e ps ts) h) (result_has (against_named e p _) k))))

  labels_against_named : (e : Environment) (ls : LabelledPats) (ms : PlainLabels) → Gives extension_ (LabelledNames ls) (rule e (labelled_patterns_against ls ms))
  labels_against_named e no_labelled_pats ms = gives_ none_named
  labels_against_named e (more_labelled_pats ls l p) ms = parts tt (λ x h.
      at_labels (type_at l.name.0 ms) (λ t. parts tt (λ y k. gives_ (joined_names (result_has (labels_against_named e ls ms) h) (result_has (against_named e p t) k)))) refuses)
