-- Each judgement that a rule asks is of a part that the scopes read among the same names.
use Rattle.std.proofs.Common.{◌≡◌, ℕ, List, [], ◌∷◌, ◌++◌, map, not, ◌||◌, nat_eq, Option, Some, None, refl, sym, ◌∙◌, ap₂, subst, append-nil, inl, inr}
use Rattle.pict_syntax.specs.Names.{text_of}
use Rattle.pict_syntax.specs.declared.id.Id.{Id}
use Rattle.pict_syntax.specs.declared.span.Span.{Span}
use Rattle.pict_syntax.specs.declared.code.Code.{Code}
use Rattle.pict_syntax.specs.declared.code.Code.TheVariants.{K1, K5, Y5, Y6, Y9, Y10, Y14}
use Rattle.pict_syntax.specs.Trees.{RType, TypeTrees, no_types, more_types, TypeBinders, no_binders, more_binders, Pat, bind_pat, any_pat, fields_pat, fold_pat, FieldPats, field_pats, Pats, no_pats, more_pats, LabelledPats, no_labelled_pats, more_labelled_pats, Dec, new_dec, run_dec, let_dec, def_dec, alias_dec, operator_dec, await_dec, Decs, no_decs, more_decs, Definitions, no_definitions, more_definitions, Abs, process_abs, function_abs, Chan, use_chan, fold_chan, block_chan, apply_chan, right_chan, left_chan, Val, of_chan, number_val, character_val, string_val, true_val, false_val, fields_val, if_val, lambda_val, Vals, no_vals, more_vals, FieldVals, field_vals, LabelledVals, no_labelled_vals, more_labelled_vals, Proc, send_proc, receive_proc, serve_proc, if_proc, inert_proc, group_proc, Procs, no_procs, more_procs}
use Rattle.pict_types.specs.AsMarked.{varies_as}
use Rattle.pict_types.specs.Types.{Chan as Chan_, Respond, PlainType, PlainTypes, PlainLabels, PlainBounds, type_at, count_types, count_bounds}
use Rattle.pict_types.specs.Replacing.{instance_of}
use Rattle.pict_normal.specs.Normal.{normal, kind_stop, size_stop, count_trees}
use Rattle.pict_sub.specs.Exposing.{exposure}
use Rattle.pict_rules.specs.Found.{Found, mentions_missing, all_found, filled, argument_in, none_found, with_found}
use Rattle.pict_syntax.specs.Grammar.{type_span, val_span}
use Rattle.pict_rules.specs.Counts.{count_vals, count_pats}
use Rattle.pict_normal.specs.WrittenArguments.{arg_stop, normal_arg}
use Rattle.pict_rules.specs.Shapes.{all_written, none_written, nth_bound, nth_type, applicable, written_bound, vals_onto, applied_to, right_nested, left_nested, from_first}
use Rattle.pict_binders.specs.Numbered.{nearest}
use Rattle.pict_scope.specs.Around.{Around, or_primitive}
use Rattle.pict_scope.specs.Marks.{Mark, value_used}
use Rattle.pict_scope.specs.Outlines.{Outline, empty, ◌▸◌, closed, value_use, pattern, group, opens, marks}
use Rattle.pict_scope.specs.Forms.{in_dec, in_types, in_pattern_binders, in_pat, in_pats, in_labelled_pats, in_labelled_vals, in_field_vals, in_field_pats, in_annotation, in_val, in_vals, in_chan, in_abs, in_decs, in_definitions, in_proc, in_procs}
use Rattle.pict_rules.specs.Environments.{Environment, Extension, KnownType, context_of, opened, opened_since, extended, shifted_by}
use Rattle.pict_rules.specs.Complete.{is_complete}
use Rattle.pict_rules.specs.Rules.{Sort, nothing_, type_, types_, labels_, arguments_, found_, environment_, extension_, pattern_, patterns_, labelled_patterns_, binders_, fields_, opened_, signatures_, signature_, Judgement, gives, has, is_condition, values_give, labelled_values_give, application, fields_fit, written_arguments, values_fit, labelled_values_fit, value_fits, given_fits, abstraction_gives, abstraction_against, pattern_gives, fields_give, binders_give, patterns_give, labelled_patterns_give, pattern_against, fields_against, binders_against, patterns_against, labelled_patterns_against, declaration, declarations, signatures, signature, bodies, body, process, processes, receives, Signature, Body, process_body, value_body, Rule, ok}
use Rattle.pict_rules.specs.Derivations.{Runs}
use Rattle.pict_rules.specs.Clauses.{with_signatures, gives_below, in_order, found_first, is_of_kind, with_own, with_fields, argument_type, answering, empty_record}
use Rattle.pict_rules.specs.Typing.{rule}
use Rattle.pict_rules.specs.SameNames.{HasTypesOf, HasValuesOf, KnowsValues, outline_of, StandsIn, EachMark, IsReadAs, BodiesAreRead, IsRead}
use Rattle.pict_rules.proofs.Results.{Each, IsResult, any_given, result_has, gives_, refuses, needs, chooses, parts, splits, ensures, unless, in_records, in_recursives, in_channels, in_sents, in_boths, in_functions, withouts, expects, within_bound_, within_bounds_, same_bounds, at_labels}
use Rattle.pict_rules.proofs.Names.{binder_names, id_names, AddsNames, FieldNames, pattern_named, against_named, fields_named, fields_against_named, binders_named, binders_against_named}
use Rattle.pict_rules.proofs.BoundIds.{binder_ids, value_ids, type_ids}
use Rattle.pict_rules.proofs.Kept.{same_texts, Keeps, keeps_empty, keeps_once, keeps_defines, keeps_types, keeps_annotation, keeps_chan, keeps_val, keeps_vals, keeps_labelled_vals, keeps_proc, keeps_procs, keeps_definitions}
use Rattle.pict_rules.proofs.Opened.{stays, past_pat, past_fields, past_binders, past_definitions, types_within, types_still, keeps_pats, keeps_labelled_pats, own_adds}
use Rattle.pict_rules.proofs.Declared.{Knows, knows_within, knows_still, decs_know, knows_signed, AllFollow, FollowsAbs, signatures_follow}

abbrev Steps : (Mark → Type 0) → (s : Sort) → Rule s → Type 0
Steps Q s r = Each (IsRead Q) IsResult s (any_given s) r

stands_left : (xs ys : List Mark) (m : Mark) → StandsIn xs m → StandsIn (xs ++ ys) m
stands_left [] ys m h = absurd h
stands_left (x ∷ xs) ys m (inl e) = inl e
stands_left (x ∷ xs) ys m (inr h) = inr (stands_left xs ys m h)

stands_right : (xs ys : List Mark) (m : Mark) → StandsIn ys m → StandsIn (xs ++ ys) m
stands_right [] ys m h = h
stands_right (x ∷ xs) ys m h = inr (stands_right xs ys m h)

pub left : {Q : Mark → Type 0} (xs ys : List Mark) → EachMark Q (xs ++ ys) → EachMark Q xs
left xs ys h = record { each = λ m k. h.each m (stands_left xs ys m k) }

pub right : {Q : Mark → Type 0} (xs ys : List Mark) → EachMark Q (xs ++ ys) → EachMark Q ys
right xs ys h = record { each = λ m k. h.each m (stands_right xs ys m k) }

both : {Q : Mark → Type 0} (xs : List Mark) {ys : List Mark} → EachMark Q xs → EachMark Q ys → EachMark Q (xs ++ ys)
both {Q = Q} xs {ys = ys} h k = record { each = λ m. go xs m (h.each m) }
  where
    go : (zs : List Mark) (m : Mark) → (StandsIn zs m → Q m) → StandsIn (zs ++ ys) m → Q m
    go [] m f s = k.each m s
    go (z ∷ zs) m f (inl e) = f (inl e)
    go (z ∷ zs) m f (inr s) = go zs m (λ t. f (inr t)) s

no_marks : {Q : Mark → Type 0} → EachMark Q []
no_marks = record { each = λ m k. absurd k }

-- an outline is read at a place with the type names of an environment; and with those of its values
pub record ReadsTypes (Q : Mark → Type 0) (e : Environment) (o : Outline) : Type 0 where
  pub around : Around
  pub types_ : HasTypesOf e around
  pub each_mark : EachMark Q (marks o around)

pub record Reads (Q : Mark → Type 0) (e : Environment) (o : Outline) : Type 0 where
  pub around : Around
  pub types_ : HasTypesOf e around
  pub values : HasValuesOf e around
  pub each_mark : EachMark Q (marks o around)

-- so is what is judged, and so are its parts
reads : {Q : Mark → Type 0} {s : Sort} {e : Environment} {j : Judgement s} (r : IsReadAs Q s e j) → HasValuesOf e r.around → Reads Q e (outline_of j)
reads r v = record { around = r.around; types_ = r.types_; values = v; each_mark = r.each_mark }

reads_types : {Q : Mark → Type 0} {s : Sort} {e : Environment} {j : Judgement s} → IsReadAs Q s e j → ReadsTypes Q e (outline_of j)
reads_types r = record { around = r.around; types_ = r.types_; each_mark = r.each_mark }

knows_of : {Q : Mark → Type 0} {e : Environment} {o : Outline} (x : Reads Q e o) → Knows e x.around
knows_of x = record { types_ = x.types_; values = x.values }

asks : {Q : Mark → Type 0} {t : Sort} {e : Environment} (i : Judgement t) (x : Reads Q e (outline_of i)) → (HasValuesOf e x.around → KnowsValues i e x.around) → IsReadAs Q t e i
asks i x f = record { around = x.around; types_ = x.types_; values = f x.values; each_mark = x.each_mark }

asks_types : {Q : Mark → Type 0} {t : Sort} {e : Environment} (i : Judgement t) (x : ReadsTypes Q e (outline_of i)) → KnowsValues i e x.around → IsReadAs Q t e i
asks_types i x k = record { around = x.around; types_ = x.types_; values = k; each_mark = x.each_mark }

-- one after the other
first : {Q : Mark → Type 0} {e : Environment} {o p : Outline} → Reads Q e (o ▸ p) → Reads Q e o
unfolding marks
first x = record { around = x.around; types_ = x.types_; values = x.values; each_mark = left _ _ x.each_mark }

second_within : {Q : Mark → Type 0} {d e : Environment} {o p : Outline} (x : Reads Q e (o ▸ p)) → Knows d (opens o x.around) → Reads Q d p
unfolding marks
second_within {o = o} x k = record { around = opens o x.around; types_ = k.types_; values = k.values; each_mark = right (marks o x.around) _ x.each_mark }

second : {Q : Mark → Type 0} {e : Environment} {o p : Outline} → Keeps o → Reads Q e (o ▸ p) → Reads Q e p
second {o = o} h x = second_within x (knows_still (knows_of x) (stays o x.around h))

in_closed : {Q : Mark → Type 0} {e : Environment} {o : Outline} → Reads Q e (closed o) → Reads Q e o
unfolding marks
in_closed x = record { around = x.around; types_ = x.types_; values = x.values; each_mark = x.each_mark }

in_group : {Q : Mark → Type 0} {e : Environment} {o : Outline} → Reads Q e (group o) → Reads Q e o
unfolding marks
in_group {o = o} x = record { around = _; types_ = record { texts = x.types_.texts; same = x.types_.same }; values = record { same = x.values.same }; each_mark = x.each_mark }

-- the same of types alone
first_types : {Q : Mark → Type 0} {e : Environment} {o p : Outline} → ReadsTypes Q e (o ▸ p) → ReadsTypes Q e o
unfolding marks
first_types x = record { around = x.around; types_ = x.types_; each_mark = left _ _ x.each_mark }

second_types_within : {Q : Mark → Type 0} {d e : Environment} {o p : Outline} (x : ReadsTypes Q e (o ▸ p)) → HasTypesOf d (opens o x.around) → ReadsTypes Q d p
unfolding marks
second_types_within {o = o} x k = record { around = opens o x.around; types_ = k; each_mark = right (marks o x.around) _ x.each_mark }

second_types : {Q : Mark → Type 0} {e : Environment} {o p : Outline} → Keeps o → ReadsTypes Q e (o ▸ p) → ReadsTypes Q e p
second_types {o = o} h x = second_types_within x (types_still x.types_ (stays o x.around h))

in_closed_types : {Q : Mark → Type 0} {e : Environment} {o : Outline} → ReadsTypes Q e (closed o) → ReadsTypes Q e o
unfolding marks
in_closed_types x = record { around = x.around; types_ = x.types_; each_mark = x.each_mark }

in_group_types : {Q : Mark → Type 0} {e : Environment} {o : Outline} → ReadsTypes Q e (group o) → ReadsTypes Q e o
unfolding marks
in_group_types x = record { around = _; types_ = record { texts = x.types_.texts; same = x.types_.same }; each_mark = x.each_mark }

-- a pattern, and what stands behind it out of its scope
of_pattern : {Q : Mark → Type 0} {e : Environment} {o p : Outline} → Reads Q e (pattern o p) → ReadsTypes Q e o
unfolding marks
of_pattern x = record { around = _; types_ = record { texts = x.types_.texts; same = x.types_.same }; each_mark = left _ _ x.each_mark }

behind_it : {Q : Mark → Type 0} {e : Environment} {o p : Outline} → Reads Q e (pattern o p) → Reads Q e p
unfolding marks
behind_it {o = o} x = record {
  around = _;
  types_ = record { texts = x.types_.texts ∙ sym (same_texts o _); same = x.types_.same };
  values = record { same = x.values.same };
  each_mark = right (marks o _) _ x.each_mark;
}

has_below : {Q : Mark → Type 0} (e : Environment) (v : Val) (t : PlainType) (c : Code) → Reads Q e (in_val v) → Steps Q nothing_ (gives_below e v t c)
has_below e v t c x = parts (asks (gives v) x (λ v. v)) (λ s h. needs (gives_ tt))

-- after declarations
after_decs : {Q : Mark → Type 0} {e d : Environment} (ds : Decs) {p : Outline} (x : Reads Q e (in_decs ds ▸ p)) → Runs (rule e (declarations ds)) (ok d) → Reads Q d p
after_decs ds x h = second_within x (result_has (decs_know ds (knows_of x)) h)

-- the values of a list one after the other
abbrev in_list : List Val → Outline
in_list [] = empty
in_list (v ∷ vs) = in_val v ▸ in_list vs

listed_onto : {Q : Mark → Type 0} (a : Around) (vs : Vals) (ws : List Val) → EachMark Q (marks (in_vals vs) a) → EachMark Q (marks (in_list ws) (opens (in_vals vs) a)) → EachMark Q (marks (in_list (vals_onto vs ws)) a)
unfolding marks opens
listed_onto a no_vals ws h k = k
listed_onto a (more_vals vs v) ws h k = listed_onto a vs (v ∷ ws) (left _ _ h) (both (marks (in_val v) (opens (in_vals vs) a)) (right _ _ h) k)

-- the name of the form is used again at each level, where it means the same
used_still : {Q : Mark → Type 0} (s : Span) (n : ℕ) (a b : Around) → b.values ≡ a.values → b.texts ≡ a.texts → EachMark Q (marks (value_use s n) a) → EachMark Q (marks (value_use s n) b)
unfolding marks
used_still {Q = Q} s n a b v t h = subst (EachMark Q) (sym (ap₂ (λ x y. value_used s (or_primitive (nearest x n) (text_of y n)) ∷ []) v t)) h

applied_marks : {Q : Mark → Type 0} (a : Around) (s : Span) (f : Id) (v w : Val) → EachMark Q (marks (value_use f.span f.name.0) a) → EachMark Q (marks (in_val v) a) → EachMark Q (marks (in_val w) (opens (in_val v) a)) → EachMark Q (marks (in_val (applied_to s f v w)) a)
unfolding marks opens
applied_marks {Q = Q} a s f v w u h k =
    both (marks (value_use f.span f.name.0) a) u (subst (EachMark Q) (sym (append-nil (marks (in_val v) a ++ marks (in_val w) (opens (in_val v) a)))) (both (marks (in_val v) a) h k))

behind_applied : (a : Around) (s : Span) (f : Id) (v w : Val) → opens (in_val (applied_to s f v w)) a ≡ opens (in_val w) (opens (in_val v) a)
unfolding opens
behind_applied a s f v w = refl

right_marks : {Q : Mark → Type 0} (a : Around) (s : Span) (f : Id) (v : Val) (vs : List Val) → EachMark Q (marks (value_use f.span f.name.0) a) → EachMark Q (marks (in_list (v ∷ vs)) a) → EachMark Q (marks (in_val (right_nested s f v vs)) a)
unfolding marks
right_marks a s f v [] u h = left _ _ h
right_marks a s f v (w ∷ vs) u h =
    let b = opens (in_val v) a in
    applied_marks a s f v (right_nested s f w vs) u (left _ _ h) (right_marks b s f w vs (used_still f.span f.name.0 a b ((keeps_val v).values a) (same_texts (in_val v) a) u) (right _ _ h))

left_marks : {Q : Mark → Type 0} (a : Around) (s : Span) (f : Id) (v : Val) (vs : List Val) → EachMark Q (marks (value_use f.span f.name.0) a) → EachMark Q (marks (in_list (v ∷ vs)) a) → EachMark Q (marks (in_val (left_nested s f v vs)) a)
unfolding marks
left_marks a s f v [] u h = left _ _ h
left_marks {Q = Q} a s f v (w ∷ vs) u h =
    left_marks a s f (applied_to s f v w) vs u
    (both (marks (in_val (applied_to s f v w)) a) (applied_marks a s f v w u (left _ _ h) (left _ _ (right (marks (in_val v) a) _ h)))
    (subst (λ b. EachMark Q (marks (in_list vs) b)) (sym (behind_applied a s f v w)) (right (marks (in_val w) (opens (in_val v) a)) _ (right (marks (in_val v) a) _ h))))

first_right : {Q : Mark → Type 0} (a : Around) (s : Span) (f : Id) (vs : List Val) → EachMark Q (marks (value_use f.span f.name.0) a) → EachMark Q (marks (in_list vs) a) → EachMark Q (marks (in_val (from_first (right_nested s f) s vs)) a)
unfolding marks
first_right a s f [] u h = no_marks
first_right a s f (v ∷ vs) u h = right_marks a s f v vs u h

first_left : {Q : Mark → Type 0} (a : Around) (s : Span) (f : Id) (vs : List Val) → EachMark Q (marks (value_use f.span f.name.0) a) → EachMark Q (marks (in_list vs) a) → EachMark Q (marks (in_val (from_first (left_nested s f) s vs)) a)
unfolding marks
first_left a s f [] u h = no_marks
first_left a s f (v ∷ vs) u h = left_marks a s f v vs u h

listed : {Q : Mark → Type 0} {e : Environment} (f : Id) (vs : Vals) (x : Reads Q e (value_use f.span f.name.0 ▸ in_vals vs)) → EachMark Q (marks (in_list (vals_onto vs [])) x.around)
unfolding marks opens
listed f vs x = listed_onto x.around vs [] (right (marks (value_use f.span f.name.0) x.around) _ x.each_mark) no_marks

nested_right : {Q : Mark → Type 0} {e : Environment} (s : Span) (f : Id) (vs : Vals) → Reads Q e (value_use f.span f.name.0 ▸ in_vals vs) → Reads Q e (in_val (from_first (right_nested s f) s (vals_onto vs [])))
unfolding marks
nested_right s f vs x = record { around = x.around; types_ = x.types_; values = x.values; each_mark = first_right x.around s f (vals_onto vs []) (left _ _ x.each_mark) (listed f vs x) }

nested_left : {Q : Mark → Type 0} {e : Environment} (s : Span) (f : Id) (vs : Vals) → Reads Q e (value_use f.span f.name.0 ▸ in_vals vs) → Reads Q e (in_val (from_first (left_nested s f) s (vals_onto vs [])))
unfolding marks
nested_left s f vs x = record { around = x.around; types_ = x.types_; values = x.values; each_mark = first_left x.around s f (vals_onto vs []) (left _ _ x.each_mark) (listed f vs x) }

-- values
val_gives : (Q : Mark → Type 0) (e : Environment) (v : Val) → Reads Q e (in_val v) → Steps Q type_ (rule e (gives v))
val_gives Q e (of_chan (use_chan s n)) x = gives_ tt
val_gives Q e (number_val s n) x = gives_ tt
val_gives Q e (character_val s b) x = gives_ tt
val_gives Q e (string_val s b) x = gives_ tt
val_gives Q e (true_val s) x = gives_ tt
val_gives Q e (false_val s) x = gives_ tt
val_gives Q e (fields_val s (field_vals ts vs ls)) x =
    let y = second (keeps_types ts) x in
    ensures _ _ _ (
    parts (asks (values_give vs) (first y) (λ k. k)) (λ ps h.
    parts (asks (labelled_values_give ls) (in_group (second (keeps_vals vs) y)) (λ k. k)) (λ ms k.
    unless _ (gives_ tt))))
val_gives Q e (if_val at c v w) x =
    let y = second (keeps_val c) x in
    parts (asks (is_condition c) (first x) (λ k. k)) (λ b h.
    parts (asks (gives v) (first y) (λ k. k)) (λ s i.
    parts (asks (gives w) (second (keeps_val v) y) (λ k. k)) (λ t k.
    chooses (gives_ tt) (chooses (gives_ tt) refuses))))
val_gives Q e (lambda_val s a) x = parts (asks (abstraction_gives a) x (λ k. k)) (λ t h. unless _ (gives_ tt))
val_gives Q e (of_chan (fold_chan s None v)) x = refuses
val_gives Q e (of_chan (fold_chan s (Some a) v)) x =
    unless _ (in_recursives (normal e.names e.context a) _ _ (λ u. unless _ (
    parts (asks (has v u) (second (keeps_annotation (Some a)) x) (λ k. k)) (λ y h. gives_ tt))))
val_gives Q e (of_chan (block_chan s ds v)) x =
    parts (asks (declarations ds) (first (in_closed x)) (λ k. k)) (λ d h.
    parts (asks (gives v) (after_decs ds (in_closed x) h) (λ k. k)) (λ t i.
    withouts (opened_since e d) t _ _ (λ u. gives_ {x = u} tt)))
val_gives Q e (of_chan (apply_chan s f vs)) x = parts (asks (application s f vs None) x (λ k. k)) (λ t h. gives_ tt)
val_gives Q e (of_chan (right_chan s f vs)) x = parts (asks (gives (from_first (right_nested s f) s (vals_onto vs []))) (nested_right s f vs x) (λ k. k)) (λ t h. gives_ tt)
val_gives Q e (of_chan (left_chan s f vs)) x = parts (asks (gives (from_first (left_nested s f) s (vals_onto vs []))) (nested_left s f vs x) (λ k. k)) (λ t h. gives_ tt)

val_has : (Q : Mark → Type 0) (e : Environment) (v : Val) (t : PlainType) → Reads Q e (in_val v) → Steps Q nothing_ (rule e (has v t))
val_has Q e (of_chan (use_chan s n)) t x = has_below e _ t _ x
val_has Q e (number_val s n) t x = has_below e _ t _ x
val_has Q e (character_val s b) t x = has_below e _ t _ x
val_has Q e (string_val s b) t x = has_below e _ t _ x
val_has Q e (true_val s) t x = has_below e _ t _ x
val_has Q e (false_val s) t x = has_below e _ t _ x
val_has Q e (fields_val s f) t x =
    in_records t (λ bs ps ls. parts (asks (fields_fit s f bs ps ls (none_found bs)) x (λ k. k)) (λ y h. gives_ tt)) (has_below e _ t _ x)
val_has Q e (if_val at c v w) t x =
    let y = second (keeps_val c) x in
    parts (asks (is_condition c) (first x) (λ k. k)) (λ b h.
    parts (asks (has v t) (first y) (λ k. k)) (λ s i.
    parts (asks (has w t) (second (keeps_val v) y) (λ k. k)) (λ z k. gives_ tt)))
val_has Q e (lambda_val s a) t x =
    in_sents t (λ u. parts (asks (abstraction_against a u) x (λ k. k)) (λ y h. gives_ tt)) (has_below e _ t _ x)
val_has Q e (of_chan (fold_chan s None v)) t x =
    in_recursives t _ _ (λ u. unless _ (parts (asks (has v u) (second keeps_empty x) (λ k. k)) (λ y h. gives_ tt)))
val_has Q e (of_chan (fold_chan s (Some a) v)) t x = has_below e _ t _ x
val_has Q e (of_chan (block_chan s ds v)) t x =
    parts (asks (declarations ds) (first (in_closed x)) (λ k. k)) (λ d h.
    parts (asks (has v (shifted_by (opened_since e d) t)) (after_decs ds (in_closed x) h) (λ k. k)) (λ y i. gives_ tt))
val_has Q e (of_chan (apply_chan s f vs)) t x = parts (asks (application s f vs (Some t)) x (λ k. k)) (λ y h. gives_ tt)
val_has Q e (of_chan (right_chan s f vs)) t x =
    parts (asks (has (from_first (right_nested s f) s (vals_onto vs [])) t) (nested_right s f vs x) (λ k. k)) (λ y h. gives_ tt)
val_has Q e (of_chan (left_chan s f vs)) t x =
    parts (asks (has (from_first (left_nested s f) s (vals_onto vs [])) t) (nested_left s f vs x) (λ k. k)) (λ y h. gives_ tt)

all_give : (Q : Mark → Type 0) (e : Environment) (vs : Vals) → Reads Q e (in_vals vs) → Steps Q types_ (rule e (values_give vs))
all_give Q e no_vals x = gives_ tt
all_give Q e (more_vals vs v) x =
    parts (asks (values_give vs) (first x) (λ k. k)) (λ ts h.
    parts (asks (gives v) (second (keeps_vals vs) x) (λ k. k)) (λ t i. gives_ tt))

all_labelled_give : (Q : Mark → Type 0) (e : Environment) (ls : LabelledVals) → Reads Q e (in_labelled_vals ls) → Steps Q labels_ (rule e (labelled_values_give ls))
all_labelled_give Q e no_labelled_vals x = gives_ tt
all_labelled_give Q e (more_labelled_vals ls l v) x =
    parts (asks (labelled_values_give ls) (first x) (λ k. k)) (λ ts h.
    parts (asks (gives v) (second keeps_once (second (keeps_labelled_vals ls) x)) (λ k. k)) (λ t i. gives_ tt))

applies : (Q : Mark → Type 0) (e : Environment) (s : Span) (f : Val) (vs : FieldVals) (o : Option PlainType) → Reads Q e (in_val f ▸ in_field_vals vs) → Steps Q type_ (rule e (application s f vs o))
applies Q e s f vs o x =
    parts (asks (gives f) (first x) (λ k. k)) (λ t h.
    in_functions (applicable (exposure (context_of e) t)) _ _ (λ g.
    parts (asks (fields_fit s vs g.binders g.positional g.labelled (found_first e vs g o)) (second (keeps_val f) x) (λ k. k)) (λ args i.
    unless _ (expects e o _ _ s (gives_ tt)))))

ordered : {Q : Mark → Type 0} {s : Sort} {e : Environment} (i : Span) (ts : TypeTrees) (vs : Vals) (ls : LabelledVals) (ps : PlainTypes) (ms : PlainLabels) (f : Found) {k : Found → Rule s} → Reads Q e (in_types ts ▸ in_vals vs ▸ group (in_labelled_vals ls)) → ((g : Found) → Steps Q s (k g)) → Steps Q s (in_order e i vs ls ps ms f k)
ordered i ts vs ls ps ms f x hk =
    let y = second (keeps_types ts) x in
    parts (asks (values_fit i vs ps f) (first y) (λ k. k)) (λ g h.
    parts (asks (labelled_values_fit i ls ms g) (in_group (second (keeps_vals vs) y)) (λ k. k)) (λ z l. hk z))

fields_asked : (Q : Mark → Type 0) (e : Environment) (s : Span) (f : FieldVals) (bs : PlainBounds) (ps : PlainTypes) (ms : PlainLabels) (g : Found) → Reads Q e (in_field_vals f) → Steps Q arguments_ (rule e (fields_fit s f bs ps ms g))
fields_asked Q e s (field_vals ts vs ls) bs ps ms g x =
    ensures (none_written ts || nat_eq (count_trees ts) (count_bounds bs)) Y5 s (ensures (nat_eq (count_vals vs) (count_types ps)) Y5 s (ensures (all_written ms ls) Y6 s (splits (not (none_written ts))
    (parts (asks (written_arguments s ts bs) (first x) (λ k. k)) (λ args h. unless (size_stop e.context (instance_of args ps ms) s) (ordered s ts vs ls ps ms (map filled args) x (λ y. gives_ tt))))
    (ordered s ts vs ls ps ms g x (λ y. ensures (all_found y) Y10 s (within_bounds_ e s bs [] (map argument_in y) Y9 (gives_ tt)))))))

arguments_asked : (Q : Mark → Type 0) (e : Environment) (s : Span) (ts : TypeTrees) (bs : PlainBounds) → Reads Q e (in_types ts) → Steps Q arguments_ (rule e (written_arguments s ts bs))
arguments_asked Q e s no_types bs x = gives_ tt
arguments_asked Q e s (more_types ts t) bs x =
    parts (asks (written_arguments s ts bs) (first x) (λ k. k)) (λ args h.
    unless (arg_stop e.names e.context t) (ensures (is_of_kind (normal_arg e.names e.context t) (nth_bound (count_trees ts) bs)) K1 (type_span t) (ensures (varies_as (context_of e) (normal_arg e.names e.context t) (nth_bound (count_trees ts) bs)) K5 (type_span t) (within_bound_ e s (nth_bound (count_trees ts) bs) args (normal_arg e.names e.context t) Y9 (type_span t) (gives_ tt)))))

positional_asked : (Q : Mark → Type 0) (e : Environment) (s : Span) (vs : Vals) (ps : PlainTypes) (g : Found) → Reads Q e (in_vals vs) → Steps Q found_ (rule e (values_fit s vs ps g))
positional_asked Q e s no_vals ps g x = gives_ tt
positional_asked Q e s (more_vals vs v) ps g x =
    parts (asks (values_fit s vs ps g) (first x) (λ k. k)) (λ f h.
    parts (asks (value_fits s v (nth_type (count_vals vs) ps) f) (second (keeps_vals vs) x) (λ k. k)) (λ y i. gives_ tt))

labelled_asked : (Q : Mark → Type 0) (e : Environment) (s : Span) (ls : LabelledVals) (ms : PlainLabels) (g : Found) → Reads Q e (in_labelled_vals ls) → Steps Q found_ (rule e (labelled_values_fit s ls ms g))
labelled_asked Q e s no_labelled_vals ms g x = gives_ tt
labelled_asked Q e s (more_labelled_vals ls l v) ms g x =
    let y = second keeps_once (second (keeps_labelled_vals ls) x) in
    parts (asks (labelled_values_fit s ls ms g) (first x) (λ k. k)) (λ f h.
    at_labels (type_at l.name.0 ms)
    (λ t. parts (asks (value_fits s v t f) y (λ k. k)) (λ z i. gives_ tt))
    (parts (asks (gives v) y (λ k. k)) (λ z i. gives_ tt)))

nothing_read : {Q : Mark → Type 0} (a : Around) → EachMark Q (marks empty a)
unfolding marks
nothing_read a = no_marks

field_asked : (Q : Mark → Type 0) (e : Environment) (s : Span) (v : Val) (t : PlainType) (g : Found) → Reads Q e (in_val v) → Steps Q found_ (rule e (value_fits s v t g))
field_asked Q e s v t g x =
    splits (mentions_missing g t)
    (parts (asks (gives v) x (λ k. k)) (λ u h. parts (record { around = x.around; types_ = x.types_; values = x.values; each_mark = nothing_read x.around }) (λ y i. gives_ tt)))
    (unless _ (parts (asks (has v (with_found g t)) x (λ k. k)) (λ y h. gives_ tt)))

-- abstractions
body_of_process : {Q : Mark → Type 0} {e : Environment} {y : Extension} (p : Pat) (q : Proc) (x : Reads Q e (pattern (in_pat p) empty ▸ in_proc q)) → AddsNames y (value_ids p) (type_ids p) → Reads Q (extended e y) (in_proc q)
body_of_process p q x h = second_within x (knows_within (knows_of x) h (past_pat x.around p keeps_empty))

body_of_function : {Q : Mark → Type 0} {e : Environment} {own : List KnownType} {y : Extension} (f : FieldPats) (r : RType) (v : Val) (x : Reads Q e (pattern (in_field_pats f ▸ in_annotation r) empty ▸ in_val v)) → FieldNames f own y → Reads Q (with_fields e own y) (in_val v)
body_of_function f r v x h = second_within x (knows_within (knows_of x) h.adds_ (past_fields x.around f r))

abstraction_given : (Q : Mark → Type 0) (e : Environment) (a : Abs) → Reads Q e (in_abs a) → Steps Q type_ (rule e (abstraction_gives a))
abstraction_given Q e (process_abs s p q) x =
    parts (asks_types (pattern_gives p) (of_pattern (first (in_closed x))) tt) (λ g h.
    parts (asks (process q) (body_of_process p q (in_closed x) (result_has (pattern_named e p) h)) (λ k. k)) (λ y i. gives_ tt))
abstraction_given Q e (function_abs s f None v) x =
    parts (asks_types (fields_give f) (first_types (of_pattern (first (in_closed x)))) tt) (λ g h.
    parts (asks (gives v) (body_of_function f None v (in_closed x) (result_has (fields_named e f) h)) (λ k. k)) (λ t i.
    withouts (opened g.adds) t Y14 (val_span v) (λ u. unless (size_stop e.context (argument_type g u) s) (gives_ {x = argument_type g u} tt))))
abstraction_given Q e (function_abs s f (Some a) v) x =
    parts (asks_types (fields_give f) (first_types (of_pattern (first (in_closed x)))) tt) (λ g h.
    unless _ (
    parts (asks (has v (shifted_by (opened g.adds) (normal e.names (with_own e g.own).context a))) (body_of_function f (Some a) v (in_closed x) (result_has (fields_named e f) h)) (λ k. k)) (λ y i.
    unless _ (gives_ tt))))

abstraction_asked : (Q : Mark → Type 0) (e : Environment) (a : Abs) (t : PlainType) → Reads Q e (in_abs a) → Steps Q nothing_ (rule e (abstraction_against a t))
abstraction_asked Q e (process_abs s p q) t x =
    parts (asks_types (pattern_against p t) (of_pattern (first (in_closed x))) tt) (λ g h.
    parts (asks (process q) (body_of_process p q (in_closed x) (result_has (against_named e p t) h)) (λ k. k)) (λ y i. gives_ tt))
abstraction_asked Q e (function_abs s f None v) t x =
    in_functions (answering e t) _ _ (λ g.
    parts (asks_types (fields_against s f g.binders g.positional g.labelled) (first_types (of_pattern (first (in_closed x)))) tt) (λ y h.
    parts (asks (has v (shifted_by (opened y.adds) g.answer)) (body_of_function f None v (in_closed x) (result_has (fields_against_named e s f g.binders g.positional g.labelled) h)) (λ k. k)) (λ z i. gives_ tt)))
abstraction_asked Q e (function_abs s f (Some a) v) t x =
    in_functions (answering e t) _ _ (λ g.
    parts (asks_types (fields_against s f g.binders g.positional g.labelled) (first_types (of_pattern (first (in_closed x)))) tt) (λ y h.
    unless _ (needs (
    parts (asks (has v (shifted_by (opened y.adds) (normal e.names (with_own e y.own).context a))) (body_of_function f (Some a) v (in_closed x) (result_has (fields_against_named e s f g.binders g.positional g.labelled) h)) (λ k. k)) (λ z i. gives_ tt)))))

-- patterns: their type names alone count
own_types : {Q : Mark → Type 0} {e : Environment} {p : Outline} (bs : TypeBinders) (own : List KnownType) (x : ReadsTypes Q e (in_pattern_binders bs ▸ p)) → binder_names own ≡ id_names (binder_ids bs) → HasTypesOf (with_own e own) (opens (in_pattern_binders bs) x.around)
own_types bs own x h = types_within x.types_ (own_adds bs h) (past_binders bs x.around)

pattern_given : (Q : Mark → Type 0) (e : Environment) (p : Pat) → ReadsTypes Q e (in_pat p) → Steps Q pattern_ (rule e (pattern_gives p))
pattern_given Q e (bind_pat s x None) r = refuses
pattern_given Q e (bind_pat s x (Some a)) r = unless _ (gives_ tt)
pattern_given Q e (any_pat s None) r = refuses
pattern_given Q e (any_pat s (Some a)) r = unless _ (gives_ tt)
pattern_given Q e (fields_pat s f) r = parts (asks_types (fields_give f) (in_closed_types r) tt) (λ g h. unless _ (gives_ tt))
pattern_given Q e (fold_pat s None p) r = refuses
pattern_given Q e (fold_pat s (Some a) p) r =
    unless _ (in_recursives (normal e.names e.context a) _ _ (λ u. unless _ (
    parts (asks_types (pattern_against p u) (second_types (keeps_annotation (Some a)) r) tt) (λ x h. gives_ tt))))

fields_given : (Q : Mark → Type 0) (e : Environment) (f : FieldPats) → ReadsTypes Q e (in_field_pats f) → Steps Q fields_ (rule e (fields_give f))
fields_given Q e (field_pats bs ps ls) r =
    parts (asks_types (binders_give bs) (first_types r) tt) (λ own h.
    let x = second_types_within r (own_types bs own r (result_has (binders_named e bs) h)) in
    parts (asks_types (patterns_give ps) (first_types x) tt) (λ g i.
    parts (asks_types (labelled_patterns_give ls) (in_group_types (second_types (keeps_pats ps) x)) tt) (λ y l. gives_ tt)))

binders_given : (Q : Mark → Type 0) (e : Environment) (bs : TypeBinders) → ReadsTypes Q e (in_pattern_binders bs) → Steps Q binders_ (rule e (binders_give bs))
binders_given Q e no_binders r = gives_ tt
binders_given Q e (more_binders bs b) r = parts (asks_types (binders_give bs) (first_types r) tt) (λ own h. unless _ (gives_ tt))

patterns_given : (Q : Mark → Type 0) (e : Environment) (ps : Pats) → ReadsTypes Q e (in_pats ps) → Steps Q patterns_ (rule e (patterns_give ps))
patterns_given Q e no_pats r = gives_ tt
patterns_given Q e (more_pats ps p) r =
    parts (asks_types (patterns_give ps) (first_types r) tt) (λ g h.
    parts (asks_types (pattern_gives p) (second_types (keeps_pats ps) r) tt) (λ x i. gives_ tt))

labels_given : (Q : Mark → Type 0) (e : Environment) (ls : LabelledPats) → ReadsTypes Q e (in_labelled_pats ls) → Steps Q labelled_patterns_ (rule e (labelled_patterns_give ls))
labels_given Q e no_labelled_pats r = gives_ tt
labels_given Q e (more_labelled_pats ls l p) r =
    parts (asks_types (labelled_patterns_give ls) (first_types r) tt) (λ g h.
    parts (asks_types (pattern_gives p) (second_types keeps_once (second_types (keeps_labelled_pats ls) r)) tt) (λ x i. gives_ tt))

pattern_asked : (Q : Mark → Type 0) (e : Environment) (p : Pat) (t : PlainType) → ReadsTypes Q e (in_pat p) → Steps Q extension_ (rule e (pattern_against p t))
pattern_asked Q e (bind_pat s x None) t r = gives_ tt
pattern_asked Q e (bind_pat s x (Some a)) t r = unless _ (needs (gives_ tt))
pattern_asked Q e (any_pat s None) t r = gives_ tt
pattern_asked Q e (any_pat s (Some a)) t r = unless _ (needs (gives_ tt))
pattern_asked Q e (fields_pat s f) t r =
    in_records (exposure (context_of e) t) (λ bs ps ls. parts (asks_types (fields_against s f bs ps ls) (in_closed_types r) tt) (λ x h. gives_ tt)) refuses
pattern_asked Q e (fold_pat s None p) t r =
    in_recursives (exposure (context_of e) t) _ _ (λ u. unless _ (parts (asks_types (pattern_against p u) (second_types keeps_empty r) tt) (λ x h. gives_ tt)))
pattern_asked Q e (fold_pat s (Some a) p) t r =
    unless _ (in_recursives (normal e.names e.context a) _ _ (λ u. needs (unless _ (
    parts (asks_types (pattern_against p u) (second_types (keeps_annotation (Some a)) r) tt) (λ x h. gives_ tt)))))

fields_asked_of : (Q : Mark → Type 0) (e : Environment) (s : Span) (f : FieldPats) (rs : PlainBounds) (ts : PlainTypes) (ms : PlainLabels) → ReadsTypes Q e (in_field_pats f) → Steps Q opened_ (rule e (fields_against s f rs ts ms))
fields_asked_of Q e s (field_pats bs ps ls) rs ts ms r =
    ensures _ _ _ (ensures _ _ _ (
    parts (asks_types (binders_against bs rs) (first_types r) tt) (λ own h.
    let x = second_types_within r (own_types bs own r (result_has (binders_against_named e bs rs) h)) in
    parts (asks_types (patterns_against ps ts) (first_types x) tt) (λ g i.
    parts (asks_types (labelled_patterns_against ls ms) (in_group_types (second_types (keeps_pats ps) x)) tt) (λ y l. gives_ tt)))))

binders_asked : (Q : Mark → Type 0) (e : Environment) (bs : TypeBinders) (rs : PlainBounds) → ReadsTypes Q e (in_pattern_binders bs) → Steps Q binders_ (rule e (binders_against bs rs))
binders_asked Q e no_binders rs r = gives_ tt
binders_asked Q e (more_binders bs b) rs r =
    parts (asks_types (binders_against bs rs) (first_types r) tt) (λ own h.
    unless _ (ensures _ _ _ (same_bounds (with_own e own) (written_bound b) _ _ _ (gives_ tt))))

patterns_asked : (Q : Mark → Type 0) (e : Environment) (ps : Pats) (ts : PlainTypes) → ReadsTypes Q e (in_pats ps) → Steps Q extension_ (rule e (patterns_against ps ts))
patterns_asked Q e no_pats ts r = gives_ tt
patterns_asked Q e (more_pats ps p) ts r =
    parts (asks_types (patterns_against ps ts) (first_types r) tt) (λ g h.
    parts (asks_types (pattern_against p (nth_type (count_pats ps) ts)) (second_types (keeps_pats ps) r) tt) (λ x i. gives_ tt))

labels_asked : (Q : Mark → Type 0) (e : Environment) (ls : LabelledPats) (ms : PlainLabels) → ReadsTypes Q e (in_labelled_pats ls) → Steps Q extension_ (rule e (labelled_patterns_against ls ms))
labels_asked Q e no_labelled_pats ms r = gives_ tt
labels_asked Q e (more_labelled_pats ls l p) ms r =
    parts (asks_types (labelled_patterns_against ls ms) (first_types r) tt) (λ g h.
    at_labels (type_at l.name.0 ms)
    (λ t. parts (asks_types (pattern_against p t) (second_types keeps_once (second_types (keeps_labelled_pats ls) r)) tt) (λ x i. gives_ tt))
    refuses)

-- declarations
body_read : {Q : Mark → Type 0} {e : Environment} (f : Abs) (x : Id) (s : Signature) → FollowsAbs x f s → Reads Q e (in_abs f) → IsReadAs Q nothing_ (extended e s.adds) (body s.body)
body_read {Q = Q} {e = e} (process_abs i p q) x s w r =
    subst (λ b. IsReadAs Q nothing_ (extended e s.adds) (body b)) (sym w.body_) (asks (body (process_body q)) (body_of_process p q (in_closed r) w.adds_) (λ k. k))
body_read {Q = Q} {e = e} (function_abs i f a v) x s w r =
    subst (λ b. IsReadAs Q nothing_ (extended e s.adds) (body b)) (sym w.body_.1)
    (asks (body (value_body v w.body_.0)) (second_within (in_closed r) (knows_within (knows_of (in_closed r)) w.adds_ (past_fields (in_closed r).around f a))) (λ k. k))

and_last : {Q : Mark → Type 0} (e : Environment) (rs : List Signature) (s : Signature) → BodiesAreRead Q e rs → IsReadAs Q nothing_ (extended e s.adds) (body s.body) → BodiesAreRead Q e (rs ++ s ∷ [])
and_last e [] s b c = (c, tt)
and_last e (r ∷ rs) s b c = (b.0, and_last e rs s b.1 c)

bodies_read : {Q : Mark → Type 0} {e : Environment} (ds : Definitions) (ss : List Signature) → AllFollow ds ss → Reads Q e (in_definitions ds) → BodiesAreRead Q e ss
bodies_read {Q = Q} {e = e} no_definitions ss h r = subst (BodiesAreRead Q e) (sym h) tt
bodies_read {Q = Q} {e = e} (more_definitions ds x f) ss h r =
    subst (BodiesAreRead Q e) (sym h.2)
    (and_last e h.0 h.1 (bodies_read ds h.0 h.3 (first r)) (body_read f x h.1 h.4 (second keeps_defines (second keeps_once (second (keeps_definitions ds) r)))))

-- among the names of a `def`, its heads with the types before it
heads_read : {Q : Mark → Type 0} {e : Environment} (s : Span) (ds : Definitions) → Reads Q e (in_dec (def_dec s ds)) → ReadsTypes Q e (in_definitions ds)
unfolding marks opens
heads_read s ds x = let g = past_definitions x.around ds in record {
  around = _;
  types_ = record { texts = x.types_.texts ∙ sym g.texts; same = x.types_.same ∙ sym g.types_ };
  each_mark = x.each_mark;
}

names_read : {Q : Mark → Type 0} {e : Environment} (s : Span) (ds : Definitions) (ss : List Signature) → AllFollow ds ss → Reads Q e (in_dec (def_dec s ds)) → Reads Q (with_signatures e ss) (in_definitions ds)
unfolding marks opens
names_read s ds ss h x = let k = knows_signed ds ss (knows_of x) h in record {
  around = _;
  types_ = record { texts = k.types_.texts; same = k.types_.same };
  values = record { same = k.values.same };
  each_mark = x.each_mark;
}

dec_asked : (Q : Mark → Type 0) (e : Environment) (d : Dec) → Reads Q e (in_dec d) → Steps Q environment_ (rule e (declaration d))
dec_asked Q e (new_dec s x t) r = unless _ (in_boths _ _ _ (gives_ tt))
dec_asked Q e (run_dec s p) r = parts (asks (process p) r (λ k. k)) (λ x h. gives_ tt)
dec_asked Q e (let_dec s p v) r =
    splits (is_complete e.names e.context p)
    (parts (asks_types (pattern_gives p) (of_pattern r) tt) (λ g h.
    parts (asks (has v g.has) (behind_it r) (λ k. k)) (λ x i. gives_ tt)))
    (parts (asks (gives v) (behind_it r) (λ k. k)) (λ t h.
    parts (asks_types (pattern_against p t) (of_pattern r) tt) (λ x i. gives_ tt)))
dec_asked Q e (def_dec s ds) r =
    parts (asks_types (signatures ds) (heads_read s ds r) tt) (λ ss h.
    let f = result_has (signatures_follow e ds) h in
    parts (bodies_read ds ss f (names_read s ds ss f r)) (λ x i. gives_ tt))
dec_asked Q e (alias_dec s x t) r = unless _ (gives_ tt)
dec_asked Q e (operator_dec s x xs t) r = unless _ (gives_ tt)
dec_asked Q e (await_dec s v) r = parts (asks (has v empty_record) r (λ k. k)) (λ x h. gives_ tt)

decs_asked : (Q : Mark → Type 0) (e : Environment) (ds : Decs) → Reads Q e (in_decs ds) → Steps Q environment_ (rule e (declarations ds))
decs_asked Q e no_decs r = gives_ tt
decs_asked Q e (more_decs ds d) r =
    parts (asks (declarations ds) (first r) (λ k. k)) (λ f h.
    parts (asks (declaration d) (after_decs ds r h) (λ k. k)) (λ x i. gives_ tt))

signatures_asked : (Q : Mark → Type 0) (e : Environment) (ds : Definitions) → ReadsTypes Q e (in_definitions ds) → Steps Q signatures_ (rule e (signatures ds))
signatures_asked Q e no_definitions r = gives_ tt
signatures_asked Q e (more_definitions ds x a) r =
    parts (asks_types (signatures ds) (first_types r) tt) (λ ss h.
    parts (asks_types (signature x a) (second_types keeps_defines (second_types keeps_once (second_types (keeps_definitions ds) r))) tt) (λ s i. gives_ tt))

pattern_of : {Q : Mark → Type 0} {e : Environment} {o p q : Outline} → ReadsTypes Q e (closed (pattern o p ▸ q)) → ReadsTypes Q e o
unfolding marks
pattern_of x = record { around = _; types_ = record { texts = x.types_.texts; same = x.types_.same }; each_mark = left _ _ (left _ _ x.each_mark) }

signature_asked : (Q : Mark → Type 0) (e : Environment) (x : Id) (a : Abs) → ReadsTypes Q e (in_abs a) → Steps Q signature_ (rule e (signature x a))
signature_asked Q e x (process_abs s p q) r = parts (asks_types (pattern_gives p) (pattern_of r) tt) (λ g h. unless _ (gives_ tt))
signature_asked Q e x (function_abs s f None v) r = parts (asks_types (fields_give f) (first_types (pattern_of r)) tt) (λ g h. refuses)
signature_asked Q e x (function_abs s f (Some a) v) r =
    parts (asks_types (fields_give f) (first_types (pattern_of r)) tt) (λ g h.
    unless (kind_stop e.names (with_own e g.own).context a) (
    unless (size_stop e.context (argument_type g (normal e.names (with_own e g.own).context a)) s) (
    unless (size_stop e.context (Chan_ Respond (argument_type g (normal e.names (with_own e g.own).context a))) s) (gives_ tt))))

bodies_asked : (Q : Mark → Type 0) (e : Environment) (ss : List Signature) → BodiesAreRead Q e ss → Steps Q nothing_ (rule e (bodies ss))
bodies_asked Q e [] r = gives_ tt
bodies_asked Q e (s ∷ ss) r = parts r.0 (λ x h. parts r.1 (λ y i. gives_ tt))

body_asked : (Q : Mark → Type 0) (e : Environment) (b : Body) → IsReadAs Q nothing_ e (body b) → Steps Q nothing_ (rule e (body b))
body_asked Q e (process_body q) r = parts (asks (process q) (reads r r.values) (λ k. k)) (λ x h. gives_ tt)
body_asked Q e (value_body v t) r = parts (asks (has v t) (reads r r.values) (λ k. k)) (λ x h. gives_ tt)

-- processes
process_asked : (Q : Mark → Type 0) (e : Environment) (p : Proc) → Reads Q e (in_proc p) → Steps Q nothing_ (rule e (process p))
process_asked Q e (send_proc s c v) x =
    parts (asks (gives (of_chan c)) (first x) (λ k. k)) (λ t h.
    in_channels (exposure (context_of e) t) _ _ (λ m u. ensures _ _ _ (
    parts (asks (has v u) (second (keeps_chan c) x) (λ k. k)) (λ y i. gives_ tt))))
process_asked Q e (receive_proc s c a) x = parts (asks (receives c a) x (λ k. k)) (λ y h. gives_ tt)
process_asked Q e (serve_proc s c a) x = parts (asks (receives c a) x (λ k. k)) (λ y h. gives_ tt)
process_asked Q e (if_proc s c p q) x =
    let y = second (keeps_val c) x in
    parts (asks (is_condition c) (first x) (λ k. k)) (λ b h.
    parts (asks (process p) (first y) (λ k. k)) (λ t i.
    parts (asks (process q) (second (keeps_proc p) y) (λ k. k)) (λ z k. gives_ tt)))
process_asked Q e (inert_proc s) x = gives_ tt
process_asked Q e (group_proc s ds ps) x =
    parts (asks (declarations ds) (first (in_closed x)) (λ k. k)) (λ d h.
    parts (asks (processes ps) (after_decs ds (in_closed x) h) (λ k. k)) (λ y i. gives_ tt))

processes_asked : (Q : Mark → Type 0) (e : Environment) (ps : Procs) → Reads Q e (in_procs ps) → Steps Q nothing_ (rule e (processes ps))
processes_asked Q e no_procs x = gives_ tt
processes_asked Q e (more_procs ps p) x =
    parts (asks (processes ps) (first x) (λ k. k)) (λ y h.
    parts (asks (process p) (second (keeps_procs ps) x) (λ k. k)) (λ z i. gives_ tt))

receives_asked : (Q : Mark → Type 0) (e : Environment) (c : Chan) (a : Abs) → Reads Q e (in_chan c ▸ in_abs a) → Steps Q nothing_ (rule e (receives c a))
receives_asked Q e c a x =
    parts (asks (gives (of_chan c)) (first x) (λ k. k)) (λ t h.
    in_channels (exposure (context_of e) t) _ _ (λ m u. ensures _ _ _ (
    parts (asks (abstraction_against a u) (second (keeps_chan c) x) (λ k. k)) (λ y i. gives_ tt))))

-- each judgement
pub all_read : (Q : Mark → Type 0) (s : Sort) (e : Environment) (j : Judgement s) → IsRead Q s e j → Steps Q s (rule e j)
all_read Q s e (gives v) r = val_gives Q e v (reads r r.values)
all_read Q s e (has v t) r = val_has Q e v t (reads r r.values)
all_read Q s e (is_condition v) r = has_below e v _ _ (reads r r.values)
all_read Q s e (values_give vs) r = all_give Q e vs (reads r r.values)
all_read Q s e (labelled_values_give ls) r = all_labelled_give Q e ls (reads r r.values)
all_read Q s e (application i f vs o) r = applies Q e i f vs o (reads r r.values)
all_read Q s e (fields_fit i f bs ps ms g) r = fields_asked Q e i f bs ps ms g (reads r r.values)
all_read Q s e (written_arguments i ts bs) r = arguments_asked Q e i ts bs (reads r r.values)
all_read Q s e (values_fit i vs ps g) r = positional_asked Q e i vs ps g (reads r r.values)
all_read Q s e (labelled_values_fit i ls ms g) r = labelled_asked Q e i ls ms g (reads r r.values)
all_read Q s e (value_fits i v t g) r = field_asked Q e i v t g (reads r r.values)
all_read Q s e (given_fits i v t u g) r = ensures _ _ _ (unless _ (needs (gives_ tt)))
all_read Q s e (abstraction_gives a) r = abstraction_given Q e a (reads r r.values)
all_read Q s e (abstraction_against a t) r = abstraction_asked Q e a t (reads r r.values)
all_read Q s e (pattern_gives p) r = pattern_given Q e p (reads_types r)
all_read Q s e (fields_give f) r = fields_given Q e f (reads_types r)
all_read Q s e (binders_give bs) r = binders_given Q e bs (reads_types r)
all_read Q s e (patterns_give ps) r = patterns_given Q e ps (reads_types r)
all_read Q s e (labelled_patterns_give ls) r = labels_given Q e ls (reads_types r)
all_read Q s e (pattern_against p t) r = pattern_asked Q e p t (reads_types r)
all_read Q s e (fields_against i f bs ps ls) r = fields_asked_of Q e i f bs ps ls (reads_types r)
all_read Q s e (binders_against bs rs) r = binders_asked Q e bs rs (reads_types r)
all_read Q s e (patterns_against ps ts) r = patterns_asked Q e ps ts (reads_types r)
all_read Q s e (labelled_patterns_against ls ms) r = labels_asked Q e ls ms (reads_types r)
all_read Q s e (declaration d) r = dec_asked Q e d (reads r r.values)
all_read Q s e (declarations ds) r = decs_asked Q e ds (reads r r.values)
all_read Q s e (signatures ds) r = signatures_asked Q e ds (reads_types r)
all_read Q s e (signature x a) r = signature_asked Q e x a (reads_types r)
all_read Q s e (bodies ss) r = bodies_asked Q e ss r
all_read Q s e (body b) r = body_asked Q e b r
all_read Q s e (process p) r = process_asked Q e p (reads r r.values)
all_read Q s e (processes ps) r = processes_asked Q e ps (reads r r.values)
all_read Q s e (receives c a) r = receives_asked Q e c a (reads r r.values)
