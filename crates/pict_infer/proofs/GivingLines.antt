-- The rules of patterns that give their type, step by step.
use Rattle.std.proofs.Common.{◌≡◌, ◌<◌, ◌≤◌, ◌+◌, ℕ, List, [], ◌∷◌, ◌++◌, length, take, get_or, Some, None, sym, ◌∙◌, ap, ap₂, subst}
use Rattle.std.proofs.lemmas.List.{take_all}
use Rattle.pict_syntax.specs.declared.code.Code.TheVariants.{Y13}
use Rattle.pict_syntax.specs.declared.id.Id.{Id}
use Rattle.pict_syntax.specs.declared.name.Name.{Name}
use Rattle.pict_syntax.specs.declared.span.Span.{Span}
use Rattle.pict_syntax.specs.declared.pattern.Pat.{Pat as RPat}
use Rattle.pict_syntax.specs.declared.pattern.LabelledPat.{LabelledPat as RLabelledPat}
use Rattle.pict_syntax.specs.Trees.{RType, Pat, bind_pat, any_pat, fields_pat, fold_pat, FieldPats, field_pats, TypeBinders, Pats, no_pats, more_pats, LabelledPats, no_labelled_pats, more_labelled_pats}
use Rattle.pict_syntax.specs.PlainTrees.{pat_of, pats_on, labelled_pats_on}
use Rattle.pict_syntax.specs.Labels.{by_number, in_label_order}
use Rattle.pict_syntax.proofs.PatternLists.{labelled_pats_none, pats_none}
use Rattle.pict_types.specs.declared.types.Ty.{Ty}
use Rattle.pict_types.specs.Plain.{plain, plain_labels, plain_types}
use Rattle.pict_types.specs.Types.{PlainType, PlainTypes, PlainLabels, Top, Int, Char, Str, Boolean, Var, Apply, Chan, Fields, Rec, no_type, no_label}
use Rattle.pict_types.specs.Recursion.{unfolded}
use Rattle.pict_normal.specs.Normal.{kind_stop, size_stop, and_type, with_labelled_type}
use Rattle.pict_normal.proofs.LabelOrder.{fields_sorted, in_order, in_order_and, labels_and}
use Rattle.pict_normal.proofs.Trees.{types_and}
use Rattle.pict_rules.specs.Environments.{Environment, Extension, KnownType, bounds_of, joined_extensions, no_extension, one_value, within}
use Rattle.pict_rules.specs.Rules.{Sort, nothing_, type_, pattern_, patterns_, labelled_patterns_, fields_, Result as Given, Rule, give, part, ok, TypedPattern, TypedPatterns, TypedLabels, TypedFields, pattern_gives, fields_give, binders_give, patterns_give, labelled_patterns_give, pattern_against, within_limits}
use Rattle.pict_rules.specs.Clauses.{need_recursive, with_own}
use Rattle.pict_rules.specs.Typing.{rule}
use Rattle.pict_rules.specs.Derivations.{Runs, give_, part_ok, part_stuck}
use Rattle.pict_infer.specs.declared.error.InferError.{InferError}
use Rattle.pict_infer.specs.declared.error.InferError.TheVariants.{Named, Memory}
use Rattle.pict_infer.specs.Answering.{IsRefused}
use Rattle.pict_infer.specs.Steps as steps
use Rattle.pict_infer.specs.Steps.{annotated, limited, recursive}
use Rattle.pict_infer.proofs.Through.{GoesOn, given, refused, refused_on, refused_past, unstopped, parted}
use Rattle.pict_infer.proofs.Forms.{next_pat, next_labelled}
use Rattle.pict_infer.proofs.PatternPlaces.{kept_on, labelled_kept_on}

-- a rule that gives this
gives_this : {s : Sort} (x y : Given s) → x ≡ y → Runs {s = s} (give x) (ok y)
gives_this {s = s} x y h = subst (λ z. Runs {s = s} (give x) (ok z)) h give_

-- a variable and a wildcard: the annotation
variable_gives : (e : Environment) (s : Span) (x : Id) (a : RType) → GoesOn type_ pattern_ (annotated e a s) (rule e (pattern_gives (bind_pat s x a))) (λ t. give (record { has = t; adds = one_value x t }))
variable_gives e s x None = refused
variable_gives e s x (Some a) = unstopped (kind_stop e.names e.context a) given

pub variable_refused : (e : Environment) (s : Span) (x : Id) (a : RType) (y : InferError) → IsRefused (annotated e a s) y → IsRefused (rule e (pattern_gives (bind_pat s x a))) y
variable_refused e s x a y h = refused_on y (variable_gives e s x a) h

pub variable_typed : (e : Environment) (s : Span) (x : Id) (a : RType) (t : PlainType) (z : Extension) → Runs (annotated e a s) (ok t) → z ≡ one_value x t → Runs (rule e (pattern_gives (bind_pat s x a))) (ok (record { has = t; adds = z }))
variable_typed e s x a t z p h =
    (variable_gives e s x a).on_ok t (ok (record { has = t; adds = z })) p
    (gives_this {s = pattern_} (record { has = t; adds = one_value x t }) (record { has = t; adds = z }) (ap (λ (w : Extension). let g : TypedPattern = record { has = t; adds = w } in g) (sym h)))

any_gives : (e : Environment) (s : Span) (a : RType) → GoesOn type_ pattern_ (annotated e a s) (rule e (pattern_gives (any_pat s a))) (λ t. give (record { has = t; adds = no_extension }))
any_gives e s None = refused
any_gives e s (Some a) = unstopped (kind_stop e.names e.context a) given

pub any_refused : (e : Environment) (s : Span) (a : RType) (y : InferError) → IsRefused (annotated e a s) y → IsRefused (rule e (pattern_gives (any_pat s a))) y
any_refused e s a y h = refused_on y (any_gives e s a) h

pub any_typed : (e : Environment) (s : Span) (a : RType) (t : PlainType) (z : Extension) → Runs (annotated e a s) (ok t) → z ≡ no_extension → Runs (rule e (pattern_gives (any_pat s a))) (ok (record { has = t; adds = z }))
any_typed e s a t z p h =
    (any_gives e s a).on_ok t (ok (record { has = t; adds = z })) p
    (gives_this {s = pattern_} (record { has = t; adds = no_extension }) (record { has = t; adds = z }) (ap (λ (w : Extension). let g : TypedPattern = record { has = t; adds = w } in g) (sym h)))

-- a fold: the annotation, that it is recursive, its unfolding, and the inner pattern
abbrev fold_inside : Environment → Pat → PlainType → PlainType → Rule pattern_
fold_inside e p t u = part e (pattern_against p u) (λ x. give (record { has = t; adds = x }))

abbrev fold_rest : Environment → Span → Pat → PlainType → Rule pattern_
fold_rest e s p t = need_recursive t Y13 s (λ u. within_limits e u s (fold_inside e p t u))

fold_gives : (e : Environment) (s : Span) (a : RType) (p : Pat) → GoesOn type_ pattern_ (annotated e a s) (rule e (pattern_gives (fold_pat s a p))) (fold_rest e s p)
fold_gives e s None p = refused
fold_gives e s (Some a) p = unstopped (kind_stop e.names e.context a) given

fold_recursive : (e : Environment) (s : Span) (p : Pat) (t : PlainType) → GoesOn nothing_ pattern_ (recursive t s) (fold_rest e s p t) (λ x. within_limits e (unfolded t) s (fold_inside e p t (unfolded t)))
fold_recursive e s p Top = refused
fold_recursive e s p Int = refused
fold_recursive e s p Char = refused
fold_recursive e s p Str = refused
fold_recursive e s p Boolean = refused
fold_recursive e s p (Var i) = refused
fold_recursive e s p (Apply i ts) = refused
fold_recursive e s p (Chan m t) = refused
fold_recursive e s p (Fields bs ps ls) = refused
fold_recursive e s p (Rec t) = given

fold_within : (e : Environment) (s : Span) (p : Pat) (t : PlainType) → GoesOn type_ pattern_ (steps.unfolded e t s) (within_limits e (unfolded t) s (fold_inside e p t (unfolded t))) (fold_inside e p t)
fold_within e s p t = unstopped (size_stop e.context (unfolded t) s) given

pub fold_refused : (e : Environment) (s : Span) (a : RType) (p : Pat) (y : InferError) → IsRefused (annotated e a s) y → IsRefused (rule e (pattern_gives (fold_pat s a p))) y
fold_refused e s a p y h = refused_on y (fold_gives e s a p) h

pub fold_not_recursive : (e : Environment) (s : Span) (a : RType) (p : Pat) (t : PlainType) (y : InferError) → Runs (annotated e a s) (ok t) → IsRefused (recursive t s) y → IsRefused (rule e (pattern_gives (fold_pat s a p))) y
fold_not_recursive e s a p t y q h = refused_past t y (fold_gives e s a p) q (refused_on y (fold_recursive e s p t) h)

pub fold_too_big : (e : Environment) (s : Span) (a : RType) (p : Pat) (t : PlainType) (y : InferError) → Runs (annotated e a s) (ok t) → Runs (recursive t s) (ok tt) → IsRefused (steps.unfolded e t s) y → IsRefused (rule e (pattern_gives (fold_pat s a p))) y
fold_too_big e s a p t y q r h = refused_past t y (fold_gives e s a p) q (refused_past tt y (fold_recursive e s p t) r (refused_on y (fold_within e s p t) h))

pub fold_inner_refused : (e : Environment) (s : Span) (a : RType) (p : Pat) (t u : PlainType) (y : InferError) → Runs (annotated e a s) (ok t) → Runs (recursive t s) (ok tt) → Runs (steps.unfolded e t s) (ok u)
    → IsRefused (rule e (pattern_against p u)) y → IsRefused (rule e (pattern_gives (fold_pat s a p))) y
fold_inner_refused e s a p t u y q r v h =
    refused_past t y (fold_gives e s a p) q (refused_past tt y (fold_recursive e s p t) r (refused_past u y (fold_within e s p t) v (refused_on y parted h)))

pub fold_typed : (e : Environment) (s : Span) (a : RType) (p : Pat) (t u : PlainType) (x : Extension) → Runs (annotated e a s) (ok t) → Runs (recursive t s) (ok tt) → Runs (steps.unfolded e t s) (ok u)
    → Runs (rule e (pattern_against p u)) (ok x) → Runs (rule e (pattern_gives (fold_pat s a p))) (ok (record { has = t; adds = x }))
fold_typed e s a p t u x q r v h =
    (fold_gives e s a p).on_ok t (ok (record { has = t; adds = x })) q
    ((fold_recursive e s p t).on_ok tt (ok (record { has = t; adds = x })) r
    ((fold_within e s p t).on_ok u (ok (record { has = t; adds = x })) v (part_ok h give_)))

-- a record: its fields, and that its type is within the limits
abbrev fields_type : TypedFields → PlainType
fields_type g = Fields (bounds_of g.own) g.positional g.labelled

abbrev record_rest : Environment → Span → TypedFields → Rule pattern_
record_rest e s g = within_limits e (fields_type g) s (give (record { has = fields_type g; adds = within g.own g.adds }))

record_gives : (e : Environment) (s : Span) (f : FieldPats) → GoesOn fields_ pattern_ (rule e (fields_give f)) (rule e (pattern_gives (fields_pat s f))) (record_rest e s)
record_gives e s f = parted

record_within : (e : Environment) (s : Span) (g : TypedFields) → GoesOn nothing_ pattern_ (limited e (fields_type g) s) (record_rest e s g) (λ x. give (record { has = fields_type g; adds = within g.own g.adds }))
record_within e s g = unstopped (size_stop e.context (fields_type g) s) given

pub record_refused : (e : Environment) (s : Span) (f : FieldPats) (y : InferError) → IsRefused (rule e (fields_give f)) y → IsRefused (rule e (pattern_gives (fields_pat s f))) y
record_refused e s f y h = refused_on y (record_gives e s f) h

pub record_too_big : (e : Environment) (s : Span) (f : FieldPats) (g : TypedFields) (t : PlainType) (y : InferError) → Runs (rule e (fields_give f)) (ok g) → t ≡ fields_type g → IsRefused (limited e t s) y → IsRefused (rule e (pattern_gives (fields_pat s f))) y
record_too_big e s f g t y p is h = refused_past g y (record_gives e s f) p (refused_on y (record_within e s g) (subst (λ u. IsRefused (limited e u s) y) is h))

pub record_typed : (e : Environment) (s : Span) (f : FieldPats) (g : TypedFields) (t : PlainType) (x : Extension) → Runs (rule e (fields_give f)) (ok g) → t ≡ fields_type g → Runs (limited e t s) (ok tt) → x ≡ within g.own g.adds
    → Runs (rule e (pattern_gives (fields_pat s f))) (ok (record { has = t; adds = x }))
record_typed e s f g t x p is h k =
    (record_gives e s f).on_ok g (ok (record { has = t; adds = x })) p
    ((record_within e s g).on_ok tt (ok (record { has = t; adds = x })) (subst (λ u. Runs (limited e u s) (ok tt)) is h)
    (gives_this {s = pattern_} (record { has = fields_type g; adds = within g.own g.adds }) (record { has = t; adds = x }) (ap₂ (λ (u : PlainType) (w : Extension). let q : TypedPattern = record { has = u; adds = w } in q) (sym is) (sym k))))

-- the fields: the type binders, then the positional ones, then the labelled ones
pub binders_refused : (e : Environment) (bs : TypeBinders) (ps : Pats) (ls : LabelledPats) (y : InferError) → IsRefused (rule e (binders_give bs)) y → IsRefused (rule e (fields_give (field_pats bs ps ls))) y
binders_refused e bs ps ls (Named c i told) h = part_stuck h
binders_refused e bs ps ls Memory h = tt

pub positional_refused : (e : Environment) (bs : TypeBinders) (ps : Pats) (ls : LabelledPats) (own : List KnownType) (y : InferError) → Runs (rule e (binders_give bs)) (ok own) → IsRefused (rule (with_own e own) (patterns_give ps)) y
    → IsRefused (rule e (fields_give (field_pats bs ps ls))) y
positional_refused e bs ps ls own (Named c i told) p h = part_ok p (part_stuck h)
positional_refused e bs ps ls own Memory p h = tt

pub labelled_refused : (e : Environment) (bs : TypeBinders) (ps : Pats) (ls : LabelledPats) (own : List KnownType) (g : TypedPatterns) (y : InferError) → Runs (rule e (binders_give bs)) (ok own) → Runs (rule (with_own e own) (patterns_give ps)) (ok g)
    → IsRefused (rule (with_own e own) (labelled_patterns_give ls)) y → IsRefused (rule e (fields_give (field_pats bs ps ls))) y
labelled_refused e bs ps ls own g (Named c i told) p q h = part_ok p (part_ok q (part_stuck h))
labelled_refused e bs ps ls own g Memory p q h = tt

pub fields_typed : (e : Environment) (bs : TypeBinders) (ps : Pats) (ls : LabelledPats) (own : List KnownType) (g : TypedPatterns) (h : TypedLabels) → Runs (rule e (binders_give bs)) (ok own) → Runs (rule (with_own e own) (patterns_give ps)) (ok g)
    → Runs (rule (with_own e own) (labelled_patterns_give ls)) (ok h) → Runs (rule e (fields_give (field_pats bs ps ls))) (ok (record { own = own; positional = g.have; labelled = h.have; adds = joined_extensions g.adds h.adds }))
fields_typed e bs ps ls own g h p q r = part_ok p (part_ok q (part_ok r give_))

pub one_pattern_more : (e : Environment) (xs : List RPat) (i : ℕ) (p : RPat) (g : TypedPatterns) (h : TypedPattern) → i < length xs → p ≡ get_or xs i p → Runs (rule e (patterns_give (pats_on no_pats (take i xs)))) (ok g)
    → Runs (rule e (pattern_gives (pat_of p))) (ok h) → Runs (rule e (patterns_give (pats_on no_pats (take (i + 1) xs)))) (ok (record { have = and_type g.have h.has; adds = joined_extensions g.adds h.adds }))
one_pattern_more e xs i p g h n is r k =
    subst (λ ps. Runs (rule e (patterns_give ps)) (ok (record { have = and_type g.have h.has; adds = joined_extensions g.adds h.adds }))) (sym (next_pat xs i p n is)) (part_ok r (part_ok k give_))

refused_further : (e : Environment) (y : InferError) (ps : Pats) (p : Pat) → IsRefused (rule e (patterns_give ps)) y → IsRefused (rule e (patterns_give (more_pats ps p))) y
refused_further e (Named c i told) ps p h = part_stuck h
refused_further e Memory ps p h = tt

refused_here : (e : Environment) (y : InferError) (ps : Pats) (p : Pat) (g : TypedPatterns) → Runs (rule e (patterns_give ps)) (ok g) → IsRefused (rule e (pattern_gives p)) y → IsRefused (rule e (patterns_give (more_pats ps p))) y
refused_here e (Named c i told) ps p g r h = part_ok r (part_stuck h)
refused_here e Memory ps p g r h = tt

pub pattern_refused : (e : Environment) (xs : List RPat) (i : ℕ) (p : RPat) (g : TypedPatterns) (y : InferError) → i < length xs → p ≡ get_or xs i p → Runs (rule e (patterns_give (pats_on no_pats (take i xs)))) (ok g)
    → IsRefused (rule e (pattern_gives (pat_of p))) y → IsRefused (rule e (patterns_give (pats_on no_pats xs))) y
pattern_refused e xs i p g y n is r h =
    kept_on (λ ps. IsRefused (rule e (patterns_give ps)) y) (refused_further e y) xs i p n is (refused_here e y (pats_on no_pats (take i xs)) (pat_of p) g r h)

pub one_label_more : (e : Environment) (xs : List RLabelledPat) (i : ℕ) (l : RLabelledPat) (g : TypedLabels) (h : TypedPattern) → i < length xs → l ≡ get_or xs i l → Runs (rule e (labelled_patterns_give (labelled_pats_on no_labelled_pats (take i xs)))) (ok g)
    → Runs (rule e (pattern_gives (pat_of l.pat))) (ok h) → Runs (rule e (labelled_patterns_give (labelled_pats_on no_labelled_pats (take (i + 1) xs)))) (ok (record { have = with_labelled_type e.names l.label.name.0 h.has g.have; adds = joined_extensions g.adds h.adds }))
one_label_more e xs i l g h n is r k =
    subst (λ ls. Runs (rule e (labelled_patterns_give ls)) (ok (record { have = with_labelled_type e.names l.label.name.0 h.has g.have; adds = joined_extensions g.adds h.adds }))) (sym (next_labelled xs i l n is)) (part_ok r (part_ok k give_))

label_further : (e : Environment) (y : InferError) (ls : LabelledPats) (l : Id) (p : Pat) → IsRefused (rule e (labelled_patterns_give ls)) y → IsRefused (rule e (labelled_patterns_give (more_labelled_pats ls l p))) y
label_further e (Named c i told) ls l p h = part_stuck h
label_further e Memory ls l p h = tt

label_here : (e : Environment) (y : InferError) (ls : LabelledPats) (l : Id) (p : Pat) (g : TypedLabels) → Runs (rule e (labelled_patterns_give ls)) (ok g) → IsRefused (rule e (pattern_gives p)) y → IsRefused (rule e (labelled_patterns_give (more_labelled_pats ls l p))) y
label_here e (Named c i told) ls l p g r h = part_ok r (part_stuck h)
label_here e Memory ls l p g r h = tt

pub label_refused : (e : Environment) (xs : List RLabelledPat) (i : ℕ) (l : RLabelledPat) (g : TypedLabels) (y : InferError) → i < length xs → l ≡ get_or xs i l → Runs (rule e (labelled_patterns_give (labelled_pats_on no_labelled_pats (take i xs)))) (ok g)
    → IsRefused (rule e (pattern_gives (pat_of l.pat))) y → IsRefused (rule e (labelled_patterns_give (labelled_pats_on no_labelled_pats xs))) y
label_refused e xs i l g y n is r h =
    labelled_kept_on (λ ls. IsRefused (rule e (labelled_patterns_give ls)) y) (label_further e y) xs i l n is (label_here e y (labelled_pats_on no_labelled_pats (take i xs)) l.label (pat_of l.pat) g r h)

pub all_labels : (e : Environment) (xs : List RLabelledPat) (i : ℕ) (g : TypedLabels) → length xs ≤ i → Runs (rule e (labelled_patterns_give (labelled_pats_on no_labelled_pats (take i xs)))) (ok g) → Runs (rule e (labelled_patterns_give (labelled_pats_on no_labelled_pats xs))) (ok g)
all_labels e xs i g h r = subst (λ ys. Runs (rule e (labelled_patterns_give (labelled_pats_on no_labelled_pats ys))) (ok g)) (take_all i xs h) r

-- lists that the code keeps: none of them, one more, and all
pub patterns_start : (e : Environment) (us : List Ty) (x : Extension) → us ≡ [] → x ≡ no_extension → Runs (rule e (patterns_give (pats_on no_pats []))) (ok (record { have = plain_types us; adds = x }))
patterns_start e us x h k =
    subst (λ ps. Runs (rule e (patterns_give ps)) (ok (record { have = plain_types us; adds = x }))) (sym (pats_none no_pats))
    (gives_this {s = patterns_} (record { have = no_type; adds = no_extension }) (record { have = plain_types us; adds = x }) (ap₂ (λ (vs : List Ty) (w : Extension). let g : TypedPatterns = record { have = plain_types vs; adds = w } in g) (sym h) (sym k)))

pub patterns_more : (e : Environment) (xs : List RPat) (i : ℕ) (p : RPat) (us vs : List Ty) (u : Ty) (x y z : Extension) → i < length xs → p ≡ get_or xs i p → Runs (rule e (patterns_give (pats_on no_pats (take i xs)))) (ok (record { have = plain_types us; adds = x }))
    → Runs (rule e (pattern_gives (pat_of p))) (ok (record { has = plain u; adds = y })) → vs ≡ us ++ u ∷ [] → z ≡ joined_extensions x y → Runs (rule e (patterns_give (pats_on no_pats (take (i + 1) xs)))) (ok (record { have = plain_types vs; adds = z }))
patterns_more e xs i p us vs u x y z n is r k h q =
    let have : and_type (plain_types us) (plain u) ≡ plain_types vs = sym (ap plain_types h ∙ types_and us u) in
    subst (λ (g : TypedPatterns). Runs (rule e (patterns_give (pats_on no_pats (take (i + 1) xs)))) (ok g)) (ap₂ (λ (ts : PlainTypes) (w : Extension). let g : TypedPatterns = record { have = ts; adds = w } in g) have (sym q))
    (one_pattern_more e xs i p (record { have = plain_types us; adds = x }) (record { has = plain u; adds = y }) n is r k)

pub labels_start : (e : Environment) (us : List (Name × Ty)) (x : Extension) → us ≡ [] → x ≡ no_extension → Runs (rule e (labelled_patterns_give (labelled_pats_on no_labelled_pats []))) (ok (record { have = in_order e.names (plain_labels us); adds = x }))
labels_start e us x h k =
    subst (λ ls. Runs (rule e (labelled_patterns_give ls)) (ok (record { have = in_order e.names (plain_labels us); adds = x }))) (sym (labelled_pats_none no_labelled_pats))
    (gives_this {s = labelled_patterns_} (record { have = no_label; adds = no_extension }) (record { have = in_order e.names (plain_labels us); adds = x })
    (ap₂ (λ (vs : List (Name × Ty)) (w : Extension). let g : TypedLabels = record { have = in_order e.names (plain_labels vs); adds = w } in g) (sym h) (sym k)))

pub labels_more : (e : Environment) (xs : List RLabelledPat) (i : ℕ) (l : RLabelledPat) (us vs : List (Name × Ty)) (u : Ty) (x y z : Extension) → i < length xs → l ≡ get_or xs i l
    → Runs (rule e (labelled_patterns_give (labelled_pats_on no_labelled_pats (take i xs)))) (ok (record { have = in_order e.names (plain_labels us); adds = x })) → Runs (rule e (pattern_gives (pat_of l.pat))) (ok (record { has = plain u; adds = y }))
    → vs ≡ us ++ (l.label.name, u) ∷ [] → z ≡ joined_extensions x y → Runs (rule e (labelled_patterns_give (labelled_pats_on no_labelled_pats (take (i + 1) xs)))) (ok (record { have = in_order e.names (plain_labels vs); adds = z }))
labels_more e xs i l us vs u x y z n is r k h q =
    let have : with_labelled_type e.names l.label.name.0 (plain u) (in_order e.names (plain_labels us)) ≡ in_order e.names (plain_labels vs) =
    sym (ap (λ ws. in_order e.names (plain_labels ws)) h ∙ ap (in_order e.names) (labels_and us (l.label.name, u)) ∙ in_order_and e.names (plain_labels us) l.label.name.0 (plain u)) in
    subst (λ (g : TypedLabels). Runs (rule e (labelled_patterns_give (labelled_pats_on no_labelled_pats (take (i + 1) xs)))) (ok g)) (ap₂ (λ (ts : PlainLabels) (w : Extension). let g : TypedLabels = record { have = ts; adds = w } in g) have (sym q))
    (one_label_more e xs i l (record { have = in_order e.names (plain_labels us); adds = x }) (record { has = plain u; adds = y }) n is r k)

pub labels_end : (e : Environment) (xs : List RLabelledPat) (i : ℕ) (us vs : List (Name × Ty)) (x : Extension) → length xs ≤ i → Runs (rule e (labelled_patterns_give (labelled_pats_on no_labelled_pats (take i xs)))) (ok (record { have = in_order e.names (plain_labels us); adds = x }))
    → by_number vs ≡ in_label_order e.names (by_number us) → Runs (rule e (labelled_patterns_give (labelled_pats_on no_labelled_pats xs))) (ok (record { have = plain_labels vs; adds = x }))
labels_end e xs i us vs x n r h =
    subst (λ (g : TypedLabels). Runs (rule e (labelled_patterns_give (labelled_pats_on no_labelled_pats xs))) (ok g)) (ap (λ (ts : PlainLabels). let g : TypedLabels = record { have = ts; adds = x } in g) (sym (fields_sorted e.names us vs h)))
    (all_labels e xs i (record { have = in_order e.names (plain_labels us); adds = x }) n r)
