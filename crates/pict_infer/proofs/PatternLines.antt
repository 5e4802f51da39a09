-- The rules of patterns against a type, step by step.
use Rattle.std.proofs.Common.{◌≡◌, ◌<◌, ◌≤◌, ◌+◌, ℕ, nat_eq, List, length, take, get_or, Option, Some, None, Result, Ok, Err, sym, ◌∙◌, ap, subst, arith, eq-eqb}
use Rattle.std.proofs.lemmas.List.{length-take-le}
use Rattle.pict_syntax.specs.declared.code.Code.{Code}
use Rattle.pict_syntax.specs.declared.code.Code.TheVariants.{Y4, Y5, Y6, Y13}
use Rattle.pict_syntax.specs.declared.id.Id.{Id}
use Rattle.pict_syntax.specs.declared.span.Span.{Span}
use Rattle.pict_syntax.specs.declared.pattern.Pat.{Pat as RPat}
use Rattle.pict_syntax.specs.declared.pattern.LabelledPat.{LabelledPat as RLabelledPat}
use Rattle.pict_syntax.specs.Trees.{TypeTree, RType, Pat, bind_pat, any_pat, fields_pat, fold_pat, FieldPats, field_pats, TypeBinders, Pats, no_pats, more_pats, LabelledPats, no_labelled_pats, more_labelled_pats}
use Rattle.pict_syntax.specs.PlainTrees.{pat_of, pats_on, labelled_pats_on}
use Rattle.pict_syntax.specs.Grammar.{pat_span}
use Rattle.pict_types.specs.declared.types.Ty.{Ty}
use Rattle.pict_types.specs.Types.{PlainType, Top, Int, Char, Str, Boolean, Var, Apply, Chan, Fields, Rec, PlainTypes, PlainLabels, PlainBounds, count_types, count_bounds, type_at}
use Rattle.pict_types.specs.Plain.{plain}
use Rattle.pict_types.specs.Recursion.{unfolded}
use Rattle.pict_normal.specs.Normal.{normal, kind_stop, size_stop}
use Rattle.pict_sub.specs.Exposing.{exposure}
use Rattle.pict_rules.specs.Counts.{count_pats, count_binders}
use Rattle.pict_rules.specs.Shapes.{nth_type}
use Rattle.pict_rules.specs.Environments.{Environment, Extension, KnownType, context_of, joined_extensions, no_extension, one_value, within}
use Rattle.pict_rules.specs.Rules.{Sort, nothing_, type_, extension_, opened_, Result as Given, Judgement, Rule, Answer, give, refuse, need, part, ok, stuck, is_subtype, OpenedFields, ensure, pattern_against, fields_against, binders_against, patterns_against, labelled_patterns_against, within_limits}
use Rattle.pict_rules.specs.Clauses.{if_labelled, if_record, need_recursive, with_own}
use Rattle.pict_rules.specs.Typing.{rule}
use Rattle.pict_rules.specs.Derivations.{Runs, give_, refuse_, part_ok, part_stuck}
use Rattle.pict_infer.specs.declared.error.InferError.{InferError}
use Rattle.pict_infer.specs.declared.error.InferError.TheVariants.{Named, Memory}
use Rattle.pict_infer.specs.Answering.{IsRefused, IsAnswer}
use Rattle.pict_infer.specs.Shaping.{IsNoRecord}
use Rattle.pict_infer.specs.Against.{at_label, closed_fields}
use Rattle.pict_infer.specs.Steps as steps
use Rattle.pict_infer.specs.Steps.{below, expanded, fold_unfolded, recursive}
use Rattle.pict_infer.proofs.Through.{GoesOn, given, refused, refused_on, refused_past, needed, unstopped, cased_recursive}
use Rattle.pict_infer.proofs.Forms.{next_pat, next_labelled, count_of_pats}
use Rattle.pict_infer.proofs.PatternPlaces.{kept_on, labelled_kept_on}
use Rattle.std.proofs.lemmas.Bool.{ne_eqb}

-- a variable and a wildcard with an annotation: it is expanded, and then the type is below it
pub variable_annotated : (e : Environment) (s : Span) (x : Id) (a : TypeTree) (t : PlainType) → GoesOn type_ extension_ (expanded e a) (rule e (pattern_against (bind_pat s x (Some a)) t)) (λ u. need (is_subtype (context_of e) t u) Y4 s (give (one_value x u)))
variable_annotated e s x a t = unstopped (kind_stop e.names e.context a) given

pub any_annotated : (e : Environment) (s : Span) (a : TypeTree) (t : PlainType) → GoesOn type_ extension_ (expanded e a) (rule e (pattern_against (any_pat s (Some a)) t)) (λ u. need (is_subtype (context_of e) t u) Y4 s (give no_extension))
any_annotated e s a t = unstopped (kind_stop e.names e.context a) given

pub below_then : (e : Environment) (t u : PlainType) (c : Code) (s : Span) {k : Sort} {r : Rule k} → GoesOn nothing_ k (below e t u c s) (need (is_subtype (context_of e) t u) c s r) (λ x. r)
below_then e t u c s = needed given

-- the part that comes last
last_ok : {s : Sort} {e : Environment} {j : Judgement s} (a : Answer s) → Runs (rule e j) a → Runs (part e j give) a
last_ok (ok x) h = part_ok h give_
last_ok (stuck c i) h = part_stuck h

then_ok : {e : Environment} {p : Pat} {u : PlainType} (v : PlainType) (a : Answer extension_) → Runs {s = type_} (give u) (ok v) → Runs (rule e (pattern_against p v)) a → Runs (part e (pattern_against p u) give) a
then_ok v a give_ h = last_ok a h

then_stuck : {e : Environment} {p : Pat} {u : PlainType} (c : Code) (i : Span) → Runs {s = type_} (give u) (stuck c i) → Runs {s = extension_} (part e (pattern_against p u) give) (stuck c i)
then_stuck c i h = elim h [ ]

one_part : {e : Environment} {p : Pat} {u : PlainType} → GoesOn type_ extension_ (give u) (part e (pattern_against p u) give) (λ v. rule e (pattern_against p v))
one_part = record { on_ok = then_ok; on_stuck = then_stuck }

-- a fold: its unfolding, and then the inner pattern
pub fold_goes_on : (e : Environment) (s : Span) (r : RType) (p : Pat) (t : PlainType) → GoesOn type_ extension_ (fold_unfolded e r t s) (rule e (pattern_against (fold_pat s r p) t)) (λ u. rule e (pattern_against p u))
fold_goes_on e s None p t = cased_recursive (exposure (context_of e) t) Y13 s (λ u. unstopped (size_stop e.context u s) one_part)
fold_goes_on e s (Some a) p t = unstopped (kind_stop e.names e.context a) (cased_recursive (normal e.names e.context a) Y13 s (λ u. needed (unstopped (size_stop e.context u s) one_part)))

-- patterns side by side
pub no_pattern : (e : Environment) (xs : List RPat) (ts : PlainTypes) (z : Extension) → z ≡ no_extension → Runs (rule e (patterns_against (pats_on no_pats (take 0 xs)) ts)) (ok z)
unfolding pats_on
no_pattern e xs ts z h = subst (λ (w : Extension). Runs {s = extension_} (give no_extension) (ok w)) (sym h) give_

pub no_label : (e : Environment) (xs : List RLabelledPat) (ms : PlainLabels) (z : Extension) → z ≡ no_extension → Runs (rule e (labelled_patterns_against (labelled_pats_on no_labelled_pats (take 0 xs)) ms)) (ok z)
unfolding labelled_pats_on
no_label e xs ms z h = subst (λ (w : Extension). Runs {s = extension_} (give no_extension) (ok w)) (sym h) give_

next_type : (xs : List RPat) (i : ℕ) (ts : PlainTypes) → i ≤ length xs → nth_type (count_pats (pats_on no_pats (take i xs))) ts ≡ nth_type i ts
next_type xs i ts h = ap (λ n. nth_type n ts) (count_of_pats (take i xs) ∙ length-take-le i xs h)

pub one_pattern_more : (e : Environment) (xs : List RPat) (i : ℕ) (p : RPat) (ts : PlainTypes) (x y : Extension) → i < length xs → p ≡ get_or xs i p → Runs (rule e (patterns_against (pats_on no_pats (take i xs)) ts)) (ok x)
    → Runs (rule e (pattern_against (pat_of p) (nth_type i ts))) (ok y) → Runs (rule e (patterns_against (pats_on no_pats (take (i + 1) xs)) ts)) (ok (joined_extensions x y))
one_pattern_more e xs i p ts x y h is r k =
    let same = next_type xs i ts (omega (arith, h)) in
    let now : Runs (rule e (pattern_against (pat_of p) (nth_type (count_pats (pats_on no_pats (take i xs))) ts))) (ok y) = subst (λ t. Runs (rule e (pattern_against (pat_of p) t)) (ok y)) (sym same) k in
    subst (λ ps. Runs (rule e (patterns_against ps ts)) (ok (joined_extensions x y))) (sym (next_pat xs i p h is)) (part_ok r (part_ok now give_))

refused_more : (e : Environment) (ts : PlainTypes) (y : InferError) (ps : Pats) (q : Pat) → IsRefused (rule e (patterns_against ps ts)) y → IsRefused (rule e (patterns_against (more_pats ps q) ts)) y
refused_more e ts (Named c i told) ps q h = part_stuck h
refused_more e ts Memory ps q h = tt

refused_here : (e : Environment) (ps : Pats) (p : Pat) (ts : PlainTypes) (x : Extension) (y : InferError) → Runs (rule e (patterns_against ps ts)) (ok x) → IsRefused (rule e (pattern_against p (nth_type (count_pats ps) ts))) y → IsRefused (rule e (patterns_against (more_pats ps p) ts)) y
refused_here e ps p ts x (Named c i told) r h = part_ok r (part_stuck h)
refused_here e ps p ts x Memory r h = tt

pub pattern_refused : (e : Environment) (xs : List RPat) (i : ℕ) (p : RPat) (ts : PlainTypes) (x : Extension) (y : InferError) → i < length xs → p ≡ get_or xs i p → Runs (rule e (patterns_against (pats_on no_pats (take i xs)) ts)) (ok x)
    → IsRefused (rule e (pattern_against (pat_of p) (nth_type i ts))) y → IsRefused (rule e (patterns_against (pats_on no_pats xs) ts)) y
pattern_refused e xs i p ts x y h is r k =
    let same = next_type xs i ts (omega (arith, h)) in
    let now : IsRefused (rule e (pattern_against (pat_of p) (nth_type (count_pats (pats_on no_pats (take i xs))) ts))) y = subst (λ t. IsRefused (rule e (pattern_against (pat_of p) t)) y) (sym same) k in
    kept_on (λ ps. IsRefused (rule e (patterns_against ps ts)) y) (refused_more e ts y) xs i p h is (refused_here e (pats_on no_pats (take i xs)) (pat_of p) ts x y r now)

-- labelled patterns
label_refused_more : (e : Environment) (ms : PlainLabels) (y : InferError) (ls : LabelledPats) (l : Id) (q : Pat) → IsRefused (rule e (labelled_patterns_against ls ms)) y → IsRefused (rule e (labelled_patterns_against (more_labelled_pats ls l q) ms)) y
label_refused_more e ms (Named c i told) ls l q h = part_stuck h
label_refused_more e ms Memory ls l q h = tt

at_label_ok : (e : Environment) (l : ℕ) (p : Pat) (ms : PlainLabels) (o : Option PlainType) (x y : Extension) → Runs {s = extension_} (if_labelled o (λ t. rule e (pattern_against p t)) (refuse Y6 (pat_span p))) (ok y)
    → Runs {s = extension_} (if_labelled o (λ t. part e (pattern_against p t) (λ y. give (joined_extensions x y))) (refuse Y6 (pat_span p))) (ok (joined_extensions x y))
at_label_ok e l p ms None x y h = elim h [ ]
at_label_ok e l p ms (Some t) x y h = part_ok h give_

at_label_stuck : (e : Environment) (p : Pat) (o : Option PlainType) (x : Extension) (c : Code) (i : Span) → Runs {s = extension_} (if_labelled o (λ t. rule e (pattern_against p t)) (refuse Y6 (pat_span p))) (stuck c i)
    → Runs {s = extension_} (if_labelled o (λ t. part e (pattern_against p t) (λ y. give (joined_extensions x y))) (refuse Y6 (pat_span p))) (stuck c i)
at_label_stuck e p None x c i h = h
at_label_stuck e p (Some t) x c i h = part_stuck h

pub one_label_more : (e : Environment) (xs : List RLabelledPat) (i : ℕ) (l : RLabelledPat) (ms : PlainLabels) (x y : Extension) → i < length xs → l ≡ get_or xs i l
    → Runs (rule e (labelled_patterns_against (labelled_pats_on no_labelled_pats (take i xs)) ms)) (ok x) → Runs (at_label e l.label.name.0 (pat_of l.pat) ms) (ok y) → Runs (rule e (labelled_patterns_against (labelled_pats_on no_labelled_pats (take (i + 1) xs)) ms)) (ok (joined_extensions x y))
one_label_more e xs i l ms x y h is r k =
    subst (λ ls. Runs (rule e (labelled_patterns_against ls ms)) (ok (joined_extensions x y))) (sym (next_labelled xs i l h is))
    (part_ok r (at_label_ok e l.label.name.0 (pat_of l.pat) ms (type_at l.label.name.0 ms) x y k))

label_here : (e : Environment) (ls : LabelledPats) (l : Id) (p : Pat) (ms : PlainLabels) (x : Extension) (y : InferError) → Runs (rule e (labelled_patterns_against ls ms)) (ok x) → IsRefused (at_label e l.name.0 p ms) y → IsRefused (rule e (labelled_patterns_against (more_labelled_pats ls l p) ms)) y
label_here e ls l p ms x (Named c i told) r h = part_ok r (at_label_stuck e p (type_at l.name.0 ms) x c i h)
label_here e ls l p ms x Memory r h = tt

pub label_refused : (e : Environment) (xs : List RLabelledPat) (i : ℕ) (l : RLabelledPat) (ms : PlainLabels) (x : Extension) (y : InferError) → i < length xs → l ≡ get_or xs i l
    → Runs (rule e (labelled_patterns_against (labelled_pats_on no_labelled_pats (take i xs)) ms)) (ok x) → IsRefused (at_label e l.label.name.0 (pat_of l.pat) ms) y → IsRefused (rule e (labelled_patterns_against (labelled_pats_on no_labelled_pats xs) ms)) y
label_refused e xs i l ms x y h is r k =
    labelled_kept_on (λ ls. IsRefused (rule e (labelled_patterns_against ls ms)) y) (label_refused_more e ms y) xs i l h is
    (label_here e (labelled_pats_on no_labelled_pats (take i xs)) l.label (pat_of l.pat) ms x y r k)

-- a pattern at a label that is there, and at one that isn't
pub at_label_there : {T : Type 0} (e : Environment) (l : ℕ) (p : Pat) (ms : PlainLabels) (t : PlainType) (f : T → Given extension_) (x : Result T InferError) → type_at l ms ≡ Some t → IsAnswer (rule e (pattern_against p t)) f x → IsAnswer (at_label e l p ms) f x
at_label_there e l p ms t f x at h = subst (λ (o : Option PlainType). IsAnswer {s = extension_} (if_labelled o (λ t. rule e (pattern_against p t)) (refuse Y6 (pat_span p))) f x) (sym at) h

pub at_label_lacks : (e : Environment) (l : ℕ) (p : Pat) (ms : PlainLabels) (s : Span) → type_at l ms ≡ None → s ≡ pat_span p → Runs (at_label e l p ms) (stuck Y6 s)
at_label_lacks e l p ms s at h =
    subst (λ (o : Option PlainType). Runs {s = extension_} (if_labelled o (λ t. rule e (pattern_against p t)) (refuse Y6 (pat_span p))) (stuck Y6 s)) (sym at)
    (subst (λ (z : Span). Runs {s = extension_} (refuse Y6 (pat_span p)) (stuck Y6 z)) (sym h) refuse_)

-- a record
pub record_answer : {T : Type 0} (e : Environment) (s : Span) (f : FieldPats) (t : PlainType) (bs : PlainBounds) (ps : PlainTypes) (ls : PlainLabels) (g : T → Given extension_) (x : Result T InferError) → exposure (context_of e) t ≡ Fields bs ps ls
    → IsAnswer (closed_fields e (fields_against s f bs ps ls)) g x → IsAnswer (rule e (pattern_against (fields_pat s f) t)) g x
record_answer e s f t bs ps ls g x is h =
    subst (λ (u : PlainType). IsAnswer {s = extension_} (if_record u (λ bs ps ls. part e (fields_against s f bs ps ls) (λ x. give (within x.own x.adds))) (refuse Y5 s)) g x) (sym is) h

pub closed_ok : (e : Environment) (j : Judgement opened_) (x : OpenedFields) (z : Extension) → Runs (rule e j) (ok x) → z ≡ within x.own x.adds → Runs (closed_fields e j) (ok z)
closed_ok e j x z h q = part_ok h (subst (λ (w : Extension). Runs {s = extension_} (give (within x.own x.adds)) (ok w)) (sym q) give_)

pub closed_refused : (e : Environment) (j : Judgement opened_) (y : InferError) → IsRefused (rule e j) y → IsRefused (closed_fields e j) y
closed_refused e j (Named c i told) h = part_stuck h
closed_refused e j Memory h = tt

-- a variable and a wildcard without annotation
pub variable_alone : (e : Environment) (s : Span) (x : Id) (t : PlainType) (z : Extension) → z ≡ one_value x t → Runs (rule e (pattern_against (bind_pat s x None) t)) (ok z)
variable_alone e s x t z h = subst (λ (w : Extension). Runs {s = extension_} (give (one_value x t)) (ok w)) (sym h) give_

pub any_alone : (e : Environment) (s : Span) (t : PlainType) (z : Extension) → z ≡ no_extension → Runs (rule e (pattern_against (any_pat s None) t)) (ok z)
any_alone e s t z h = subst (λ (w : Extension). Runs {s = extension_} (give no_extension) (ok w)) (sym h) give_

-- a fold, from the answer of its inner pattern
pub fold_inner : {T : Type 0} (e : Environment) (s : Span) (r : RType) (p : Pat) (t u : PlainType) (g : T → Given extension_) (x : Result T InferError) → Runs (fold_unfolded e r t s) (ok u) → IsAnswer (rule e (pattern_against p u)) g x → IsAnswer (rule e (pattern_against (fold_pat s r p) t)) g x
fold_inner e s r p t u g (Ok v) h k = (fold_goes_on e s r p t).on_ok u (ok (g v)) h k
fold_inner e s r p t u g (Err y) h k = refused_past u y (fold_goes_on e s r p t) h k

pub fold_refused_first : (e : Environment) (s : Span) (r : RType) (p : Pat) (t : PlainType) (y : InferError) → IsRefused (fold_unfolded e r t s) y → IsRefused (rule e (pattern_against (fold_pat s r p) t)) y
fold_refused_first e s r p t y h = refused_on y (fold_goes_on e s r p t) h

no_record_rule : (e : Environment) (s : Span) (f : FieldPats) (u : PlainType) → IsNoRecord u → Runs {s = extension_} (if_record u (λ bs ps ls. part e (fields_against s f bs ps ls) (λ x. give (within x.own x.adds))) (refuse Y5 s)) (stuck Y5 s)
no_record_rule e s f Top h = refuse_
no_record_rule e s f Int h = refuse_
no_record_rule e s f Char h = refuse_
no_record_rule e s f Str h = refuse_
no_record_rule e s f Boolean h = refuse_
no_record_rule e s f (Var i) h = refuse_
no_record_rule e s f (Apply i ts) h = refuse_
no_record_rule e s f (Chan m t) h = refuse_
no_record_rule e s f (Fields bs ps ls) h = absurd h
no_record_rule e s f (Rec t) h = refuse_

pub no_record : (e : Environment) (s : Span) (f : FieldPats) (t u : PlainType) → exposure (context_of e) t ≡ u → IsNoRecord u → Runs (rule e (pattern_against (fields_pat s f) t)) (stuck Y5 s)
no_record e s f t u is h = no_record_rule e s f (exposure (context_of e) t) (subst IsNoRecord (sym is) h)

ensured : {s : Sort} (a b : ℕ) (c : Code) (i : Span) {r : Rule s} {x : Answer s} → a ≡ b → Runs r x → Runs (ensure (nat_eq a b) c i r) x
ensured a b c i h p = rw (eq-eqb a b h) p

pub binders_differ : (e : Environment) (s : Span) (bs : TypeBinders) (ps : Pats) (ls : LabelledPats) (rs : PlainBounds) (ts : PlainTypes) (ms : PlainLabels) → (count_binders bs ≡ count_bounds rs → ⊥) → Runs (rule e (fields_against s (field_pats bs ps ls) rs ts ms)) (stuck Y5 s)
binders_differ e s bs ps ls rs ts ms h = rw (ne_eqb (count_binders bs) (count_bounds rs) h) refuse_

pub patterns_differ : (e : Environment) (s : Span) (bs : TypeBinders) (ps : Pats) (ls : LabelledPats) (rs : PlainBounds) (ts : PlainTypes) (ms : PlainLabels) → count_binders bs ≡ count_bounds rs → (count_pats ps ≡ count_types ts → ⊥) → Runs (rule e (fields_against s (field_pats bs ps ls) rs ts ms)) (stuck Y5 s)
patterns_differ e s bs ps ls rs ts ms q h = ensured (count_binders bs) (count_bounds rs) Y5 s q (rw (ne_eqb (count_pats ps) (count_types ts) h) refuse_)

-- the lines after the counts
abbrev pub after_counts : Environment → TypeBinders → Pats → LabelledPats → PlainBounds → PlainTypes → PlainLabels → Rule opened_
after_counts e bs ps ls rs ts ms =
    part e (binders_against bs rs) (λ own.
    part (with_own e own) (patterns_against ps ts) (λ x.
    part (with_own e own) (labelled_patterns_against ls ms) (λ y.
    give (record { own = own; adds = joined_extensions x y }))))

pub counted : (e : Environment) (s : Span) (bs : TypeBinders) (ps : Pats) (ls : LabelledPats) (rs : PlainBounds) (ts : PlainTypes) (ms : PlainLabels) (a : Answer opened_) → count_binders bs ≡ count_bounds rs → count_pats ps ≡ count_types ts → Runs (after_counts e bs ps ls rs ts ms) a → Runs (rule e (fields_against s (field_pats bs ps ls) rs ts ms)) a
counted e s bs ps ls rs ts ms a q r h = ensured (count_binders bs) (count_bounds rs) Y5 s q (ensured (count_pats ps) (count_types ts) Y5 s r h)

-- the ends of a variable with an annotation
pub variable_refused : (e : Environment) (s : Span) (x : Id) (a : TypeTree) (t : PlainType) (y : InferError) → IsRefused (expanded e a) y → IsRefused (rule e (pattern_against (bind_pat s x (Some a)) t)) y
variable_refused e s x a t y h = refused_on y (variable_annotated e s x a t) h

pub variable_not_below : (e : Environment) (s : Span) (x : Id) (a : TypeTree) (t u : PlainType) (y : InferError) → Runs (expanded e a) (ok u) → IsRefused (below e t u Y4 s) y → IsRefused (rule e (pattern_against (bind_pat s x (Some a)) t)) y
variable_not_below e s x a t u y p h = refused_past u y (variable_annotated e s x a t) p (refused_on y (below_then e t u Y4 s) h)

pub variable_typed : (e : Environment) (s : Span) (x : Id) (a : TypeTree) (t u : PlainType) (z : Extension) → Runs (expanded e a) (ok u) → Runs (below e t u Y4 s) (ok tt) → z ≡ one_value x u → Runs (rule e (pattern_against (bind_pat s x (Some a)) t)) (ok z)
variable_typed e s x a t u z p b h =
    (variable_annotated e s x a t).on_ok u (ok z) p ((below_then e t u Y4 s).on_ok tt (ok z) b (subst (λ (w : Extension). Runs {s = extension_} (give (one_value x u)) (ok w)) (sym h) give_))

-- the ends of a wildcard with an annotation
pub any_refused : (e : Environment) (s : Span) (a : TypeTree) (t : PlainType) (y : InferError) → IsRefused (expanded e a) y → IsRefused (rule e (pattern_against (any_pat s (Some a)) t)) y
any_refused e s a t y h = refused_on y (any_annotated e s a t) h

pub any_not_below : (e : Environment) (s : Span) (a : TypeTree) (t u : PlainType) (y : InferError) → Runs (expanded e a) (ok u) → IsRefused (below e t u Y4 s) y → IsRefused (rule e (pattern_against (any_pat s (Some a)) t)) y
any_not_below e s a t u y p h = refused_past u y (any_annotated e s a t) p (refused_on y (below_then e t u Y4 s) h)

pub any_typed : (e : Environment) (s : Span) (a : TypeTree) (t u : PlainType) (z : Extension) → Runs (expanded e a) (ok u) → Runs (below e t u Y4 s) (ok tt) → z ≡ no_extension → Runs (rule e (pattern_against (any_pat s (Some a)) t)) (ok z)
any_typed e s a t u z p b h =
    (any_annotated e s a t).on_ok u (ok z) p ((below_then e t u Y4 s).on_ok tt (ok z) b (subst (λ (w : Extension). Runs {s = extension_} (give no_extension) (ok w)) (sym h) give_))

-- the ends of the unfolding of a fold
abbrev fold_lines : Environment → PlainType → PlainType → Span → Rule type_
fold_lines e r t s = need_recursive r Y13 s (λ u. need (is_subtype (context_of e) t r) Y4 s (within_limits e u s (give u)))

fold_annotated : (e : Environment) (s : Span) (a : TypeTree) (t : PlainType) → GoesOn type_ type_ (expanded e a) (fold_unfolded e (Some a) t s) (λ r. fold_lines e r t s)
fold_annotated e s a t = unstopped (kind_stop e.names e.context a) given

fold_recursive : (e : Environment) (s : Span) (r t : PlainType) → GoesOn nothing_ type_ (recursive r s) (fold_lines e r t s) (λ x. need (is_subtype (context_of e) t r) Y4 s (within_limits e (unfolded r) s (give (unfolded r))))
fold_recursive e s Top t = refused
fold_recursive e s Int t = refused
fold_recursive e s Char t = refused
fold_recursive e s Str t = refused
fold_recursive e s Boolean t = refused
fold_recursive e s (Var i) t = refused
fold_recursive e s (Apply i ts) t = refused
fold_recursive e s (Chan m u) t = refused
fold_recursive e s (Fields bs ps ls) t = refused
fold_recursive e s (Rec b) t = given

pub fold_refused : (e : Environment) (s : Span) (a : TypeTree) (t : PlainType) (y : InferError) → IsRefused (expanded e a) y → IsRefused (fold_unfolded e (Some a) t s) y
fold_refused e s a t y h = refused_on y (fold_annotated e s a t) h

pub fold_not_recursive : (e : Environment) (s : Span) (a : TypeTree) (t r : PlainType) (y : InferError) → Runs (expanded e a) (ok r) → IsRefused (recursive r s) y → IsRefused (fold_unfolded e (Some a) t s) y
fold_not_recursive e s a t r y p h = refused_past r y (fold_annotated e s a t) p (refused_on y (fold_recursive e s r t) h)

pub fold_not_below : (e : Environment) (s : Span) (a : TypeTree) (t r : PlainType) (y : InferError) → Runs (expanded e a) (ok r) → Runs (recursive r s) (ok tt) → IsRefused (below e t r Y4 s) y → IsRefused (fold_unfolded e (Some a) t s) y
fold_not_below e s a t r y p q h = refused_past r y (fold_annotated e s a t) p (refused_past tt y (fold_recursive e s r t) q (refused_on y (below_then e t r Y4 s) h))

pub fold_answer : (e : Environment) (s : Span) (a : TypeTree) (t r : PlainType) (x : Result Ty InferError) → Runs (expanded e a) (ok r) → Runs (recursive r s) (ok tt) → Runs (below e t r Y4 s) (ok tt) → IsAnswer (steps.unfolded e r s) plain x → IsAnswer (fold_unfolded e (Some a) t s) plain x
fold_answer e s a t r (Ok u) p q b h = (fold_annotated e s a t).on_ok r (ok (plain u)) p ((fold_recursive e s r t).on_ok tt (ok (plain u)) q ((below_then e t r Y4 s).on_ok tt (ok (plain u)) b h))
fold_answer e s a t r (Err y) p q b h = refused_past r y (fold_annotated e s a t) p (refused_past tt y (fold_recursive e s r t) q (refused_past tt y (below_then e t r Y4 s) b h))

exposed_lines : (e : Environment) (s : Span) (r : PlainType) → GoesOn nothing_ type_ (recursive r s) (need_recursive r Y13 s (λ u. within_limits e u s (give u))) (λ x. within_limits e (unfolded r) s (give (unfolded r)))
exposed_lines e s Top = refused
exposed_lines e s Int = refused
exposed_lines e s Char = refused
exposed_lines e s Str = refused
exposed_lines e s Boolean = refused
exposed_lines e s (Var i) = refused
exposed_lines e s (Apply i ts) = refused
exposed_lines e s (Chan m u) = refused
exposed_lines e s (Fields bs ps ls) = refused
exposed_lines e s (Rec b) = given

abbrev exposed_rule : Environment → Span → PlainType → Rule type_
exposed_rule e s r = need_recursive r Y13 s (λ u. within_limits e u s (give u))

pub exposed_not_recursive : (e : Environment) (s : Span) (t r : PlainType) (y : InferError) → r ≡ exposure (context_of e) t → IsRefused (recursive r s) y → IsRefused (fold_unfolded e None t s) y
exposed_not_recursive e s t r y q h = subst (λ w. IsRefused (exposed_rule e s w) y) q (refused_on y (exposed_lines e s r) h)

pub exposed_answer : (e : Environment) (s : Span) (t r : PlainType) (x : Result Ty InferError) → r ≡ exposure (context_of e) t → Runs (recursive r s) (ok tt) → IsAnswer (steps.unfolded e r s) plain x → IsAnswer (fold_unfolded e None t s) plain x
exposed_answer e s t r (Ok u) q p h = subst (λ w. Runs (exposed_rule e s w) (ok (plain u))) q ((exposed_lines e s r).on_ok tt (ok (plain u)) p h)
exposed_answer e s t r (Err y) q p h = subst (λ w. IsRefused (exposed_rule e s w) y) q (refused_past tt y (exposed_lines e s r) p h)

-- the ends of fields
pub own_refused : (e : Environment) (bs : TypeBinders) (ps : Pats) (ls : LabelledPats) (rs : PlainBounds) (ts : PlainTypes) (ms : PlainLabels) (y : InferError) → IsRefused (rule e (binders_against bs rs)) y → IsRefused (after_counts e bs ps ls rs ts ms) y
own_refused e bs ps ls rs ts ms (Named c i told) h = part_stuck h
own_refused e bs ps ls rs ts ms Memory h = tt

pub positional_refused : (e d : Environment) (bs : TypeBinders) (ps : Pats) (ls : LabelledPats) (rs : PlainBounds) (ts : PlainTypes) (ms : PlainLabels) (own : List KnownType) (y : InferError) → Runs (rule e (binders_against bs rs)) (ok own) → d ≡ with_own e own
    → IsRefused (rule d (patterns_against ps ts)) y → IsRefused (after_counts e bs ps ls rs ts ms) y
positional_refused e d bs ps ls rs ts ms own (Named c i told) r q h = part_ok r (part_stuck (subst (λ z. Runs (rule z (patterns_against ps ts)) (stuck c i)) q h))
positional_refused e d bs ps ls rs ts ms own Memory r q h = tt

pub labelled_refused : (e d : Environment) (bs : TypeBinders) (ps : Pats) (ls : LabelledPats) (rs : PlainBounds) (ts : PlainTypes) (ms : PlainLabels) (own : List KnownType) (x : Extension) (y : InferError) → Runs (rule e (binders_against bs rs)) (ok own) → d ≡ with_own e own
    → Runs (rule d (patterns_against ps ts)) (ok x) → IsRefused (rule d (labelled_patterns_against ls ms)) y → IsRefused (after_counts e bs ps ls rs ts ms) y
labelled_refused e d bs ps ls rs ts ms own x (Named c i told) r q k h =
    part_ok r (part_ok (subst (λ z. Runs (rule z (patterns_against ps ts)) (ok x)) q k) (part_stuck (subst (λ z. Runs (rule z (labelled_patterns_against ls ms)) (stuck c i)) q h)))
labelled_refused e d bs ps ls rs ts ms own x Memory r q k h = tt

pub all_typed : (e d : Environment) (bs : TypeBinders) (ps : Pats) (ls : LabelledPats) (rs : PlainBounds) (ts : PlainTypes) (ms : PlainLabels) (own : List KnownType) (x y : Extension) → Runs (rule e (binders_against bs rs)) (ok own) → d ≡ with_own e own
    → Runs (rule d (patterns_against ps ts)) (ok x) → Runs (rule d (labelled_patterns_against ls ms)) (ok y) → Runs (after_counts e bs ps ls rs ts ms) (ok (record { own = own; adds = joined_extensions x y }))
all_typed e d bs ps ls rs ts ms own x y r q k h =
    part_ok r (part_ok (subst (λ z. Runs (rule z (patterns_against ps ts)) (ok x)) q k) (part_ok (subst (λ z. Runs (rule z (labelled_patterns_against ls ms)) (ok y)) q h) give_))

-- the counts, of what was refused
pub counted_refused : (e : Environment) (s : Span) (bs : TypeBinders) (ps : Pats) (ls : LabelledPats) (rs : PlainBounds) (ts : PlainTypes) (ms : PlainLabels) (y : InferError) → count_binders bs ≡ count_bounds rs → count_pats ps ≡ count_types ts → IsRefused (after_counts e bs ps ls rs ts ms) y
    → IsRefused (rule e (fields_against s (field_pats bs ps ls) rs ts ms)) y
counted_refused e s bs ps ls rs ts ms (Named c i told) q r h = counted e s bs ps ls rs ts ms (stuck c i) q r h
counted_refused e s bs ps ls rs ts ms Memory q r h = tt
