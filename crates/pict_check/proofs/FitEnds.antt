-- Values that fit fields, one after another: what is asked of the next one, and the ends of a record's values.
use Rattle.std.proofs.Common.{◌≡◌, ℕ, zero, suc, ◌+◌, ◌<◌, ◌≤◌, List, [], ◌∷◌, length, get_or, take, sym, subst, arith, Result, Option, Some, None}
use Rattle.pict_syntax.specs.declared.span.Span.{Span}
use Rattle.pict_syntax.specs.declared.id.Id.{Id}
use Rattle.pict_syntax.specs.declared.tree.LabelledVal.{LabelledVal as RLabelledVal}
use Rattle.pict_syntax.specs.Trees.{Val, no_vals, LabelledVals, no_labelled_vals, more_labelled_vals}
use Rattle.pict_syntax.specs.PlainTrees.{labelled_vals_on, val_of, vals_on}
use Rattle.pict_syntax.proofs.ValueLists.{labelled_vals_none, vals_none}
use Rattle.pict_types.specs.Types.{PlainType, PlainTypes, PlainLabels, type_at}
use Rattle.pict_types.specs.Kinds.{LabelsAreWellFormed}
use Rattle.pict_scope.specs.DistinctLabels.{LabelledValsAreDistinct, ValHasDistinctLabels}
use Rattle.pict_rules.specs.Environments.{Environment}
use Rattle.pict_rules.specs.Found.{Found}
use Rattle.pict_rules.specs.Regular.{FoundFits, IsRegular, kinds_found, kinds_in, kinds_within}
use Rattle.pict_rules.specs.Rules.{found_, gives, given_fits, value_fits, values_fit, labelled_values_fit, Rule, ok, give, part}
use Rattle.pict_rules.specs.Clauses.{if_labelled}
use Rattle.pict_rules.specs.Typing.{rule}
use Rattle.pict_rules.specs.Derivations.{Runs, give_, part_ok}
use Rattle.pict_rules.proofs.RegularMatched.{within_same}
use Rattle.pict_rules.proofs.Regularity.{IfFormed, label_formed}
use Rattle.pict_infer.specs.declared.error.InferError.{InferError}
use Rattle.pict_infer.specs.Answering.{IsAnswer, IsRefused}
use Rattle.pict_infer.specs.Asking.{IsWellAsked}
use Rattle.pict_lines.specs.Lines.{given_lines}
use Rattle.pict_check.specs.Records.{labelled_value_fits}
use Rattle.pict_lines.proofs.Ends.{ends_with, good_of, refused_here}
use Rattle.pict_lines.proofs.Rows.{first_of, row_all, row_more, row_refused}
use Rattle.pict_check.proofs.RowEnds.{labelled_fit_row}

-- A VALUE THAT GAVE A TYPE

-- what is asked then, where as much is known, and this was found
pub given_here : (d e : Environment) (s : Span) (v : Val) (t g : PlainType) (h m : Found) → d ≡ e → h ≡ m → IsWellAsked found_ e (given_fits s v t g m) → IsWellAsked found_ d (given_fits s v t g h)
given_here d e s v t g h m p q w = subst (λ (x : Found). IsWellAsked found_ d (given_fits s v t g x)) (sym q) (subst (λ x. IsWellAsked found_ x (given_fits s v t g m)) (sym p) w)

pub given_lines_in : {T : Type 0} (d e : Environment) (s a b : Span) (t g : PlainType) (h : Found) (f : T → Found) (r : Result T InferError) → d ≡ e → a ≡ b → IsAnswer (given_lines d s a t g h) f r → IsAnswer (given_lines e s b t g h) f r
given_lines_in d e s a b t g h f r p q k = subst (λ x. IsAnswer (given_lines e s x t g h) f r) q (subst (λ x. IsAnswer (given_lines x s a t g h) f r) p k)

-- POSITIONAL VALUES

pub fit_start : (e : Environment) (s : Span) (ps : PlainTypes) (g : Found) → Runs (rule e (values_fit s (vals_on no_vals []) ps g)) (ok g)
fit_start e s ps g = subst (λ vs. Runs (rule e (values_fit s vs ps g)) (ok g)) (sym (vals_none no_vals)) give_

-- LABELLED VALUES

pub labelled_start : (e : Environment) (s : Span) (ms : PlainLabels) (g : Found) → Runs (rule e (labelled_values_fit s (labelled_vals_on no_labelled_vals []) ms g)) (ok g)
labelled_start e s ms g = subst (λ ls. Runs (rule e (labelled_values_fit s ls ms g)) (ok g)) (sym (labelled_vals_none no_labelled_vals)) give_

pub labelled_more : (e : Environment) (s : Span) (xs : List RLabelledVal) (i : ℕ) (l : RLabelledVal) (ms : PlainLabels) (g h k : Found) → i < length xs → l ≡ get_or xs i l
    → Runs (rule e (labelled_values_fit s (labelled_vals_on no_labelled_vals (take i xs)) ms g)) (ok h) → Runs (labelled_value_fits e s l.label (val_of l.value) ms h) (ok k)
    → Runs (rule e (labelled_values_fit s (labelled_vals_on no_labelled_vals (take (i + 1) xs)) ms g)) (ok k)
labelled_more e s xs i l ms g h k n is p q =
    row_more (labelled_fit_row e s ms g) xs i l h k n p (subst (λ (x : RLabelledVal). Runs (labelled_value_fits e s x.label (val_of x.value) ms h) (ok k)) is q)

pub labelled_refused : (e : Environment) (s : Span) (xs : List RLabelledVal) (i : ℕ) (l : RLabelledVal) (ms : PlainLabels) (g h : Found) (y : InferError) → i < length xs → l ≡ get_or xs i l
    → Runs (rule e (labelled_values_fit s (labelled_vals_on no_labelled_vals (take i xs)) ms g)) (ok h) → IsRefused (labelled_value_fits e s l.label (val_of l.value) ms h) y
    → IsRefused (rule e (labelled_values_fit s (labelled_vals_on no_labelled_vals xs) ms g)) y
labelled_refused e s xs i l ms g h y n is p q =
    row_refused (labelled_fit_row e s ms g) xs i l h y n p (subst (λ (x : RLabelledVal). IsRefused (labelled_value_fits e s x.label (val_of x.value) ms h) y) is q)

pub all_labelled : (e : Environment) (s : Span) (xs : List RLabelledVal) (i : ℕ) (ms : PlainLabels) (g h : Found) → length xs ≤ i → Runs (rule e (labelled_values_fit s (labelled_vals_on no_labelled_vals (take i xs)) ms g)) (ok h) → Runs (rule e (labelled_values_fit s (labelled_vals_on no_labelled_vals xs) ms g)) (ok h)
all_labelled e s xs i ms g h n p = row_all (labelled_fit_row e s ms g) xs i h n p

-- no label stands twice in the value of one of them
distinct_before : (ls : LabelledVals) (xs : List RLabelledVal) → LabelledValsAreDistinct (labelled_vals_on ls xs) → LabelledValsAreDistinct ls
unfolding labelled_vals_on
distinct_before ls [] h = h
distinct_before ls (x ∷ xs) h = let k = distinct_before (more_labelled_vals ls x.label (val_of x.value)) xs h in k.0

distinct_at : (ls : LabelledVals) (xs : List RLabelledVal) (i : ℕ) (d : RLabelledVal) → i < length xs → LabelledValsAreDistinct (labelled_vals_on ls xs) → ValHasDistinctLabels (val_of (get_or xs i d).value)
unfolding labelled_vals_on
distinct_at ls [] i d n h = absurd (omega (arith, n))
distinct_at ls (x ∷ xs) zero d n h = let k = distinct_before (more_labelled_vals ls x.label (val_of x.value)) xs h in k.1.1
distinct_at ls (x ∷ xs) (suc i) d n h = distinct_at (more_labelled_vals ls x.label (val_of x.value)) xs i d (omega (arith, n)) h

pub labelled_distinct : (xs : List RLabelledVal) (i : ℕ) (l : RLabelledVal) → i < length xs → l ≡ get_or xs i l → LabelledValsAreDistinct (labelled_vals_on no_labelled_vals xs) → ValHasDistinctLabels (val_of l.value)
labelled_distinct xs i l n is h = subst (λ (x : RLabelledVal). ValHasDistinctLabels (val_of x.value)) (sym is) (distinct_at no_labelled_vals xs i l n h)

-- what the first ones find is of the kinds of what was found before, and well formed
pub labelled_good : (e : Environment) (s : Span) (xs : List RLabelledVal) (i : ℕ) (ms : PlainLabels) (g h : Found) → IsWellAsked found_ e (labelled_values_fit s (labelled_vals_on no_labelled_vals xs) ms g) → Runs (rule e (labelled_values_fit s (labelled_vals_on no_labelled_vals (take i xs)) ms g)) (ok h) → (kinds_found h ≡ kinds_found g) × FoundFits e h
labelled_good e s xs i ms g h w p = good_of {j = labelled_values_fit s (labelled_vals_on no_labelled_vals (take i xs)) ms g} (first_of (labelled_fit_row e s ms g) xs i w) p

pub labels_within : (e : Environment) (ms : PlainLabels) (g h : Found) → kinds_found h ≡ kinds_found g → LabelsAreWellFormed e.names (kinds_within (kinds_in e) g) ms → LabelsAreWellFormed e.names (kinds_within (kinds_in e) h) ms
labels_within e ms g h k w = subst (λ ks. LabelsAreWellFormed e.names ks ms) (sym (within_same (kinds_in e) h g k)) w

-- A LABELLED VALUE

pub at_label_asked : (e : Environment) (s : Span) (l : Id) (v : Val) (ms : PlainLabels) (t : PlainType) (g : Found) → type_at l.name.0 ms ≡ Some t → ValHasDistinctLabels v → IsRegular e → LabelsAreWellFormed e.names (kinds_within (kinds_in e) g) ms → FoundFits e g → IsWellAsked found_ e (value_fits s v t g)
at_label_asked e s l v ms t g is d r w f = record {
  labels = d;
  regular = r;
  asked = (subst (IfFormed e.names (kinds_within (kinds_in e) g)) is (label_formed e.names (kinds_within (kinds_in e) g) l.name.0 ms w), f);
}

abbrev AtLabel : Environment → Span → Val → Found → Option PlainType → Rule found_
AtLabel e s v g o = if_labelled o (λ t. part e (value_fits s v t g) give) (part e (gives v) (λ x. give g))

pub at_label : {T : Type 0} (e : Environment) (s : Span) (l : Id) (v : Val) (ms : PlainLabels) (t : PlainType) (g : Found) (f : T → Found) (r : Result T InferError) → type_at l.name.0 ms ≡ Some t → IsAnswer (rule e (value_fits s v t g)) f r → IsAnswer (labelled_value_fits e s l v ms g) f r
at_label e s l v ms t g f r is h = subst (λ o. IsAnswer (AtLabel e s v g o) f r) (sym is) (ends_with e (value_fits s v t g) give f f r (λ x. give_) h)

pub unlabelled_refused : (e : Environment) (s : Span) (l : Id) (v : Val) (ms : PlainLabels) (g : Found) (y : InferError) → type_at l.name.0 ms ≡ None → IsRefused (rule e (gives v)) y → IsRefused (labelled_value_fits e s l v ms g) y
unlabelled_refused e s l v ms g y is h = subst (λ o. IsRefused (AtLabel e s v g o) y) (sym is) (refused_here e (gives v) (λ x. give g) y h)

pub unlabelled : (e : Environment) (s : Span) (l : Id) (v : Val) (ms : PlainLabels) (t : PlainType) (g : Found) → type_at l.name.0 ms ≡ None → Runs (rule e (gives v)) (ok t) → Runs (labelled_value_fits e s l v ms g) (ok g)
unlabelled e s l v ms t g is p = subst (λ o. Runs (AtLabel e s v g o) (ok g)) (sym is) (part_ok p give_)
