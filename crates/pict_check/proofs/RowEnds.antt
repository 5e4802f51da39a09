-- The lists that the rules go through: values, labelled values, and values that fit fields.
use Rattle.std.proofs.Common.{◌≡◌, ℕ, zero, suc, ◌+◌, ◌<◌, ◌≤◌, List, [], ◌∷◌, ◌++◌, length, get_or, take, refl, sym, ◌∙◌, ap, subst, arith}
use Rattle.std.proofs.lemmas.List.{length-take-le}
use Rattle.pict_syntax.specs.declared.span.Span.{Span}
use Rattle.pict_syntax.specs.declared.tree.Val.{Val as RVal}
use Rattle.pict_syntax.specs.declared.tree.LabelledVal.{LabelledVal as RLabelledVal}
use Rattle.pict_syntax.specs.declared.tree.Dec.{Dec as RDec}
use Rattle.pict_syntax.specs.declared.tree.Proc.{Proc as RProc}
use Rattle.pict_syntax.specs.Trees.{no_vals, no_labelled_vals, no_decs, no_procs}
use Rattle.pict_syntax.specs.PlainTrees.{dec_of, proc_of, val_of, vals_on, labelled_vals_on, decs_on, procs_on}
use Rattle.pict_syntax.proofs.ValueLists.{vals_more, labelled_vals_more, procs_more}
use Rattle.pict_syntax.proofs.DeclarationLists.{decs_more}
use Rattle.pict_types.specs.declared.types.Ty.{Ty}
use Rattle.pict_types.specs.Types.{PlainTypes, PlainLabels}
use Rattle.pict_types.specs.Plain.{plain, plain_types}
use Rattle.pict_normal.specs.Normal.{and_type, with_labelled_type}
use Rattle.pict_normal.proofs.Trees.{types_and}
use Rattle.pict_rules.specs.Counts.{count_vals}
use Rattle.pict_rules.specs.Environments.{Environment}
use Rattle.pict_rules.specs.Found.{Found}
use Rattle.pict_rules.specs.Shapes.{nth_type}
use Rattle.pict_rules.specs.Rules.{type_, types_, labels_, found_, environment_, nothing_, gives, values_give, labelled_values_give, value_fits, values_fit, labelled_values_fit, declaration, declarations, process, processes, give, ok, part}
use Rattle.pict_rules.specs.Clauses.{check, done}
use Rattle.pict_rules.specs.Typing.{rule}
use Rattle.pict_rules.specs.Derivations.{Runs, give_, part_ok}
use Rattle.pict_rules.specs.Reached.{this_part}
use Rattle.pict_infer.specs.declared.error.InferError.{InferError}
use Rattle.pict_infer.specs.Answering.{IsRefused}
use Rattle.pict_infer.specs.Asking.{IsWellAsked}
use Rattle.pict_check.specs.Records.{labelled_value_fits}
use Rattle.pict_lines.proofs.Ends.{refused_here}
use Rattle.pict_lines.proofs.Rows.{Row, row_all, row_asked, row_more, row_refused}
use Rattle.pict_lines.proofs.CountEnds.{counted_on}

abbrev pub values_row : (e : Environment) → Row RVal types_ e
values_row e = record {
  judged = λ xs. values_give (vals_on no_vals xs);
  next = λ xs x ts. part e (gives (val_of x)) (λ t. give (and_type ts t));
  more = λ xs x. ap (λ vs. rule e (values_give vs)) (vals_more no_vals xs x);
}

abbrev pub labelled_row : (e : Environment) → Row RLabelledVal labels_ e
labelled_row e = record {
  judged = λ xs. labelled_values_give (labelled_vals_on no_labelled_vals xs);
  next = λ xs x ms. part e (gives (val_of x.value)) (λ t. give (with_labelled_type e.names x.label.name.0 t ms));
  more = λ xs x. ap (λ vs. rule e (labelled_values_give vs)) (labelled_vals_more no_labelled_vals xs x);
}

abbrev pub fit_row : (e : Environment) (s : Span) (ps : PlainTypes) (g : Found) → Row RVal found_ e
fit_row e s ps g = record {
  judged = λ xs. values_fit s (vals_on no_vals xs) ps g;
  next = λ xs x h. part e (value_fits s (val_of x) (nth_type (count_vals (vals_on no_vals xs)) ps) h) give;
  more = λ xs x. ap (λ vs. rule e (values_fit s vs ps g)) (vals_more no_vals xs x);
}

abbrev pub labelled_fit_row : (e : Environment) (s : Span) (ms : PlainLabels) (g : Found) → Row RLabelledVal found_ e
labelled_fit_row e s ms g = record {
  judged = λ xs. labelled_values_fit s (labelled_vals_on no_labelled_vals xs) ms g;
  next = λ xs x h. labelled_value_fits e s x.label (val_of x.value) ms h;
  more = λ xs x. ap (λ vs. rule e (labelled_values_fit s vs ms g)) (labelled_vals_more no_labelled_vals xs x);
}

abbrev pub processes_row : (e : Environment) → Row RProc nothing_ e
processes_row e = record {
  judged = λ xs. processes (procs_on no_procs xs);
  next = λ xs x h. check e (process (proc_of x)) done;
  more = λ xs x. ap (λ ps. rule e (processes ps)) (procs_more no_procs xs x);
}

abbrev pub declarations_row : (e : Environment) → Row RDec environment_ e
declarations_row e = record {
  judged = λ xs. declarations (decs_on no_decs xs);
  next = λ xs x d. part d (declaration (dec_of x)) give;
  more = λ xs x. ap (λ ds. rule e (declarations ds)) (decs_more no_decs xs x);
}

pub so_many : (xs : List RVal) (i : ℕ) → i ≤ length xs → count_vals (vals_on no_vals (take i xs)) ≡ i
so_many xs i h = omega (arith, counted_on no_vals (take i xs), length-take-le i xs h)

pub nth_at : (ts : List Ty) (i : ℕ) (d : Ty) → i < length ts → nth_type i (plain_types ts) ≡ plain (get_or ts i d)
nth_at [] i d h = absurd (omega (arith, h))
nth_at (t ∷ ts) zero d h = refl
nth_at (t ∷ ts) (suc i) d h = nth_at ts i d (omega (arith, h))

-- VALUES GIVE TYPES

pub value_more : (e : Environment) (xs : List RVal) (i : ℕ) (d : RVal) (ts us : List Ty) (t : Ty) → i < length xs → us ≡ ts ++ t ∷ [] → Runs (rule e (values_give (vals_on no_vals (take i xs)))) (ok (plain_types ts)) → Runs (rule e (gives (val_of (get_or xs i d)))) (ok (plain t)) → Runs (rule e (values_give (vals_on no_vals (take (i + 1) xs)))) (ok (plain_types us))
value_more e xs i d ts us t h is p q =
    subst (λ z. Runs (rule e (values_give (vals_on no_vals (take (i + 1) xs)))) (ok z)) (sym (ap plain_types is ∙ types_and ts t))
    (row_more (values_row e) xs i d (plain_types ts) (and_type (plain_types ts) (plain t)) h p (part_ok q give_))

pub value_refused : (e : Environment) (xs : List RVal) (i : ℕ) (d : RVal) (ts : PlainTypes) (y : InferError) → i < length xs → Runs (rule e (values_give (vals_on no_vals (take i xs)))) (ok ts) → IsRefused (rule e (gives (val_of (get_or xs i d)))) y → IsRefused (rule e (values_give (vals_on no_vals xs))) y
value_refused e xs i d ts y h p q = row_refused (values_row e) xs i d ts y h p (refused_here _ _ _ y q)

pub value_asked : (e : Environment) (xs : List RVal) (i : ℕ) (d : RVal) (ts : PlainTypes) → i < length xs → IsWellAsked types_ e (values_give (vals_on no_vals xs)) → Runs (rule e (values_give (vals_on no_vals (take i xs)))) (ok ts) → IsWellAsked type_ e (gives (val_of (get_or xs i d)))
value_asked e xs i d ts h q p = row_asked (values_row e) xs i d ts h q p this_part

pub all_values : (e : Environment) (xs : List RVal) (i : ℕ) (ts : PlainTypes) → length xs ≤ i → Runs (rule e (values_give (vals_on no_vals (take i xs)))) (ok ts) → Runs (rule e (values_give (vals_on no_vals xs))) (ok ts)
all_values e xs i ts h p = row_all (values_row e) xs i ts h p

-- VALUES FIT FIELDS

-- the type of the next value's field
field_at : (xs : List RVal) (i : ℕ) (ts : List Ty) (t : Ty) → i < length xs → length xs ≡ length ts → t ≡ get_or ts i t → nth_type (count_vals (vals_on no_vals (take i xs))) (plain_types ts) ≡ plain t
field_at xs i ts t l n is =
    ap (λ m. nth_type m (plain_types ts)) (so_many xs i (omega (arith, l))) ∙ nth_at ts i t (omega (arith, l, n)) ∙ ap plain (sym is)

pub fit_more : (e : Environment) (s : Span) (xs : List RVal) (i : ℕ) (d : RVal) (ts : List Ty) (t : Ty) (g h k : Found) → i < length xs → length xs ≡ length ts → t ≡ get_or ts i t → Runs (rule e (values_fit s (vals_on no_vals (take i xs)) (plain_types ts) g)) (ok h) → Runs (rule e (value_fits s (val_of (get_or xs i d)) (plain t) h)) (ok k) → Runs (rule e (values_fit s (vals_on no_vals (take (i + 1) xs)) (plain_types ts) g)) (ok k)
fit_more e s xs i d ts t g h k l n is p q =
    row_more (fit_row e s (plain_types ts) g) xs i d h k l p
    (part_ok (subst (λ z. Runs (rule e (value_fits s (val_of (get_or xs i d)) z h)) (ok k)) (sym (field_at xs i ts t l n is)) q) give_)

pub fit_refused : (e : Environment) (s : Span) (xs : List RVal) (i : ℕ) (d : RVal) (ts : List Ty) (t : Ty) (g h : Found) (y : InferError) → i < length xs → length xs ≡ length ts → t ≡ get_or ts i t → Runs (rule e (values_fit s (vals_on no_vals (take i xs)) (plain_types ts) g)) (ok h) → IsRefused (rule e (value_fits s (val_of (get_or xs i d)) (plain t) h)) y → IsRefused (rule e (values_fit s (vals_on no_vals xs) (plain_types ts) g)) y
fit_refused e s xs i d ts t g h y l n is p q =
    row_refused (fit_row e s (plain_types ts) g) xs i d h y l p
    (refused_here _ _ _ y (subst (λ z. IsRefused (rule e (value_fits s (val_of (get_or xs i d)) z h)) y) (sym (field_at xs i ts t l n is)) q))

pub fit_asked : (e : Environment) (s : Span) (xs : List RVal) (i : ℕ) (d : RVal) (ts : List Ty) (t : Ty) (g h : Found) → i < length xs → length xs ≡ length ts → t ≡ get_or ts i t → IsWellAsked found_ e (values_fit s (vals_on no_vals xs) (plain_types ts) g) → Runs (rule e (values_fit s (vals_on no_vals (take i xs)) (plain_types ts) g)) (ok h) → IsWellAsked found_ e (value_fits s (val_of (get_or xs i d)) (plain t) h)
fit_asked e s xs i d ts t g h l n is q p =
    subst (λ z. IsWellAsked found_ e (value_fits s (val_of (get_or xs i d)) z h)) (field_at xs i ts t l n is)
    (row_asked (fit_row e s (plain_types ts) g) xs i d h l q p this_part)

pub all_fit : (e : Environment) (s : Span) (xs : List RVal) (i : ℕ) (ts : List Ty) (g h : Found) → length xs ≤ i → Runs (rule e (values_fit s (vals_on no_vals (take i xs)) (plain_types ts) g)) (ok h) → Runs (rule e (values_fit s (vals_on no_vals xs) (plain_types ts) g)) (ok h)
all_fit e s xs i ts g h l p = row_all (fit_row e s (plain_types ts) g) xs i h l p
