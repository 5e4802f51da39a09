-- Applications and fields, one lemma for each way that a body ends.
use Rattle.std.proofs.Common.{◌≡◌, ◌||◌, nat_eq, List, refl, sym, ap, subst, Bool, true, false, not, if◌then◌else◌, map, Result, Ok, Option, Some}
use Rattle.pict_syntax.specs.declared.code.Code.{Code}
use Rattle.pict_syntax.specs.declared.code.Code.TheVariants.{Y5, Y6, Y8}
use Rattle.pict_syntax.specs.declared.span.Span.{Span}
use Rattle.pict_syntax.specs.Grammar.{val_span}
use Rattle.pict_syntax.specs.declared.tree.Abs.TheViews.{out-FieldVals}
use Rattle.pict_syntax.specs.declared.tree.FieldVals.{FieldVals as RFieldVals}
use Rattle.pict_syntax.specs.PlainTrees.{field_vals_of, labelled_vals_on, types_on, vals_on}
use Rattle.pict_syntax.specs.Trees.{Val, Vals, FieldVals, field_vals, LabelledVals, TypeTrees, no_labelled_vals, no_types, no_vals}
use Rattle.pict_types.specs.Types.{PlainType, PlainTypes, PlainLabels, PlainBounds, PlainArg, count_types, count_bounds}
use Rattle.pict_types.specs.declared.types.Record.{Record}
use Rattle.pict_types.specs.Plain.{plain_bounds, plain_labels, plain_types}
use Rattle.pict_types.specs.Replacing.{instance_of}
use Rattle.pict_normal.specs.Normal.{count_trees}
use Rattle.pict_normal.specs.Written.{record_with}
use Rattle.pict_scope.proofs.ValueForms.{field_vals_are}
use Rattle.pict_rules.specs.Counts.{count_vals}
use Rattle.pict_sub.specs.Exposing.{exposure}
use Rattle.pict_rules.specs.Environments.{Environment, context_of}
use Rattle.pict_rules.specs.Found.{Found, filled, matched, mentions_missing, with_found}
use Rattle.pict_rules.specs.Shapes.{Function, all_written, applicable, none_written}
use Rattle.pict_rules.specs.Rules.{Sort, nothing_, type_, arguments_, found_, gives, has, application, fields_fit, written_arguments, labelled_values_fit, value_fits, given_fits, Rule, Answer, give, part, ok, stuck, ensure, unless_stopped, within_limits}
use Rattle.pict_rules.specs.Rules as rules
use Rattle.pict_rules.specs.Clauses.{check, done, found_first, in_order, need_function}
use Rattle.pict_rules.specs.Typing.{rule}
use Rattle.pict_rules.specs.Derivations.{Runs, give_, part_ok, part_stuck}
use Rattle.pict_rules.specs.Reached.{Asks, this_part, past_part}
use Rattle.pict_infer.specs.declared.error.InferError.{InferError}
use Rattle.pict_infer.specs.Answering.{IsRefused, IsAnswer}
use Rattle.pict_infer.specs.Asking.{IsWellAsked}
use Rattle.pict_infer.proofs.Asked.{asked_of}
use Rattle.pict_infer.proofs.Through.{GoesOn, refused_on, refused_past}
use Rattle.pict_lines.specs.Counts.{counted}
use Rattle.pict_lines.specs.Functions.{IsNoFunction}
use Rattle.pict_lines.specs.Lines.{application_end, fields_end, formed, given_lines}
use Rattle.pict_check.specs.Records.{application_of, fits_record, values_in_order}
use Rattle.pict_lines.proofs.Ends.{answer_past, ends_with, past, past_refused, refused_here, ensured, formed_is, formed_on}
use Rattle.pict_lines.proofs.HeadForms.{no_function}

-- APPLICATIONS

pub head_refused : (e : Environment) (s : Span) (f : Val) (vs : FieldVals) (x : Option PlainType) (t : PlainType) (y : InferError) → Runs (rule e (gives f)) (ok t) → IsNoFunction (applicable (exposure (context_of e) t)) (val_span f) y → IsRefused (rule e (application s f vs x)) y
head_refused e s f vs x t y p h = past_refused _ _ _ t y p (no_function (applicable (exposure (context_of e) t)) (val_span f) _ y h)

-- the function that the head may be applied as
headed : (e : Environment) (s : Span) (at : Span) (t : PlainType) (vs : FieldVals) (x : Option PlainType) (r : Function) → applicable (exposure (context_of e) t) ≡ Some r → application_of e s at t vs x ≡ part e (fields_fit s vs r.binders r.positional r.labelled (found_first e vs r x)) (λ args. application_end e s r.answer args x)
headed e s at t vs x r h = ap (λ (o : Option Function). need_function o Y8 at (λ r. part e (fields_fit s vs r.binders r.positional r.labelled (found_first e vs r x)) (λ args. application_end e s r.answer args x))) h

pub fields_asked : (e : Environment) (s : Span) (f : Val) (vs : FieldVals) (x : Option PlainType) (t : PlainType) (r : Function) → IsWellAsked type_ e (application s f vs x) → Runs (rule e (gives f)) (ok t) → applicable (exposure (context_of e) t) ≡ Some r → IsWellAsked arguments_ e (fields_fit s vs r.binders r.positional r.labelled (found_first e vs r x))
fields_asked e s f vs x t r a p h =
    asked_of (application s f vs x) a (past_part p (subst (λ z. Asks type_ z arguments_ e (fields_fit s vs r.binders r.positional r.labelled (found_first e vs r x))) (sym (headed e s (val_span f) t vs x r h)) this_part))

pub fields_refused : (e : Environment) (s : Span) (f : Val) (vs : FieldVals) (x : Option PlainType) (t : PlainType) (r : Function) (y : InferError) → Runs (rule e (gives f)) (ok t) → applicable (exposure (context_of e) t) ≡ Some r → IsRefused (rule e (fields_fit s vs r.binders r.positional r.labelled (found_first e vs r x))) y → IsRefused (rule e (application s f vs x)) y
fields_refused e s f vs x t r y p h k = past_refused _ _ _ t y p (subst (λ z. IsRefused z y) (sym (headed e s (val_span f) t vs x r h)) (refused_here _ _ _ y k))

pub application_done : {T : Type 0} (g : T → PlainType) (e : Environment) (s : Span) (f : Val) (vs : FieldVals) (x : Option PlainType) (t : PlainType) (r : Function) (args : List PlainArg) (a : Result T InferError) → Runs (rule e (gives f)) (ok t) → applicable (exposure (context_of e) t) ≡ Some r → Runs (rule e (fields_fit s vs r.binders r.positional r.labelled (found_first e vs r x))) (ok args) → IsAnswer (application_end e s r.answer args x) g a → IsAnswer (rule e (application s f vs x)) g a
application_done g e s f vs x t r args a p h q k = past _ _ _ _ t a p (subst (λ z. IsAnswer z g a) (sym (headed e s (val_span f) t vs x r h)) (past _ _ _ _ args a q k))

-- FIELDS

done_on : {t : Sort} (r : Rule t) → GoesOn nothing_ t done r (λ x. r)
done_on r = record { on_ok = λ x a p h. h; on_stuck = λ c i p. elim p [ ] }

-- the counts and the labels, and then the rest
abbrev Counts : {t : Sort} → Span → FieldVals → PlainBounds → PlainTypes → PlainLabels → Rule t → Rule t
Counts s (field_vals ts vs ls) bs ps ms r =
    ensure (none_written ts || nat_eq (count_trees ts) (count_bounds bs)) Y5 s (
    ensure (nat_eq (count_vals vs) (count_types ps)) Y5 s (
    ensure (all_written ms ls) Y6 s r))

counts : {t : Sort} (s : Span) (f : FieldVals) (bs : PlainBounds) (ps : PlainTypes) (ms : PlainLabels) (r : Rule t) → GoesOn nothing_ t (counted s f bs ps ms) (Counts s f bs ps ms r) (λ x. r)
counts s (field_vals ts vs ls) bs ps ms r =
    ensured (none_written ts || nat_eq (count_trees ts) (count_bounds bs)) Y5 s
    (ensured (nat_eq (count_vals vs) (count_types ps)) Y5 s
    (ensured (all_written ms ls) Y6 s (done_on r)))

-- both ways of the rule
abbrev Written : Environment → Span → TypeTrees → Vals → LabelledVals → PlainBounds → PlainTypes → PlainLabels → Rule arguments_
Written e s ts vs ls bs ps ms =
    part e (written_arguments s ts bs) (λ args.
    within_limits e (instance_of args ps ms) s (
    in_order e s vs ls ps ms (map filled args) (λ x. give args)))

abbrev Omitted : Environment → Span → Vals → LabelledVals → PlainBounds → PlainTypes → PlainLabels → Found → Rule arguments_
Omitted e s vs ls bs ps ms g = in_order e s vs ls ps ms g (λ h. fields_end e s bs h)

fit_rule : (e : Environment) (s : Span) (ts : TypeTrees) (vs : Vals) (ls : LabelledVals) (bs : PlainBounds) (ps : PlainTypes) (ms : PlainLabels) (g : Found) (b : Bool) → none_written ts ≡ b → rule e (fields_fit s (field_vals ts vs ls) bs ps ms g) ≡ Counts s (field_vals ts vs ls) bs ps ms (if not b then Written e s ts vs ls bs ps ms else Omitted e s vs ls bs ps ms g)
fit_rule e s ts vs ls bs ps ms g b h = ap (λ (z : Bool). Counts s (field_vals ts vs ls) bs ps ms (if not z then Written e s ts vs ls bs ps ms else Omitted e s vs ls bs ps ms g)) h

-- the values in order
values_on : {t : Sort} (e : Environment) (s : Span) (vs : Vals) (ls : LabelledVals) (ps : PlainTypes) (ms : PlainLabels) (g : Found) (k : Found → Rule t) → GoesOn found_ t (in_order e s vs ls ps ms g give) (in_order e s vs ls ps ms g k) k
values_on {t = t} e s vs ls ps ms g k = record { on_ok = on_ok; on_stuck = on_stuck }
  where
    labels_ok : (h x : Found) (a : Answer t) → Runs {s = found_} (part e (labelled_values_fit s ls ms h) give) (ok x) → Runs (k x) a → Runs (part e (labelled_values_fit s ls ms h) k) a
    labels_ok h x a (part_ok q give_) r = part_ok q r

    labels_stuck : (h : Found) (c : Code) (i : Span) → Runs {s = found_} (part e (labelled_values_fit s ls ms h) give) (stuck c i) → Runs (part e (labelled_values_fit s ls ms h) k) (stuck c i)
    labels_stuck h c i (part_stuck q) = part_stuck q
    labels_stuck h c i (part_ok q r) = elim r [ ]

    on_ok : (x : Found) (a : Answer t) → Runs (in_order {s = found_} e s vs ls ps ms g give) (ok x) → Runs (k x) a → Runs (in_order e s vs ls ps ms g k) a
    on_ok x a (part_ok p q) r = part_ok p (labels_ok _ x a q r)

    on_stuck : (c : Code) (i : Span) → Runs (in_order {s = found_} e s vs ls ps ms g give) (stuck c i) → Runs (in_order e s vs ls ps ms g k) (stuck c i)
    on_stuck c i (part_stuck p) = part_stuck p
    on_stuck c i (part_ok p q) = part_ok p (labels_stuck _ c i q)

-- VALUES OF FIELDS

abbrev pub Given : Environment → Span → Val → PlainType → Found → Rule found_
Given e s v t f = part e (gives v) (λ g. part e (given_fits s v t g (matched (context_of e) 0 t g f)) give)

abbrev pub Had : Environment → Span → Val → PlainType → Found → Rule found_
Had e s v t f = within_limits e (with_found f t) s (check e (has v (with_found f t)) (give f))

pub value_rule : (e : Environment) (s : Span) (v : Val) (t : PlainType) (f : Found) (b : Bool) → mentions_missing f t ≡ b → rule e (value_fits s v t f) ≡ (if b then Given e s v t f else Had e s v t f)
value_rule e s v t f b h = ap (λ (z : Bool). if z then Given e s v t f else Had e s v t f) h

pub value_gives_asked : (e : Environment) (s : Span) (v : Val) (t : PlainType) (f : Found) → mentions_missing f t ≡ true → IsWellAsked found_ e (value_fits s v t f) → IsWellAsked type_ e (gives v)
value_gives_asked e s v t f m h = asked_of (value_fits s v t f) h (subst (λ z. Asks found_ z type_ e (gives v)) (sym (value_rule e s v t f true m)) this_part)

pub value_given_asked : (e : Environment) (s : Span) (v : Val) (t g : PlainType) (f : Found) → mentions_missing f t ≡ true → IsWellAsked found_ e (value_fits s v t f) → Runs (rule e (gives v)) (ok g) → IsWellAsked found_ e (given_fits s v t g (matched (context_of e) 0 t g f))
value_given_asked e s v t g f m h p =
    asked_of (value_fits s v t f) h (subst (λ z. Asks found_ z found_ e (given_fits s v t g (matched (context_of e) 0 t g f))) (sym (value_rule e s v t f true m)) (past_part p this_part))

pub value_gives_refused : (e : Environment) (s : Span) (v : Val) (t : PlainType) (f : Found) (y : InferError) → mentions_missing f t ≡ true → IsRefused (rule e (gives v)) y → IsRefused (rule e (value_fits s v t f)) y
value_gives_refused e s v t f y m h = subst (λ z. IsRefused z y) (sym (value_rule e s v t f true m)) (refused_here _ _ _ y h)

pub value_given : {T : Type 0} (e : Environment) (s : Span) (v : Val) (t g : PlainType) (f h : Found) (r : Result T InferError) → mentions_missing f t ≡ true → Runs (rule e (gives v)) (ok g) → h ≡ matched (context_of e) 0 t g f → IsAnswer (given_lines e s (val_span v) t g h) (λ x. h) r → IsAnswer (rule e (value_fits s v t f)) (λ x. h) r
value_given e s v t g f h r m p is k =
    subst (λ z. IsAnswer z (λ x. h) r) (sym (value_rule e s v t f true m))
    (past _ _ _ _ g r p (ends_with _ _ _ _ _ r (λ x. give_) (subst (λ z. IsAnswer (given_lines e s (val_span v) t g z) (λ x. h) r) is k)))

pub value_limits : (e : Environment) (s : Span) (v : Val) (t : PlainType) (f : Found) (y : InferError) → mentions_missing f t ≡ false → IsRefused (formed e (with_found f t) s) y → IsRefused (rule e (value_fits s v t f)) y
value_limits e s v t f y m h = subst (λ z. IsRefused z y) (sym (value_rule e s v t f false m)) (refused_on y (formed_on e (with_found f t) s (check e (has v (with_found f t)) (give f))) h)

pub value_has_asked : (e : Environment) (s : Span) (v : Val) (t u : PlainType) (f : Found) → mentions_missing f t ≡ false → IsWellAsked found_ e (value_fits s v t f) → Runs (formed e (with_found f t) s) (ok u) → IsWellAsked nothing_ e (has v u)
value_has_asked e s v t u f m h p =
    let k = formed_is e (with_found f t) u s p in
    subst (λ w. IsWellAsked nothing_ e (has v w)) (sym k.1)
    (asked_of (value_fits s v t f) h (subst (λ z. Asks found_ z nothing_ e (has v (with_found f t))) (sym (value_rule e s v t f false m))
    (subst (λ o. Asks found_ (unless_stopped o (check e (has v (with_found f t)) (give f))) nothing_ e (has v (with_found f t))) (sym k.0) this_part)))

pub value_had : {T : Type 0} (e : Environment) (s : Span) (v : Val) (t u : PlainType) (f : Found) (g : T → rules.Result nothing_) (r : Result T InferError) → mentions_missing f t ≡ false → Runs (formed e (with_found f t) s) (ok u) → IsAnswer (rule e (has v u)) g r → IsAnswer (rule e (value_fits s v t f)) (λ x. f) r
value_had e s v t u f g r m p h =
    let k = formed_is e (with_found f t) u s p in
    subst (λ z. IsAnswer z (λ x. f) r) (sym (value_rule e s v t f false m))
    (answer_past _ u r (formed_on e (with_found f t) s (check e (has v (with_found f t)) (give f))) p
    (ends_with _ _ _ _ _ r (λ x. give_) (subst (λ w. IsAnswer (rule e (has v w)) g r) k.1 h)))

-- FIELDS OF THE CODE THAT ARE TO FIT A RECORD OF THE CODE

-- the fields as their lists
abbrev pub IsFields : FieldVals → TypeTrees → Vals → LabelledVals → Type 0
IsFields f ts vs ls = f ≡ field_vals ts vs ls

abbrev pub trees_in : RFieldVals → TypeTrees
trees_in f = types_on no_types (out-FieldVals f).type_arguments.items

abbrev pub vals_in : RFieldVals → Vals
vals_in f = vals_on no_vals (out-FieldVals f).positional.items

abbrev pub labels_in : RFieldVals → LabelledVals
labels_in f = labelled_vals_on no_labelled_vals (out-FieldVals f).labelled.items

-- their counts and labels
abbrev pub counts_in : Span → RFieldVals → Record → Rule nothing_
counts_in s f r = counted s (field_vals_of f) (plain_bounds r.binders.items) (plain_types r.positional.items) (plain_labels r.labelled.items)

-- and then one of both ways
abbrev Counted : Environment → Span → RFieldVals → Record → Found → Bool → Rule arguments_
Counted e s f r g omitted =
    if not omitted then Written e s (trees_in f) (vals_in f) (labels_in f) (plain_bounds r.binders.items) (plain_types r.positional.items) (plain_labels r.labelled.items)
    else Omitted e s (vals_in f) (labels_in f) (plain_bounds r.binders.items) (plain_types r.positional.items) (plain_labels r.labelled.items) g

past_counts : (e : Environment) (s : Span) (f : RFieldVals) (r : Record) (g : Found) (omitted : Bool) → none_written (trees_in f) ≡ omitted → GoesOn nothing_ arguments_ (counts_in s f r) (rule e (fits_record s (field_vals_of f) r g)) (λ x. Counted e s f r g omitted)
past_counts e s f r g omitted h =
    subst (λ z. GoesOn nothing_ arguments_ (counted s z (plain_bounds r.binders.items) (plain_types r.positional.items) (plain_labels r.labelled.items)) (rule e (fits_record s z r g)) (λ x. Counted e s f r g omitted)) (sym (field_vals_are f))
    (subst (λ z. GoesOn nothing_ arguments_ (counted s (field_vals (trees_in f) (vals_in f) (labels_in f)) (plain_bounds r.binders.items) (plain_types r.positional.items) (plain_labels r.labelled.items)) z (λ x. Counted e s f r g omitted)) (sym (fit_rule e s (trees_in f) (vals_in f) (labels_in f) (plain_bounds r.binders.items) (plain_types r.positional.items) (plain_labels r.labelled.items) g omitted h))
    (counts s (field_vals (trees_in f) (vals_in f) (labels_in f)) (plain_bounds r.binders.items) (plain_types r.positional.items) (plain_labels r.labelled.items) (Counted e s f r g omitted)))

pub counted_refused : (e : Environment) (s : Span) (f : RFieldVals) (r : Record) (g : Found) (y : InferError) → IsRefused (counts_in s f r) y → IsRefused (rule e (fits_record s (field_vals_of f) r g)) y
counted_refused e s f r g y h = refused_on y (past_counts e s f r g (none_written (trees_in f)) refl) h

-- once the counts are right
counted_as : {T : Type 0} (k : T → List PlainArg) (e : Environment) (s : Span) (f : RFieldVals) (r : Record) (g : Found) (omitted : Bool) (x : Result T InferError) → none_written (trees_in f) ≡ omitted → Runs (counts_in s f r) (ok tt) → IsAnswer (Counted e s f r g omitted) k x → IsAnswer (rule e (fits_record s (field_vals_of f) r g)) k x
counted_as k e s f r g omitted x w p h = answer_past _ tt x (past_counts e s f r g omitted w) p h

counted_to : (e : Environment) (s : Span) (f : RFieldVals) (r : Record) (g : Found) (omitted : Bool) (y : InferError) → none_written (trees_in f) ≡ omitted → Runs (counts_in s f r) (ok tt) → IsRefused (Counted e s f r g omitted) y → IsRefused (rule e (fits_record s (field_vals_of f) r g)) y
counted_to e s f r g omitted y w p h = refused_past tt y (past_counts e s f r g omitted w) p h

-- the values alone, as the definition has them
pub values_are : (P : Rule found_ → Type 0) (e : Environment) (s : Span) (f : RFieldVals) (r : Record) (g : Found) → P (values_in_order e s (field_vals_of f) r g) → P (in_order e s (vals_in f) (labels_in f) (plain_types r.positional.items) (plain_labels r.labelled.items) g give)
values_are P e s f r g h = subst (λ z. P (values_in_order e s z r g)) (field_vals_are f) h

-- no type argument is written
pub omitted_refused : (e : Environment) (s : Span) (f : RFieldVals) (r : Record) (g : Found) (y : InferError) → none_written (trees_in f) ≡ true → Runs (counts_in s f r) (ok tt) → IsRefused (values_in_order e s (field_vals_of f) r g) y → IsRefused (rule e (fits_record s (field_vals_of f) r g)) y
omitted_refused e s f r g y w p h =
    counted_to e s f r g true y w p (refused_on y (values_on e s (vals_in f) (labels_in f) (plain_types r.positional.items) (plain_labels r.labelled.items) g (λ h. fields_end e s (plain_bounds r.binders.items) h)) (values_are (λ z. IsRefused z y) e s f r g h))

pub omitted_end : {T : Type 0} (k : T → List PlainArg) (e : Environment) (s : Span) (f : RFieldVals) (r : Record) (g h : Found) (x : Result T InferError) → none_written (trees_in f) ≡ true → Runs (counts_in s f r) (ok tt) → Runs (values_in_order e s (field_vals_of f) r g) (ok h) → IsAnswer (fields_end e s (plain_bounds r.binders.items) h) k x → IsAnswer (rule e (fits_record s (field_vals_of f) r g)) k x
omitted_end k e s f r g h x w p q a =
    counted_as k e s f r g true x w p (answer_past _ h x (values_on e s (vals_in f) (labels_in f) (plain_types r.positional.items) (plain_labels r.labelled.items) g (λ h. fields_end e s (plain_bounds r.binders.items) h)) (values_are (λ z. Runs z (ok h)) e s f r g q) a)

-- some are
pub written_refused : (e : Environment) (s : Span) (f : RFieldVals) (r : Record) (g : Found) (y : InferError) → none_written (trees_in f) ≡ false → Runs (counts_in s f r) (ok tt) → IsRefused (rule e (written_arguments s (trees_in f) (plain_bounds r.binders.items))) y → IsRefused (rule e (fits_record s (field_vals_of f) r g)) y
written_refused e s f r g y w p h = counted_to e s f r g false y w p (refused_here _ _ _ y h)

pub instance_refused : (e : Environment) (s : Span) (f : RFieldVals) (r : Record) (g : Found) (args : List PlainArg) (y : InferError) → none_written (trees_in f) ≡ false → Runs (counts_in s f r) (ok tt) → Runs (rule e (written_arguments s (trees_in f) (plain_bounds r.binders.items))) (ok args) → IsRefused (formed e (record_with args r) s) y → IsRefused (rule e (fits_record s (field_vals_of f) r g)) y
instance_refused e s f r g args y w p q h =
    counted_to e s f r g false y w p
    (past_refused _ _ _ args y q (refused_on y (formed_on e (record_with args r) s (in_order e s (vals_in f) (labels_in f) (plain_types r.positional.items) (plain_labels r.labelled.items) (map filled args) (λ x. give args))) h))

pub written_values_refused : (e : Environment) (s : Span) (f : RFieldVals) (r : Record) (g : Found) (args : List PlainArg) (u : PlainType) (y : InferError) → none_written (trees_in f) ≡ false → Runs (counts_in s f r) (ok tt) → Runs (rule e (written_arguments s (trees_in f) (plain_bounds r.binders.items))) (ok args) → Runs (formed e (record_with args r) s) (ok u) → IsRefused {s = found_} (in_order e s (vals_in f) (labels_in f) (plain_types r.positional.items) (plain_labels r.labelled.items) (map filled args) give) y → IsRefused (rule e (fits_record s (field_vals_of f) r g)) y
written_values_refused e s f r g args u y w p q k h =
    counted_to e s f r g false y w p
    (past_refused _ _ _ args y q (refused_past u y (formed_on e (record_with args r) s (in_order e s (vals_in f) (labels_in f) (plain_types r.positional.items) (plain_labels r.labelled.items) (map filled args) (λ x. give args))) k
    (refused_on y (values_on e s (vals_in f) (labels_in f) (plain_types r.positional.items) (plain_labels r.labelled.items) (map filled args) (λ x. give args)) h)))

pub written_done : (e : Environment) (s : Span) (f : RFieldVals) (r : Record) (g h : Found) (args : List PlainArg) (u : PlainType) → none_written (trees_in f) ≡ false → Runs (counts_in s f r) (ok tt) → Runs (rule e (written_arguments s (trees_in f) (plain_bounds r.binders.items))) (ok args) → Runs (formed e (record_with args r) s) (ok u) → Runs {s = found_} (in_order e s (vals_in f) (labels_in f) (plain_types r.positional.items) (plain_labels r.labelled.items) (map filled args) give) (ok h) → Runs (rule e (fits_record s (field_vals_of f) r g)) (ok args)
written_done e s f r g h args u w p q k x =
    counted_as {T = Unit {0}} (λ z. args) e s f r g false (Ok tt) w p
    (part_ok q ((formed_on e (record_with args r) s (in_order e s (vals_in f) (labels_in f) (plain_types r.positional.items) (plain_labels r.labelled.items) (map filled args) (λ x. give args))).on_ok u (ok args) k
    ((values_on e s (vals_in f) (labels_in f) (plain_types r.positional.items) (plain_labels r.labelled.items) (map filled args) (λ x. give args)).on_ok h (ok args) x give_)))
