-- Values that fit fields with written arguments put in fit the fields themselves, with the arguments found.
use Rattle.std.proofs.Common.{◌≡◌, ℕ, zero, suc, List, [], ◌∷◌, map, length, refl, sym, ◌∙◌, ap, subst, Bool, true, false, nat_eq, Option, Some, None, arith}
use Rattle.std.specs.Prelude.{option_map, if◌then◌else◌}
use Rattle.pict_syntax.specs.declared.code.Code.{Code}
use Rattle.pict_syntax.specs.declared.span.Span.{Span}
use Rattle.pict_syntax.specs.Trees.{Val, Vals, no_vals, more_vals, LabelledVals, no_labelled_vals, more_labelled_vals}
use Rattle.pict_syntax.specs.Stops.{Stop}
use Rattle.pict_types.specs.declared.types.Record.{Record}
use Rattle.pict_types.specs.declared.types.Bound.{Bound}
use Rattle.pict_types.specs.Types.{PlainType, Fields, PlainTypes, no_type, types, PlainLabels, no_label, labels, PlainBounds, no_bound, PlainArg, count_types, type_at}
use Rattle.pict_types.specs.Kinds.{AreWellFormed, LabelsAreWellFormed}
use Rattle.pict_types.specs.Plain.{plain_bounds, plain_labels, plain_record, plain_types}
use Rattle.pict_types.proofs.Rows.{count_types_length}
use Rattle.pict_types.specs.Replacing.{Replacement, arguments, replace, replace_labels, replace_types}
use Rattle.pict_normal.specs.Normal.{size_stop}
use Rattle.pict_normal.specs.Written.{record_with}
use Rattle.pict_rules.specs.Clauses.{check, if_labelled, in_order}
use Rattle.pict_rules.specs.Counts.{count_vals}
use Rattle.pict_rules.specs.Environments.{Environment}
use Rattle.pict_rules.specs.Found.{Found, filled, mentions_missing, with_found}
use Rattle.pict_rules.specs.Regular.{kinds_in, IsRegular, IsTypeIn}
use Rattle.pict_rules.specs.Rules.{Sort, found_, Judgement, gives, has, values_fit, labelled_values_fit, value_fits, Rule, give, part, ok, stuck, unless_stopped, within_limits, Answer}
use Rattle.pict_rules.specs.Shapes.{nth_type}
use Rattle.pict_rules.specs.Typing.{rule}
use Rattle.pict_rules.specs.Derivations.{Runs, give_, part_ok, part_stuck}
use Rattle.pict_rules.proofs.RegularPatterns.{number_formed}
use Rattle.pict_scope.specs.DistinctLabels.{ValsHaveDistinctLabels}
use Rattle.pict_infer.specs.declared.error.InferError.{InferError}
use Rattle.pict_infer.specs.Answering.{IsRefused}
use Rattle.pict_infer.specs.Asking.{IsWellAsked}
use Rattle.pict_lines.specs.Lines.{formed}
use Rattle.pict_infer.proofs.Through.{GoesOn, given, refused_on, unstopped}
use Rattle.pict_lines.proofs.Ends.{formed_is, given_is}
use Rattle.pict_check.proofs.FieldEnds.{value_rule}
use Rattle.pict_lines.proofs.Written.{filled_mentions, filled_put, nothing_mentions, nothing_put}
use Rattle.pict_types.proofs.Formed.{count_replaced}

-- the second rule answers as the first, which finds nothing, but finds this
pub record AnswersAs (f : Found) (r q : Rule found_) : Type 0 where
  pub none : (g : Found) → Runs r (ok g) → g ≡ []
  pub on : GoesOn found_ found_ r q (λ g. give f)

gives_found : (f : Found) → AnswersAs f (give []) (give f)
gives_found f = record { none = given_is found_ []; on = given }

-- both go through the same part
same_part : {s : Sort} (f : Found) (e : Environment) (j : Judgement s) → AnswersAs f (part e j (λ x. give [])) (part e j (λ x. give f))
same_part {s = s} f e j = record { none = none; on = record { on_ok = on_ok; on_stuck = on_stuck } }
  where
    none : (g : Found) → Runs {s = found_} (part e j (λ x. give [])) (ok g) → g ≡ []
    none g (part_ok p q) = given_is found_ [] g q

    on_ok : (g : Found) (a : Answer found_) → Runs {s = found_} (part e j (λ x. give [])) (ok g) → Runs {s = found_} (give f) a → Runs {s = found_} (part e j (λ x. give f)) a
    on_ok g a (part_ok p q) h = part_ok p h

    on_stuck : (c : Code) (i : Span) → Runs {s = found_} (part e j (λ x. give [])) (stuck c i) → Runs {s = found_} (part e j (λ x. give f)) (stuck c i)
    on_stuck c i (part_stuck p) = part_stuck p
    on_stuck c i (part_ok p q) = elim q [ ]

-- or through parts of which the second answers as the first
parts : (f : Found) (e : Environment) (j k : Judgement found_) (l m : Found → Rule found_) → AnswersAs f (rule e j) (rule e k) → AnswersAs f (l []) (m f) → AnswersAs f (part e j l) (part e k m)
parts f e j k l m a b = record { none = none; on = record { on_ok = on_ok; on_stuck = on_stuck } }
  where
    none : (g : Found) → Runs (part e j l) (ok g) → g ≡ []
    none g (part_ok {x = h} p q) = b.none g (subst (λ (z : Found). Runs (l z) (ok g)) (a.none h p) q)

    on_ok : (g : Found) (x : Answer found_) → Runs (part e j l) (ok g) → Runs {s = found_} (give f) x → Runs (part e k m) x
    on_ok g x (part_ok {x = h} p q) r = part_ok (a.on.on_ok h (ok f) p give_) (b.on.on_ok g x (subst (λ (z : Found). Runs (l z) (ok g)) (a.none h p) q) r)

    on_stuck : (c : Code) (i : Span) → Runs (part e j l) (stuck c i) → Runs (part e k m) (stuck c i)
    on_stuck c i (part_stuck p) = part_stuck (a.on.on_stuck c i p)
    on_stuck c i (part_ok {x = h} p q) = part_ok (a.on.on_ok h (ok f) p give_) (b.on.on_stuck c i (subst (λ (z : Found). Runs (l z) (stuck c i)) (a.none h p) q))

limited : (f : Found) (o : Option Stop) (r q : Rule found_) → AnswersAs f r q → AnswersAs f (unless_stopped o r) (unless_stopped o q)
limited f o r q h = record { none = none o; on = unstopped o h.on }
  where
    none : (o : Option Stop) (g : Found) → Runs (unless_stopped o r) (ok g) → g ≡ []
    none None g p = h.none g p
    none (Some x) g p = elim p [ ]

-- a value in its field
abbrev Had_as : Environment → Span → Val → PlainType → Found → Rule found_
Had_as e s v u f = within_limits e u s (check e (has v u) (give f))

value_as : (e : Environment) (s : Span) (v : Val) (t u : PlainType) (f : Found) → mentions_missing f t ≡ false → with_found f t ≡ u → rule e (value_fits s v t f) ≡ Had_as e s v u f
value_as e s v t u f m is = value_rule e s v t f false m ∙ ap (λ z. Had_as e s v z f) is

put_value : (e : Environment) (s : Span) (v : Val) (args : List PlainArg) (t u : PlainType) → u ≡ replace (arguments args) t → IsTypeIn e u → AnswersAs (map filled args) (rule e (value_fits s v u [])) (rule e (value_fits s v t (map filled args)))
put_value e s v args t u is w =
    subst (λ r. AnswersAs (map filled args) r (rule e (value_fits s v t (map filled args)))) (sym (value_as e s v u u [] (nothing_mentions u) (nothing_put e.names (kinds_in e) u w)))
    (subst (λ q. AnswersAs (map filled args) (Had_as e s v u []) q) (sym (value_as e s v t u (map filled args) (filled_mentions args t) (filled_put args t ∙ sym is)))
    (limited (map filled args) (size_stop e.context u s) _ _ (same_part (map filled args) e (has v u))))

put_end : (e : Environment) (s : Span) (v : Val) (args : List PlainArg) (t u : PlainType) → u ≡ replace (arguments args) t → IsTypeIn e u
    → AnswersAs (map filled args) (part e (value_fits s v u []) give) (part e (value_fits s v t (map filled args)) give)
put_end e s v args t u is w = parts (map filled args) e (value_fits s v u []) (value_fits s v t (map filled args)) give give (put_value e s v args t u is w) (gives_found (map filled args))

-- the positional values
nth_put : (i : ℕ) (r : Replacement) (ps : PlainTypes) → nth_type i (replace_types r ps) ≡ replace r (nth_type i ps)
nth_put i r no_type = refl
nth_put zero r (types t ts) = refl
nth_put (suc i) r (types t ts) = nth_put i r ts

put_values : (e : Environment) (s : Span) (vs : Vals) (args : List PlainArg) (ps us : PlainTypes) → us ≡ replace_types (arguments args) ps → AreWellFormed e.names (kinds_in e) us
    → AnswersAs (map filled args) (rule e (values_fit s vs us [])) (rule e (values_fit s vs ps (map filled args)))
put_values e s no_vals args ps us is w = gives_found (map filled args)
put_values e s (more_vals vs v) args ps us is w =
    parts (map filled args) e (values_fit s vs us []) (values_fit s vs ps (map filled args)) (λ g. part e (value_fits s v (nth_type (count_vals vs) us) g) give) (λ g. part e (value_fits s v (nth_type (count_vals vs) ps) g) give)
    (put_values e s vs args ps us is w)
    (put_end e s v args (nth_type (count_vals vs) ps) (nth_type (count_vals vs) us) (ap (nth_type (count_vals vs)) is ∙ nth_put (count_vals vs) (arguments args) ps) (number_formed e.names (kinds_in e) (count_vals vs) us w))

-- the labelled values
at_put : (l : ℕ) (r : Replacement) (ms : PlainLabels) → type_at l (replace_labels r ms) ≡ option_map (replace r) (type_at l ms)
at_put l r no_label = refl
at_put l r (labels m t ms) = go (nat_eq l m) (at_put l r ms)
  where
    go : (b : Bool) → type_at l (replace_labels r ms) ≡ option_map (replace r) (type_at l ms) → (if b then Some (replace r t) else type_at l (replace_labels r ms)) ≡ option_map (replace r) (if b then Some t else type_at l ms)
    go true h = refl
    go false h = h

-- a type that is there is well formed
abbrev IfThere : Environment → Option PlainType → Type 0
IfThere e None = Unit {0}
IfThere e (Some t) = IsTypeIn e t

abbrev Labelled : Environment → Span → Val → Option PlainType → Found → Rule found_
Labelled e s v o g = if_labelled o (λ t. part e (value_fits s v t g) give) (part e (gives v) (λ x. give g))

put_labelled : (e : Environment) (s : Span) (v : Val) (args : List PlainArg) (o p : Option PlainType) → p ≡ option_map (replace (arguments args)) o → IfThere e p → AnswersAs (map filled args) (Labelled e s v p []) (Labelled e s v o (map filled args))
put_labelled e s v args None None is w = same_part (map filled args) e (gives v)
put_labelled e s v args None (Some u) is w = absurd cc
put_labelled e s v args (Some t) None is w = absurd cc
put_labelled e s v args (Some t) (Some u) is w = put_end e s v args t u (cc) w

if_there : (e : Environment) (l : ℕ) (ms : PlainLabels) → LabelsAreWellFormed e.names (kinds_in e) ms → IfThere e (type_at l ms)
if_there e l no_label w = tt
if_there e l (labels m t ms) w = go (nat_eq l m) (if_there e l ms w.1.1)
  where
    go : (b : Bool) → IfThere e (type_at l ms) → IfThere e (if b then Some t else type_at l ms)
    go true h = w.1.0
    go false h = h

put_labels : (e : Environment) (s : Span) (ls : LabelledVals) (args : List PlainArg) (ms ns : PlainLabels) → ns ≡ replace_labels (arguments args) ms → LabelsAreWellFormed e.names (kinds_in e) ns
    → AnswersAs (map filled args) (rule e (labelled_values_fit s ls ns [])) (rule e (labelled_values_fit s ls ms (map filled args)))
put_labels e s no_labelled_vals args ms ns is w = gives_found (map filled args)
put_labels e s (more_labelled_vals ls l v) args ms ns is w =
    parts (map filled args) e (labelled_values_fit s ls ns []) (labelled_values_fit s ls ms (map filled args)) (Labelled e s v (type_at l.name.0 ns)) (Labelled e s v (type_at l.name.0 ms))
    (put_labels e s ls args ms ns is w)
    (put_labelled e s v args (type_at l.name.0 ms) (type_at l.name.0 ns) (ap (type_at l.name.0) is ∙ at_put l.name.0 (arguments args) ms) (if_there e l.name.0 ns w))

-- all values, in written order
abbrev pub In_order : Environment → Span → Vals → LabelledVals → PlainTypes → PlainLabels → Found → Rule found_
In_order e s vs ls ps ms g = in_order e s vs ls ps ms g give

put_in_order : (e : Environment) (s : Span) (vs : Vals) (ls : LabelledVals) (args : List PlainArg) (ps us : PlainTypes) (ms ns : PlainLabels) → us ≡ replace_types (arguments args) ps → ns ≡ replace_labels (arguments args) ms → AreWellFormed e.names (kinds_in e) us → LabelsAreWellFormed e.names (kinds_in e) ns
    → AnswersAs (map filled args) (In_order e s vs ls us ns []) (In_order e s vs ls ps ms (map filled args))
put_in_order e s vs ls args ps us ms ns is at w x =
    parts (map filled args) e (values_fit s vs us []) (values_fit s vs ps (map filled args)) (λ g. part e (labelled_values_fit s ls ns g) give) (λ g. part e (labelled_values_fit s ls ms g) give)
    (put_values e s vs args ps us is w)
    (parts (map filled args) e (labelled_values_fit s ls ns []) (labelled_values_fit s ls ms (map filled args)) give give (put_labels e s ls args ms ns at x) (gives_found (map filled args)))

-- OF A RECORD OF THE CODE, AND WHAT IT IS WITH THE ARGUMENTS PUT IN

record IsPut (args : List PlainArg) (r q : Record) : Type 0 where
  bounds_ : plain_bounds q.binders.items ≡ no_bound
  positional_ : plain_types q.positional.items ≡ replace_types (arguments args) (plain_types r.positional.items)
  labelled_ : plain_labels q.labelled.items ≡ replace_labels (arguments args) (plain_labels r.labelled.items)

fields_same : (bs cs : PlainBounds) (ps us : PlainTypes) (ms ns : PlainLabels) → Fields bs ps ms ≡ Fields cs us ns → (bs ≡ cs) × ((ps ≡ us) × (ms ≡ ns))
fields_same bs cs ps us ms ns h = (cc, (cc, cc))

put_is : (e : Environment) (s : Span) (args : List PlainArg) (r q : Record) → Runs (formed e (record_with args r) s) (ok (plain_record q)) → IsPut args r q
put_is e s args r q h =
    let k = formed_is e (record_with args r) (plain_record q) s h in
    let x = fields_same (plain_bounds q.binders.items) no_bound (plain_types q.positional.items) (replace_types (arguments args) (plain_types r.positional.items)) (plain_labels q.labelled.items) (replace_labels (arguments args) (plain_labels r.labelled.items)) k.1 in
    record { bounds_ = x.0; positional_ = x.1.0; labelled_ = x.1.1 }

-- it has no type fields
no_bounds : (bs : List Bound) → plain_bounds bs ≡ no_bound → length bs ≡ 0
no_bounds [] h = refl
no_bounds (b ∷ bs) h = absurd cc

pub put_count : (e : Environment) (s : Span) (args : List PlainArg) (r q : Record) → Runs (formed e (record_with args r) s) (ok (plain_record q)) → length q.binders.items ≡ 0
put_count e s args r q h = no_bounds q.binders.items (put_is e s args r q h).bounds_

-- and as many positional ones
pub put_positional : (e : Environment) (s : Span) (args : List PlainArg) (r q : Record) → Runs (formed e (record_with args r) s) (ok (plain_record q)) → length q.positional.items ≡ length r.positional.items
put_positional e s args r q h =
    let k = ap count_types (put_is e s args r q h).positional_ ∙ count_replaced (arguments args) (plain_types r.positional.items) in
    omega (arith, k, count_types_length q.positional.items, count_types_length r.positional.items)

put_fields : (e : Environment) (s : Span) (args : List PlainArg) (r q : Record) → Runs (formed e (record_with args r) s) (ok (plain_record q)) → IsTypeIn e (plain_record q) → AreWellFormed e.names (kinds_in e) (plain_types q.positional.items) × LabelsAreWellFormed e.names (kinds_in e) (plain_labels q.labelled.items)
put_fields e s args r q h w =
    let k : IsTypeIn e (Fields no_bound (plain_types q.positional.items) (plain_labels q.labelled.items)) = subst (λ (z : PlainBounds). IsTypeIn e (Fields z (plain_types q.positional.items) (plain_labels q.labelled.items))) (put_is e s args r q h).bounds_ w in
    (k.1.0, k.1.1)

-- what its values are asked
pub put_asked : (e : Environment) (s : Span) (vs : Vals) (args : List PlainArg) (r q : Record) → IsRegular e → ValsHaveDistinctLabels vs → Runs (formed e (record_with args r) s) (ok (plain_record q)) → IsTypeIn e (plain_record q) → IsWellAsked found_ e (values_fit s vs (plain_types q.positional.items) [])
put_asked e s vs args r q g l h w = record { labels = l; regular = g; asked = ((put_fields e s args r q h w).0, tt) }

pub put_labels_formed : (e : Environment) (s : Span) (args : List PlainArg) (r q : Record) → Runs (formed e (record_with args r) s) (ok (plain_record q)) → IsTypeIn e (plain_record q) → LabelsAreWellFormed e.names (kinds_in e) (plain_labels q.labelled.items)
put_labels_formed e s args r q h w = (put_fields e s args r q h w).1

-- and what its values answer, the record's do
record_put : (e : Environment) (s : Span) (vs : Vals) (ls : LabelledVals) (args : List PlainArg) (r q : Record) → Runs (formed e (record_with args r) s) (ok (plain_record q)) → IsTypeIn e (plain_record q)
    → AnswersAs (map filled args) (In_order e s vs ls (plain_types q.positional.items) (plain_labels q.labelled.items) []) (In_order e s vs ls (plain_types r.positional.items) (plain_labels r.labelled.items) (map filled args))
record_put e s vs ls args r q h w =
    let x = put_is e s args r q h in
    let y = put_fields e s args r q h w in
    put_in_order e s vs ls args (plain_types r.positional.items) (plain_types q.positional.items) (plain_labels r.labelled.items) (plain_labels q.labelled.items) x.positional_ x.labelled_ y.0 y.1

pub put_ok : (e : Environment) (s : Span) (vs : Vals) (ls : LabelledVals) (args : List PlainArg) (r q : Record) (g : Found) → Runs (formed e (record_with args r) s) (ok (plain_record q)) → IsTypeIn e (plain_record q)
    → Runs (In_order e s vs ls (plain_types q.positional.items) (plain_labels q.labelled.items) []) (ok g) → Runs (In_order e s vs ls (plain_types r.positional.items) (plain_labels r.labelled.items) (map filled args)) (ok (map filled args))
put_ok e s vs ls args r q g h w p = (record_put e s vs ls args r q h w).on.on_ok g (ok (map filled args)) p give_

pub put_refused : (e : Environment) (s : Span) (vs : Vals) (ls : LabelledVals) (args : List PlainArg) (r q : Record) (y : InferError) → Runs (formed e (record_with args r) s) (ok (plain_record q)) → IsTypeIn e (plain_record q)
    → IsRefused (In_order e s vs ls (plain_types q.positional.items) (plain_labels q.labelled.items) []) y → IsRefused (In_order e s vs ls (plain_types r.positional.items) (plain_labels r.labelled.items) (map filled args)) y
put_refused e s vs ls args r q y h w p = refused_on y (record_put e s vs ls args r q h w).on p
