-- The outlines of values, abstractions, declarations and processes whose parts stand in vectors and boxes.
use Rattle.std.proofs.Common.{◌≡◌, ℕ, zero, suc, arith, ◌+◌, ◌<◌, ◌≤◌, List, [], ◌∷◌, ◌++◌, map, length, get_or, take, refl, sym, ◌∙◌, ap, subst, append_assoc, append-nil, Box, Global}
use Rattle.std.specs.Prelude.{Vec, Result}
use Rattle.std.proofs.lemmas.List.{map-append, take_all}
use Rattle.pict_syntax.specs.declared.code.Code.TheVariants.{S3}
use Rattle.pict_syntax.specs.declared.span.Span.{Span}
use Rattle.pict_syntax.specs.declared.id.Id.{Id}
use Rattle.pict_syntax.specs.declared.type_tree.TypeTree.{TypeTree as RTypeTree}
use Rattle.pict_syntax.specs.declared.type_tree.RType.{RType as RRType}
use Rattle.pict_syntax.specs.declared.pattern.Pat.{Pat as RPat}
use Rattle.pict_syntax.specs.declared.pattern.FieldPats.{FieldPats as RFieldPats}
use Rattle.pict_syntax.specs.declared.tree.Abs.{Abs as RAbs, Process, Function}
use Rattle.pict_syntax.specs.declared.tree.Abs.TheViews.{out-FieldVals, roll-out-FieldVals}
use Rattle.pict_syntax.specs.declared.tree.Dec.{Dec as RDec, Let, Def, Alias, Operator}
use Rattle.pict_syntax.specs.declared.tree.Definition.{Definition as RDefinition}
use Rattle.pict_syntax.specs.declared.tree.Chan.{Chan as RChan, Block, Right, Left}
use Rattle.pict_syntax.specs.declared.tree.Val.{Val as RVal}
use Rattle.pict_syntax.specs.declared.tree.FieldVals.{FieldVals as RFieldVals}
use Rattle.pict_syntax.specs.declared.tree.LabelledVal.{LabelledVal as RLabelledVal}
use Rattle.pict_syntax.specs.declared.tree.Proc.{Proc as RProc, Group}
use Rattle.pict_syntax.specs.Trees.{no_types, Vals, no_vals, more_vals, LabelledVals, no_labelled_vals, more_labelled_vals, field_vals, Decs, no_decs, more_decs, Definitions, no_definitions, more_definitions, Procs, no_procs, more_procs}
use Rattle.pict_syntax.specs.PlainTrees.{type_of, annotation_of, pat_of, field_pats_of, dec_of, abs_of, chan_of, val_of, proc_of, field_vals_of, types_on, vals_on, labelled_vals_on, decs_on, definitions_on, procs_on}
use Rattle.pict_syntax.proofs.ValueLists.{field_vals_is, def_is, block_is, right_is, left_is, group_is}
use Rattle.pict_scope.specs.declared.error.ScopeError.{ScopeError}
use Rattle.pict_scope.specs.declared.reader.Reader.{Reader}
use Rattle.pict_scope.specs.Around.{Around, with_value, with_values}
use Rattle.pict_scope.specs.Outlines.{Outline, empty, ◌▸◌, closed, group, pattern, binds_all, binds_type, once, value_use, opens, marks}
use Rattle.pict_scope.specs.Forms.{in_type, in_types, in_annotation, in_pat, in_field_pats, in_dec, in_decs, in_definitions, in_abs, in_chan, in_val, in_vals, in_field_vals, in_labelled_vals, in_proc, in_procs, defined, with_parameters}
use Rattle.pict_scope.specs.Held.{each_on, each, in_type_tree, in_val_tree, in_labelled_val, in_dec_tree, in_definition, in_proc_tree, in_parameter}
use Rattle.pict_scope.specs.Reads.{around, Moves, Reads, Refuses, IsRead}
use Rattle.pict_scope.proofs.Reading.{then_nothing, both_kept, each_more, each_refused, taken}
use Rattle.pict_scope.proofs.TypeForms.{read_as, all_types}

vals_each : (vs : Vals) (xs : List RVal) → each_on in_val_tree (in_vals vs) xs ≡ in_vals (vals_on vs xs)
unfolding each_on vals_on
vals_each vs [] = refl
vals_each vs (x ∷ xs) = vals_each (more_vals vs (val_of x)) xs

labelled_each : (ls : LabelledVals) (xs : List RLabelledVal) → each_on in_labelled_val (in_labelled_vals ls) xs ≡ in_labelled_vals (labelled_vals_on ls xs)
unfolding each_on labelled_vals_on
labelled_each ls [] = refl
labelled_each ls (x ∷ xs) = labelled_each (more_labelled_vals ls x.label (val_of x.value)) xs

decs_each : (ds : Decs) (xs : List RDec) → each_on in_dec_tree (in_decs ds) xs ≡ in_decs (decs_on ds xs)
unfolding each_on decs_on
decs_each ds [] = refl
decs_each ds (x ∷ xs) = decs_each (more_decs ds (dec_of x)) xs

pub all_decs : (xs : List RDec) → each in_dec_tree xs ≡ in_decs (decs_on no_decs xs)
all_decs xs = decs_each no_decs xs

procs_each : (ps : Procs) (xs : List RProc) → each_on in_proc_tree (in_procs ps) xs ≡ in_procs (procs_on ps xs)
unfolding each_on procs_on
procs_each ps [] = refl
procs_each ps (x ∷ xs) = procs_each (more_procs ps (proc_of x)) xs

definitions_each : (ds : Definitions) (xs : List RDefinition) → each_on in_definition (in_definitions ds) xs ≡ in_definitions (definitions_on ds xs)
unfolding each_on definitions_on
definitions_each ds [] = refl
definitions_each ds (x ∷ xs) = definitions_each (more_definitions ds x.id (abs_of x.abs)) xs

defined_each : (ds : Definitions) (xs : List RDefinition) → defined ds ++ map (λ d. d.id) xs ≡ defined (definitions_on ds xs)
unfolding definitions_on
defined_each ds [] = append-nil (defined ds)
defined_each ds (x ∷ xs) = sym (append_assoc (defined ds) (x.id ∷ []) (map (λ d. d.id) xs)) ∙ defined_each (more_definitions ds x.id (abs_of x.abs)) xs

parameters_each : (o : Outline) (xs : List Id) → each_on in_parameter o xs ≡ with_parameters o xs
unfolding each_on
parameters_each o [] = refl
parameters_each o (x ∷ xs) = parameters_each (o ▸ (once S3 x ▸ binds_type x empty)) xs

-- fields
pub field_vals_are : (f : RFieldVals) → field_vals_of f ≡ field_vals (types_on no_types (out-FieldVals f).type_arguments.items) (vals_on no_vals (out-FieldVals f).positional.items) (labelled_vals_on no_labelled_vals (out-FieldVals f).labelled.items)
field_vals_are f = ap field_vals_of (sym (roll-out-FieldVals f)) ∙ field_vals_is (out-FieldVals f).type_arguments (out-FieldVals f).positional (out-FieldVals f).labelled

fields : (ts : List RTypeTree) (vs : List RVal) (ls : List RLabelledVal) → each in_type_tree ts ▸ (each in_val_tree vs ▸ group (each in_labelled_val ls)) ≡ in_field_vals (field_vals (types_on no_types ts) (vals_on no_vals vs) (labelled_vals_on no_labelled_vals ls))
fields ts vs ls =
    ap (λ o. o ▸ (each in_val_tree vs ▸ group (each in_labelled_val ls))) (all_types ts)
    ∙ (ap (λ o. in_types (types_on no_types ts) ▸ (o ▸ group (each in_labelled_val ls))) (vals_each no_vals vs)
    ∙ ap (λ o. in_types (types_on no_types ts) ▸ (in_vals (vals_on no_vals vs) ▸ group o)) (labelled_each no_labelled_vals ls))

pub field_vals_read : {T : Type 0} (f : RFieldVals) (xs : List RTypeTree) (ys : List RVal) (zs : List RLabelledVal) (a b : Reader) (r : Result T ScopeError) → xs ≡ (out-FieldVals f).type_arguments.items → ys ≡ (out-FieldVals f).positional.items → zs ≡ (out-FieldVals f).labelled.items → IsRead (each in_type_tree xs ▸ (each in_val_tree ys ▸ group (each in_labelled_val zs))) a b r → IsRead (in_field_vals (field_vals_of f)) a b r
field_vals_read f xs ys zs a b r p q u h =
    let g = out-FieldVals f in
    read_as _ _ a b r (ap (λ l. each in_type_tree l ▸ (each in_val_tree ys ▸ group (each in_labelled_val zs))) p ∙ (ap (λ l. each in_type_tree g.type_arguments.items ▸ (each in_val_tree l ▸ group (each in_labelled_val zs))) q ∙ (ap (λ l. each in_type_tree g.type_arguments.items ▸ (each in_val_tree g.positional.items ▸ group (each in_labelled_val l))) u ∙ (fields g.type_arguments.items g.positional.items g.labelled.items ∙ ap in_field_vals (sym (field_vals_are f)))))) h

-- values that may stand as channels
pub block_read : {T : Type 0} (t : RChan) (s : Span) (ds : Vec RDec Global) (v : Box RVal Global) (xs : List RDec) (w : RVal) (a b : Reader) (r : Result T ScopeError) → t ≡ Block s ds v → xs ≡ ds.items → w ≡ v.value → IsRead (closed (each in_dec_tree xs ▸ in_val (val_of w))) a b r → IsRead (in_chan (chan_of t)) a b r
block_read t s ds v xs w a b r is p q h =
    read_as _ _ a b r (ap (λ l. closed (each in_dec_tree l ▸ in_val (val_of w))) p ∙ (ap (λ x. closed (each in_dec_tree ds.items ▸ in_val (val_of x))) q ∙ (ap (λ o. closed (o ▸ in_val (val_of v.value))) (all_decs ds.items) ∙ (ap in_chan (sym (block_is s ds v)) ∙ ap (λ x. in_chan (chan_of x)) (sym is))))) h

pub right_read : {T : Type 0} (t : RChan) (s : Span) (i : Id) (vs : Vec RVal Global) (xs : List RVal) (a b : Reader) (r : Result T ScopeError) → t ≡ Right s i vs → xs ≡ vs.items → IsRead (value_use i.span i.name.0 ▸ each in_val_tree xs) a b r → IsRead (in_chan (chan_of t)) a b r
right_read t s i vs xs a b r is p h =
    read_as _ _ a b r (ap (λ l. value_use i.span i.name.0 ▸ each in_val_tree l) p ∙ (ap (λ o. value_use i.span i.name.0 ▸ o) (vals_each no_vals vs.items) ∙ (ap in_chan (sym (right_is s i vs)) ∙ ap (λ x. in_chan (chan_of x)) (sym is)))) h

pub left_read : {T : Type 0} (t : RChan) (s : Span) (i : Id) (vs : Vec RVal Global) (xs : List RVal) (a b : Reader) (r : Result T ScopeError) → t ≡ Left s i vs → xs ≡ vs.items → IsRead (value_use i.span i.name.0 ▸ each in_val_tree xs) a b r → IsRead (in_chan (chan_of t)) a b r
left_read t s i vs xs a b r is p h =
    read_as _ _ a b r (ap (λ l. value_use i.span i.name.0 ▸ each in_val_tree l) p ∙ (ap (λ o. value_use i.span i.name.0 ▸ o) (vals_each no_vals vs.items) ∙ (ap in_chan (sym (left_is s i vs)) ∙ ap (λ x. in_chan (chan_of x)) (sym is)))) h

-- processes
pub group_proc_read : {T : Type 0} (t : RProc) (s : Span) (ds : Vec RDec Global) (ps : Vec RProc Global) (xs : List RDec) (ys : List RProc) (a b : Reader) (r : Result T ScopeError) → t ≡ Group s ds ps → xs ≡ ds.items → ys ≡ ps.items → IsRead (closed (each in_dec_tree xs ▸ each in_proc_tree ys)) a b r → IsRead (in_proc (proc_of t)) a b r
group_proc_read t s ds ps xs ys a b r is p q h =
    read_as _ _ a b r (ap (λ l. closed (each in_dec_tree l ▸ each in_proc_tree ys)) p ∙ (ap (λ l. closed (each in_dec_tree ds.items ▸ each in_proc_tree l)) q ∙ (ap (λ o. closed (o ▸ each in_proc_tree ps.items)) (all_decs ds.items) ∙ (ap (λ o. closed (in_decs (decs_on no_decs ds.items) ▸ o)) (procs_each no_procs ps.items) ∙ (ap in_proc (sym (group_is s ds ps)) ∙ ap (λ x. in_proc (proc_of x)) (sym is)))))) h

-- abstractions
pub process_read : {T : Type 0} (t : RAbs) (s : Span) (p : RPat) (q : Box RProc Global) (u : RPat) (v : RProc) (a b : Reader) (r : Result T ScopeError) → t ≡ Process s p q → u ≡ p → v ≡ q.value → IsRead (closed (pattern (in_pat (pat_of u)) empty ▸ in_proc (proc_of v))) a b r → IsRead (in_abs (abs_of t)) a b r
unfolding dec_of
process_read t s p q u v a b r is e f h =
    read_as _ _ a b r (ap (λ x. closed (pattern (in_pat (pat_of x)) empty ▸ in_proc (proc_of v))) e ∙ (ap (λ x. closed (pattern (in_pat (pat_of p)) empty ▸ in_proc (proc_of x))) f ∙ ap (λ x. in_abs (abs_of x)) (sym is))) h

pub function_read : {T : Type 0} (t : RAbs) (s : Span) (f : Box RFieldPats Global) (n : RRType) (q : Box RVal Global) (u : RFieldPats) (m : RRType) (v : RVal) (a b : Reader) (r : Result T ScopeError) → t ≡ Function s f n q → u ≡ f.value → m ≡ n → v ≡ q.value → IsRead (closed (pattern (in_field_pats (field_pats_of u) ▸ in_annotation (annotation_of m)) empty ▸ in_val (val_of v))) a b r → IsRead (in_abs (abs_of t)) a b r
unfolding dec_of
function_read t s f n q u m v a b r is e g k h =
    read_as _ _ a b r (ap (λ x. closed (pattern (in_field_pats (field_pats_of x) ▸ in_annotation (annotation_of m)) empty ▸ in_val (val_of v))) e ∙ (ap (λ x. closed (pattern (in_field_pats (field_pats_of f.value) ▸ in_annotation (annotation_of x)) empty ▸ in_val (val_of v))) g ∙ (ap (λ x. closed (pattern (in_field_pats (field_pats_of f.value) ▸ in_annotation (annotation_of n)) empty ▸ in_val (val_of x))) k ∙ ap (λ x. in_abs (abs_of x)) (sym is)))) h

-- declarations
pub let_read : {T : Type 0} (t : RDec) (s : Span) (p : RPat) (v : Box RVal Global) (u : RPat) (w : RVal) (a b : Reader) (r : Result T ScopeError) → t ≡ Let s p v → u ≡ p → w ≡ v.value → IsRead (pattern (in_pat (pat_of u)) (in_val (val_of w))) a b r → IsRead (in_dec (dec_of t)) a b r
unfolding dec_of
let_read t s p v u w a b r is e f h =
    read_as _ _ a b r (ap (λ x. pattern (in_pat (pat_of x)) (in_val (val_of w))) e ∙ (ap (λ x. pattern (in_pat (pat_of p)) (in_val (val_of x))) f ∙ ap (λ x. in_dec (dec_of x)) (sym is))) h

pub def_read : {T : Type 0} (t : RDec) (s : Span) (ds : Vec RDefinition Global) (xs ys : List RDefinition) (a b : Reader) (r : Result T ScopeError) → t ≡ Def s ds → xs ≡ ds.items → ys ≡ ds.items → IsRead (binds_all (map (λ d. d.id) xs) ▸ group (each in_definition ys)) a b r → IsRead (in_dec (dec_of t)) a b r
def_read t s ds xs ys a b r is p q h =
    read_as _ _ a b r (ap (λ l. binds_all (map (λ d. d.id) l) ▸ group (each in_definition ys)) p ∙ (ap (λ l. binds_all (map (λ d. d.id) ds.items) ▸ group (each in_definition l)) q ∙ (ap (λ l. binds_all l ▸ group (each in_definition ds.items)) (defined_each no_definitions ds.items) ∙ (ap (λ o. binds_all (defined (definitions_on no_definitions ds.items)) ▸ group o) (definitions_each no_definitions ds.items) ∙ (ap in_dec (sym (def_is s ds)) ∙ ap (λ x. in_dec (dec_of x)) (sym is)))))) h

pub alias_read : {T : Type 0} (t : RDec) (s : Span) (i : Id) (u : Box RTypeTree Global) (v : RTypeTree) (a b : Reader) (r : Result T ScopeError) → t ≡ Alias s i u → v ≡ u.value → IsRead (binds_type i (in_type (type_of v))) a b r → IsRead (in_dec (dec_of t)) a b r
unfolding dec_of
alias_read t s i u v a b r is p h = read_as _ _ a b r (ap (λ x. binds_type i (in_type (type_of x))) p ∙ ap (λ x. in_dec (dec_of x)) (sym is)) h

pub operator_read : {T : Type 0} (t : RDec) (s : Span) (i : Id) (is : Vec Id Global) (u : Box RTypeTree Global) (xs : List Id) (v : RTypeTree) (a b : Reader) (r : Result T ScopeError) → t ≡ Operator s i is u → xs ≡ is.items → v ≡ u.value → IsRead (binds_type i (closed (group (each in_parameter xs) ▸ in_type (type_of v)))) a b r → IsRead (in_dec (dec_of t)) a b r
unfolding dec_of
operator_read t s i is u xs v a b r e p q h =
    read_as _ _ a b r (ap (λ l. binds_type i (closed (group (each in_parameter l) ▸ in_type (type_of v)))) p ∙ (ap (λ x. binds_type i (closed (group (each in_parameter is.items) ▸ in_type (type_of x)))) q ∙ (ap (λ o. binds_type i (closed (group o ▸ in_type (type_of u.value)))) (parameters_each empty is.items) ∙ ap (λ x. in_dec (dec_of x)) (sym e)))) h

-- the names of a `def`, one after the other
pub values_more : (xs : List Id) (x : Id) (a : Around) → with_values (xs ++ x ∷ []) a ≡ with_value x (with_values xs a)
values_more [] x a = refl
values_more (y ∷ xs) x a = values_more xs x (with_value y a)

pub all_none : (a : Reader) → Reads (binds_all []) a a
unfolding opens marks
all_none a = record {
  around_ = refl;
  answers = record { none_stops = refl; values = sym (append-nil _); types_ = sym (append-nil _); order = sym (append-nil _) };
  outside_ = record { pattern_values = refl; pattern_types = refl; group = refl };
}

all_more : (xs : List Id) (x : Id) (a b c : Reader) → Reads (binds_all xs) a b → Moves (with_value x) b c → Reads (binds_all (xs ++ x ∷ [])) a c
unfolding opens marks
all_more xs x a b c h k = record {
  around_ = k.around_ ∙ (ap (with_value x) h.around_ ∙ sym (values_more xs x (around a)));
  answers = then_nothing h.answers k.answers;
  outside_ = both_kept h.outside_ k.outside_;
}

pub one_ahead : (ds : List RDefinition) (i : ℕ) (d : RDefinition) (a b c : Reader) → i < length ds → d ≡ get_or ds i d → Reads (binds_all (map (λ x. x.id) (take i ds))) a b → Moves (with_value d.id) b c → Reads (binds_all (map (λ x. x.id) (take (i + 1) ds))) a c
one_ahead ds i d a b c h is k l =
    let more : take (i + 1) ds ≡ take i ds ++ d ∷ [] = taken ds i d h is in
    subst (λ xs. Reads (binds_all xs) a c) (sym (ap (map (λ x. x.id)) more ∙ map-append (λ x. x.id) (take i ds) (d ∷ []))) (all_more (map (λ x. x.id) (take i ds)) d.id a b c k l)

pub all_ahead : (ds : List RDefinition) (i : ℕ) (a b : Reader) → length ds ≤ i → Reads (binds_all (map (λ x. x.id) (take i ds))) a b → Reads (binds_all (map (λ x. x.id) ds)) a b
all_ahead ds i a b h k = subst (λ l. Reads (binds_all (map (λ x. x.id) l)) a b) (take_all i ds h) k

-- items that are copied
get_or_same : {A : Type 0} (xs : List A) (i : ℕ) (d : A) → i < length xs → get_or xs i d ≡ get_or xs i (get_or xs i d)
get_or_same [] i d h = absurd (omega arith)
get_or_same (x ∷ xs) zero d h = refl
get_or_same (x ∷ xs) (suc i) d h = get_or_same xs i d (omega arith)

pub each_more_at : {A : Type 0} (f : A → Outline) (xs : List A) (i : ℕ) (d : A) (a b c : Reader) → i < length xs → Reads (each f (take i xs)) a b → Reads (f (get_or xs i d)) b c → Reads (each f (take (i + 1) xs)) a c
each_more_at f xs i d a b c h k l = each_more f xs i (get_or xs i d) a b c h (get_or_same xs i d h) k l

pub each_refused_at : {A : Type 0} (f : A → Outline) (xs : List A) (i : ℕ) (d : A) (a b : Reader) (e : ScopeError) → i < length xs → Reads (each f (take i xs)) a b → Refuses (f (get_or xs i d)) b e → Refuses (each f xs) a e
each_refused_at f xs i d a b e h k l = each_refused f xs i (get_or xs i d) a b e h (get_or_same xs i d h) k l

pub ruleset value_forms = (block_read, right_read, left_read, group_proc_read, process_read, function_read, let_read, def_read, alias_read, operator_read)
