-- What each form of the source says of its translation.
use Rattle.std.proofs.Common.{◌≡◌, ℕ, ℤ, Bool, true, false, List, [], ◌∷◌, ◌++◌, length, sym, ◌∙◌, ap, rules, Box, Global}
use Rattle.std.specs.Prelude.{Vec}
use Rattle.pict_syntax.specs.declared.span.Span.{Span}
use Rattle.pict_syntax.specs.declared.id.Id.{Id}
use Rattle.pict_syntax.specs.declared.name.Name.{Name}
use Rattle.pict_syntax.specs.declared.type_tree.TypeTree.{TypeTree as RTypeTree}
use Rattle.pict_syntax.specs.declared.type_tree.RType.{RType as RRType}
use Rattle.pict_syntax.specs.declared.pattern.Pat.{Pat as RPat}
use Rattle.pict_syntax.specs.declared.pattern.FieldPats.{FieldPats as RFieldPats}
use Rattle.pict_syntax.specs.declared.tree.Abs.{Abs, Process, Function}
use Rattle.pict_syntax.specs.declared.tree.Abs.TheViews.{out-FieldVals}
use Rattle.pict_syntax.specs.declared.tree.Chan.{Chan, Use, Fold, Block, Apply, Right, Left}
use Rattle.pict_syntax.specs.declared.tree.Val.{Val, OfChan, Number, Character, String, True, False, Fields, If, Lambda}
use Rattle.pict_syntax.specs.declared.tree.Dec.{Dec, New, Run, Let, Def, Alias, Operator, Await}
use Rattle.pict_syntax.specs.declared.tree.Proc.{Proc, Send, Receive, Serve, If as IfProc, Inert, Group}
use Rattle.pict_syntax.specs.declared.tree.Definition.{Definition}
use Rattle.pict_syntax.specs.declared.tree.FieldVals.{FieldVals}
use Rattle.pict_syntax.specs.Trees.{no_vals, no_labelled_vals, no_decs, no_procs, no_definitions}
use Rattle.pict_syntax.specs.PlainTrees.{field_vals_of, field_pats_of, abs_of, chan_of, val_of, dec_of, proc_of, pat_of, vals_on, labelled_vals_on, decs_on, procs_on, definitions_on}
use Rattle.pict_syntax.proofs.ValueLists.{def_is, block_is, right_is, left_is, group_is}
use Rattle.pict_core.specs.Term as core
use Rattle.pict_core.specs.Plain.{plain_val}
use Rattle.pict_core.specs.declared.value.CoreVal.{CoreVal, the_lemmas as value_lemmas}
use Rattle.pict_core.specs.declared.value.CoreVal.TheVariants as value
use Rattle.pict_translation.specs.Placed.{Placed, new_channel, new_channels, beside, output, input, choice, served, side_by_side}
use Rattle.pict_translation.specs.Arguments.{with_value, sent_as_one, right, left}
use Rattle.pict_translation.specs.Patterns.{pat_core, function_pat}
use Rattle.pict_translation.specs.Simple.{Around, bound, pat_bound, function_bound, answer_channel, record_of_fields, use_of, simple, simple_chan}
use Rattle.pict_translation.specs.Translation.{sending, sending_chan, with_vals, with_labelled, with_fields, arguments, reader, dec_core, decs_core, definition_names, servers, proc_core, procs_core, unit_pat}
use Rattle.pict_derive.proofs.Surrounding.{plain_var}
use Rattle.pict_scope.proofs.ValueForms.{field_vals_are}

-- ---- values

-- the output of a literal on a variable
sent_as : (k : ℕ) (v : CoreVal) (u : core.Val) (s : Span) → plain_val v ≡ u → core.Out (plain_val (value.Var k)) (plain_val v) s ≡ core.Out (core.Var k) u s
sent_as k v u s is = ap (λ x. core.Out x (plain_val v) s) (plain_var k) ∙ ap (λ x. core.Out (core.Var k) x s) is

pub chan_sent : (e : Around) (v : Val) (c : Chan) (k : core.Val) (d : ℕ) → v ≡ OfChan c → sending e (val_of v) k d ≡ sending_chan e (chan_of c) k d
unfolding val_of sending
chan_sent e v c k d is = ap (λ t. sending e (val_of t) k d) is

pub number_sent : (e : Around) (v : Val) (s : Span) (n : ℤ) (k d : ℕ) → v ≡ Number s n → core.Out (plain_val (value.Var k)) (plain_val (value.Int n)) s ≡ sending e (val_of v) (core.Var k) d
unfolding val_of sending
number_sent e v s n k d is = sent_as k (value.Int n) (core.Int n) s (search (rules, value_lemmas)) ∙ sym (ap (λ t. sending e (val_of t) (core.Var k) d) is)

pub character_sent : (e : Around) (v : Val) (s : Span) (n k d : ℕ) → v ≡ Character s n → core.Out (plain_val (value.Var k)) (plain_val (value.Char n)) s ≡ sending e (val_of v) (core.Var k) d
unfolding val_of sending
character_sent e v s n k d is = sent_as k (value.Char n) (core.Char n) s (search (rules, value_lemmas)) ∙ sym (ap (λ t. sending e (val_of t) (core.Var k) d) is)

pub string_sent : (e : Around) (v : Val) (s : Span) (bytes copy : List ℕ) (k d : ℕ) → v ≡ String s bytes → copy ≡ bytes → core.Out (plain_val (value.Var k)) (plain_val (value.Text copy)) s ≡ sending e (val_of v) (core.Var k) d
unfolding val_of sending
string_sent e v s bytes copy k d is same =
    sent_as k (value.Text copy) (core.Text copy) s (search (rules, value_lemmas)) ∙ ap (λ b. core.Out (core.Var k) (core.Text b) s) same ∙ sym (ap (λ t. sending e (val_of t) (core.Var k) d) is)

pub true_sent : (e : Around) (v : Val) (s : Span) (k d : ℕ) → v ≡ True s → core.Out (plain_val (value.Var k)) (plain_val (value.Bool true)) s ≡ sending e (val_of v) (core.Var k) d
unfolding val_of sending
true_sent e v s k d is = sent_as k (value.Bool true) (core.Boolean true) s (search (rules, value_lemmas)) ∙ sym (ap (λ t. sending e (val_of t) (core.Var k) d) is)

pub false_sent : (e : Around) (v : Val) (s : Span) (k d : ℕ) → v ≡ False s → core.Out (plain_val (value.Var k)) (plain_val (value.Bool false)) s ≡ sending e (val_of v) (core.Var k) d
unfolding val_of sending
false_sent e v s k d is = sent_as k (value.Bool false) (core.Boolean false) s (search (rules, value_lemmas)) ∙ sym (ap (λ t. sending e (val_of t) (core.Var k) d) is)

pub fields_sent : (e : Around) (v : Val) (s : Span) (f : Box FieldVals Global) (k : core.Val) (d : ℕ) → v ≡ Fields s f → sending e (val_of v) k d ≡ with_fields e (field_vals_of f.value) (λ vs ls. output k (record_of_fields e vs ls) s) d
unfolding val_of sending
fields_sent e v s f k d is = ap (λ t. sending e (val_of t) k d) is

pub if_sent : (e : Around) (v : Val) (s : Span) (a y n : Box Val Global) (k : core.Val) (d : ℕ) → v ≡ If s a y n → sending e (val_of v) k d ≡ with_value (simple e (val_of a.value)) (sending e (val_of a.value)) (λ b. choice b (sending e (val_of y.value) k) (sending e (val_of n.value) k)) d
unfolding val_of sending
if_sent e v s a y n k d is = ap (λ t. sending e (val_of t) k d) is

pub lambda_sent : (e : Around) (v : Val) (s : Span) (a : Box Abs Global) (k : core.Val) (d : ℕ) → v ≡ Lambda s a → sending e (val_of v) k d ≡ new_channel (λ f. beside (reader e (abs_of a.value) f true) (output k f s)) d
unfolding val_of sending
lambda_sent e v s a k d is = ap (λ t. sending e (val_of t) k d) is

-- ---- values that stand as channels

pub use_sent : (e : Around) (v : Chan) (s : Span) (n : Name) (k d : ℕ) (x : CoreVal) → v ≡ Use s n → plain_val x ≡ use_of e n.0 → core.Out (plain_val (value.Var k)) (plain_val x) s ≡ sending_chan e (chan_of v) (core.Var k) d
unfolding chan_of sending_chan
use_sent e v s n k d x is used = sent_as k x (use_of e n.0) s used ∙ sym (ap (λ t. sending_chan e (chan_of t) (core.Var k) d) is)

pub fold_sent : (e : Around) (v : Chan) (s : Span) (r : RRType) (b : Box Val Global) (k : core.Val) (d : ℕ) → v ≡ Fold s r b → sending_chan e (chan_of v) k d ≡ sent_as_one (simple e (val_of b.value)) k s (sending e (val_of b.value) k) d
unfolding chan_of sending_chan
fold_sent e v s r b k d is = ap (λ t. sending_chan e (chan_of t) k d) is

pub block_sent : (e : Around) (v : Chan) (s : Span) (ds : Vec Dec Global) (b : Box Val Global) (k : core.Val) (d : ℕ) → v ≡ Block s ds b → sending_chan e (chan_of v) k d ≡ decs_core e (decs_on no_decs ds.items) (λ e. sending e (val_of b.value) k) d
unfolding sending_chan
block_sent e v s ds b k d is = ap (λ t. sending_chan e (chan_of t) k d) is ∙ ap (λ t. sending_chan e t k d) (block_is s ds b)

pub apply_sent : (e : Around) (v : Chan) (s : Span) (f : Box Val Global) (a : Box FieldVals Global) (k : core.Val) (d : ℕ) → v ≡ Apply s f a → sending_chan e (chan_of v) k d ≡ with_value (simple e (val_of f.value)) (sending e (val_of f.value)) (λ g. with_fields e (field_vals_of a.value) (λ vs ls. output g (record_of_fields e (vs ++ k ∷ []) ls) s)) d
unfolding chan_of sending_chan
apply_sent e v s f a k d is = ap (λ t. sending_chan e (chan_of t) k d) is

pub right_sent : (e : Around) (v : Chan) (s : Span) (i : Id) (vs : Vec Val Global) (k : core.Val) (d : ℕ) → v ≡ Right s i vs → sending_chan e (chan_of v) k d ≡ (right (use_of e i.name.0) s (arguments e (vals_on no_vals vs.items))).sent k d
unfolding sending_chan
right_sent e v s i vs k d is = ap (λ t. sending_chan e (chan_of t) k d) is ∙ ap (λ t. sending_chan e t k d) (right_is s i vs)

pub left_sent : (e : Around) (v : Chan) (s : Span) (i : Id) (vs : Vec Val Global) (k : core.Val) (d : ℕ) → v ≡ Left s i vs → sending_chan e (chan_of v) k d ≡ (left (use_of e i.name.0) s (arguments e (vals_on no_vals vs.items))).sent k d
unfolding sending_chan
left_sent e v s i vs k d is = ap (λ t. sending_chan e (chan_of t) k d) is ∙ ap (λ t. sending_chan e t k d) (left_is s i vs)

pub parts_taken : (e : Around) (f : FieldVals) (next : List core.Val → List (ℕ × core.Val) → Placed) → with_fields e (field_vals_of f) next ≡ with_vals e (vals_on no_vals (out-FieldVals f).positional.items) (λ us. with_labelled e (labelled_vals_on no_labelled_vals (out-FieldVals f).labelled.items) (λ ws. next us ws))
unfolding with_fields
parts_taken e f next = ap (λ t. with_fields e t next) (field_vals_are f)

-- ---- abstractions

pub process_read : (e : Around) (a : Abs) (s : Span) (p : RPat) (q : Box Proc Global) (x : core.Val) (r : Bool) (d : ℕ) → a ≡ Process s p q → reader e (abs_of a) x r d ≡ input x r (pat_core e.names (pat_of p)) (λ xs. proc_core (pat_bound (pat_of p) xs e) (proc_of q.value)) d
unfolding abs_of reader
process_read e a s p q x r d is = ap (λ t. reader e (abs_of t) x r d) is

pub function_read : (e : Around) (a : Abs) (s : Span) (f : Box RFieldPats Global) (t : RRType) (v : Box Val Global) (x : core.Val) (r : Bool) (d : ℕ) → a ≡ Function s f t v → reader e (abs_of a) x r d ≡ input x r (function_pat e.names (field_pats_of f.value)) (λ xs. sending (function_bound (field_pats_of f.value) xs e) (val_of v.value) (answer_channel e.names (field_pats_of f.value) xs)) d
unfolding abs_of reader
function_read e a s f t v x r d is = ap (λ t. reader e (abs_of t) x r d) is

-- ---- declarations

pub new_built : (e : Around) (t : Dec) (s : Span) (x : Id) (ty : Box RTypeTree Global) (rest : Around → Placed) → t ≡ New s x ty → dec_core e (dec_of t) rest ≡ new_channel (λ c. rest (bound (x.name.0 ∷ []) (c ∷ []) e))
unfolding dec_of dec_core
new_built e t s x ty rest is = ap (λ t. dec_core e (dec_of t) rest) is

pub run_built : (e : Around) (t : Dec) (s : Span) (p : Box Proc Global) (rest : Around → Placed) → t ≡ Run s p → dec_core e (dec_of t) rest ≡ beside (proc_core e (proc_of p.value)) (rest e)
unfolding dec_of dec_core
run_built e t s p rest is = ap (λ t. dec_core e (dec_of t) rest) is

pub let_built : (e : Around) (t : Dec) (s : Span) (p : RPat) (v : Box Val Global) (rest : Around → Placed) → t ≡ Let s p v → dec_core e (dec_of t) rest ≡ new_channel (λ k. beside (input k true (pat_core e.names (pat_of p)) (λ xs. rest (pat_bound (pat_of p) xs e))) (sending e (val_of v.value) k))
unfolding dec_of dec_core
let_built e t s p v rest is = ap (λ t. dec_core e (dec_of t) rest) is

pub def_built : (e : Around) (t : Dec) (s : Span) (ds : Vec Definition Global) (rest : Around → Placed) → t ≡ Def s ds → dec_core e (dec_of t) rest ≡ new_channels (length (definition_names (definitions_on no_definitions ds.items))) (λ xs. served (servers (bound (definition_names (definitions_on no_definitions ds.items)) xs e) (definitions_on no_definitions ds.items)) xs (rest (bound (definition_names (definitions_on no_definitions ds.items)) xs e)))
unfolding dec_core
def_built e t s ds rest is = ap (λ t. dec_core e (dec_of t) rest) is ∙ ap (λ t. dec_core e t rest) (def_is s ds)

pub alias_built : (e : Around) (t : Dec) (s : Span) (x : Id) (ty : Box RTypeTree Global) (rest : Around → Placed) → t ≡ Alias s x ty → dec_core e (dec_of t) rest ≡ rest e
unfolding dec_of dec_core
alias_built e t s x ty rest is = ap (λ t. dec_core e (dec_of t) rest) is

pub operator_built : (e : Around) (t : Dec) (s : Span) (x : Id) (xs : Vec Id Global) (ty : Box RTypeTree Global) (rest : Around → Placed) → t ≡ Operator s x xs ty → dec_core e (dec_of t) rest ≡ rest e
unfolding dec_of dec_core
operator_built e t s x xs ty rest is = ap (λ t. dec_core e (dec_of t) rest) is

pub await_built : (e : Around) (t : Dec) (s : Span) (v : Box Val Global) (rest : Around → Placed) → t ≡ Await s v → dec_core e (dec_of t) rest ≡ new_channel (λ k. beside (input k true unit_pat (λ xs. rest e)) (sending e (val_of v.value) k))
unfolding dec_of dec_core
await_built e t s v rest is = ap (λ t. dec_core e (dec_of t) rest) is

-- ---- processes

pub send_built : (e : Around) (t : Proc) (s : Span) (c : Box Chan Global) (v : Box Val Global) (d : ℕ) → t ≡ Send s c v → proc_core e (proc_of t) d ≡ with_value (simple_chan e (chan_of c.value)) (sending_chan e (chan_of c.value)) (λ x. with_value (simple e (val_of v.value)) (sending e (val_of v.value)) (λ y. output x y s)) d
unfolding dec_of proc_core
send_built e t s c v d is = ap (λ t. proc_core e (proc_of t) d) is

pub receive_built : (e : Around) (t : Proc) (s : Span) (c : Box Chan Global) (a : Box Abs Global) (d : ℕ) → t ≡ Receive s c a → proc_core e (proc_of t) d ≡ with_value (simple_chan e (chan_of c.value)) (sending_chan e (chan_of c.value)) (λ x. reader e (abs_of a.value) x false) d
unfolding dec_of proc_core
receive_built e t s c a d is = ap (λ t. proc_core e (proc_of t) d) is

pub serve_built : (e : Around) (t : Proc) (s : Span) (c : Box Chan Global) (a : Box Abs Global) (d : ℕ) → t ≡ Serve s c a → proc_core e (proc_of t) d ≡ with_value (simple_chan e (chan_of c.value)) (sending_chan e (chan_of c.value)) (λ x. reader e (abs_of a.value) x true) d
unfolding dec_of proc_core
serve_built e t s c a d is = ap (λ t. proc_core e (proc_of t) d) is

pub if_built : (e : Around) (t : Proc) (s : Span) (c : Box Val Global) (p q : Box Proc Global) (d : ℕ) → t ≡ IfProc s c p q → proc_core e (proc_of t) d ≡ with_value (simple e (val_of c.value)) (sending e (val_of c.value)) (λ b. choice b (proc_core e (proc_of p.value)) (proc_core e (proc_of q.value))) d
unfolding dec_of proc_core
if_built e t s c p q d is = ap (λ t. proc_core e (proc_of t) d) is

pub inert_built : (e : Around) (t : Proc) (s : Span) (d : ℕ) → t ≡ Inert s → proc_core e (proc_of t) d ≡ core.Zero
unfolding dec_of proc_core
inert_built e t s d is = ap (λ t. proc_core e (proc_of t) d) is

pub group_built : (e : Around) (t : Proc) (s : Span) (ds : Vec Dec Global) (ps : Vec Proc Global) (d : ℕ) → t ≡ Group s ds ps → proc_core e (proc_of t) d ≡ decs_core e (decs_on no_decs ds.items) (λ e. side_by_side (procs_core e (procs_on no_procs ps.items))) d
unfolding proc_core
group_built e t s ds ps d is = ap (λ t. proc_core e (proc_of t) d) is ∙ ap (λ t. proc_core e t d) (group_is s ds ps)
