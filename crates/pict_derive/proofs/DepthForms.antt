-- What each form of the source says of depths.
use Rattle.std.proofs.Common.{◌≡◌, ℕ, ℤ, ◌+◌, max, List, [], ◌∷◌, ◌++◌, length, map, Option, Some, None, ap, sym, ◌∙◌, Box, Global, append_assoc}
use Rattle.std.specs.Prelude.{Vec}
use Rattle.std.proofs.lemmas.List.{append-nil}
use Rattle.pict_syntax.specs.declared.span.Span.{Span}
use Rattle.pict_syntax.specs.declared.id.Id.{Id}
use Rattle.pict_syntax.specs.declared.name.Name.{Name}
use Rattle.pict_syntax.specs.declared.type_tree.TypeTree.{TypeTree as RTypeTree}
use Rattle.pict_syntax.specs.declared.type_tree.RType.{RType as RRType}
use Rattle.pict_syntax.specs.declared.pattern.Pat.{Pat as RPat}
use Rattle.pict_syntax.specs.declared.pattern.FieldPats.{FieldPats as RFieldPats}
use Rattle.pict_syntax.specs.declared.tree.Abs.{Abs, Process, Function}
use Rattle.pict_syntax.specs.declared.tree.Abs.TheViews.{out-FieldVals, roll-out-FieldVals}
use Rattle.pict_syntax.specs.declared.tree.Chan.{Chan, Use, Fold, Block, Apply, Right, Left}
use Rattle.pict_syntax.specs.declared.tree.Val.{Val, OfChan, Number, Character, String, True, False, Fields, If, Lambda}
use Rattle.pict_syntax.specs.declared.tree.Dec.{Dec, New, Run, Let, Def, Alias, Operator, Await}
use Rattle.pict_syntax.specs.declared.tree.Proc.{Proc, Send, Receive, Serve, If as IfProc, Inert, Group}
use Rattle.pict_syntax.specs.declared.tree.Definition.{Definition}
use Rattle.pict_syntax.specs.declared.tree.FieldVals.{FieldVals}
use Rattle.pict_syntax.specs.Trees.{Vals, no_vals, more_vals, no_labelled_vals, Definitions, no_definitions, more_definitions, no_decs, no_procs}
use Rattle.pict_syntax.specs.PlainTrees.{field_vals_of, abs_of, chan_of, val_of, dec_of, proc_of, vals_on, labelled_vals_on, decs_on, procs_on, definitions_on}
use Rattle.pict_syntax.proofs.ValueLists.{field_vals_is, def_is, block_is, right_is, left_is, group_is}
use Rattle.pict_translation.specs.Depth.{or_one, put_with, right_depth, left_depth, side_depth, served_depth, sent_depth, sent_chan_depth, fields_depth, withs_depth, labelled_depth, depths, abs_depth, abs_depths, dec_depth, decs_depth, proc_depth, proc_depths}
use Rattle.pict_derive.specs.Held.{held_option}
use Rattle.pict_derive.proofs.HeldDepths.{withs_held}

-- ---- values

pub chan_is : (v : Val) (c : Chan) → v ≡ OfChan c → sent_depth (val_of v) ≡ sent_chan_depth (chan_of c)
unfolding dec_of sent_depth
chan_is v c is = ap (λ t. sent_depth (val_of t)) is

pub number_is : (v : Val) (s : Span) (n : ℤ) → v ≡ Number s n → sent_depth (val_of v) ≡ None
unfolding dec_of sent_depth
number_is v s n is = ap (λ t. sent_depth (val_of t)) is

pub character_is : (v : Val) (s : Span) (n : ℕ) → v ≡ Character s n → sent_depth (val_of v) ≡ None
unfolding dec_of sent_depth
character_is v s n is = ap (λ t. sent_depth (val_of t)) is

pub string_is : (v : Val) (s : Span) (n : _) → v ≡ String s n → sent_depth (val_of v) ≡ None
unfolding dec_of sent_depth
string_is v s n is = ap (λ t. sent_depth (val_of t)) is

pub true_is : (v : Val) (s : Span) → v ≡ True s → sent_depth (val_of v) ≡ None
unfolding dec_of sent_depth
true_is v s is = ap (λ t. sent_depth (val_of t)) is

pub false_is : (v : Val) (s : Span) → v ≡ False s → sent_depth (val_of v) ≡ None
unfolding dec_of sent_depth
false_is v s is = ap (λ t. sent_depth (val_of t)) is

pub fields_is : (v : Val) (s : Span) (f : Box FieldVals Global) → v ≡ Fields s f → sent_depth (val_of v) ≡ fields_depth (field_vals_of f.value) None
unfolding dec_of sent_depth
fields_is v s f is = ap (λ t. sent_depth (val_of t)) is

pub if_is : (v : Val) (s : Span) (a b c : Box Val Global) → v ≡ If s a b c → sent_depth (val_of v) ≡ put_with (sent_depth (val_of a.value)) (Some (max (or_one (sent_depth (val_of b.value))) (or_one (sent_depth (val_of c.value))) + 1))
unfolding dec_of sent_depth
if_is v s a b c is = ap (λ t. sent_depth (val_of t)) is

pub lambda_is : (v : Val) (s : Span) (a : Box Abs Global) → v ≡ Lambda s a → sent_depth (val_of v) ≡ Some (max (abs_depth (abs_of a.value)) 1 + 2)
unfolding dec_of sent_depth
lambda_is v s a is = ap (λ t. sent_depth (val_of t)) is

-- ---- values that stand as channels

pub use_is : (v : Chan) (s : Span) (n : Name) → v ≡ Use s n → sent_chan_depth (chan_of v) ≡ None
unfolding dec_of sent_depth
use_is v s n is = ap (λ t. sent_chan_depth (chan_of t)) is

pub fold_is : (v : Chan) (s : Span) (r : RRType) (b : Box Val Global) → v ≡ Fold s r b → sent_chan_depth (chan_of v) ≡ sent_depth (val_of b.value)
unfolding dec_of sent_depth
fold_is v s r b is = ap (λ t. sent_chan_depth (chan_of t)) is

pub block_depth : (v : Chan) (s : Span) (ds : Vec Dec Global) (b : Box Val Global) → v ≡ Block s ds b → sent_chan_depth (chan_of v) ≡ Some (decs_depth (decs_on no_decs ds.items) (or_one (sent_depth (val_of b.value))))
unfolding sent_depth
block_depth v s ds b is = ap (λ t. sent_chan_depth (chan_of t)) is ∙ ap sent_chan_depth (block_is s ds b)

pub apply_is : (v : Chan) (s : Span) (f : Box Val Global) (a : Box FieldVals Global) → v ≡ Apply s f a → sent_chan_depth (chan_of v) ≡ Some (or_one (put_with (sent_depth (val_of f.value)) (fields_depth (field_vals_of a.value) (Some 1))))
unfolding dec_of sent_depth
apply_is v s f a is = ap (λ t. sent_chan_depth (chan_of t)) is

pub right_depth_is : (v : Chan) (s : Span) (i : Id) (vs : Vec Val Global) → v ≡ Right s i vs → sent_chan_depth (chan_of v) ≡ Some (or_one (right_depth (depths (vals_on no_vals vs.items))))
unfolding sent_depth
right_depth_is v s i vs is = ap (λ t. sent_chan_depth (chan_of t)) is ∙ ap sent_chan_depth (right_is s i vs)

pub left_depth_is : (v : Chan) (s : Span) (i : Id) (vs : Vec Val Global) → v ≡ Left s i vs → sent_chan_depth (chan_of v) ≡ Some (or_one (left_depth (depths (vals_on no_vals vs.items))))
unfolding sent_depth
left_depth_is v s i vs is = ap (λ t. sent_chan_depth (chan_of t)) is ∙ ap sent_chan_depth (left_is s i vs)

-- the fields of a record or an application: the labelled ones stand behind the positional ones
pub fields_held : (f : FieldVals) (inner m n : Option ℕ) → held_option m ≡ held_option (labelled_depth (labelled_vals_on no_labelled_vals (out-FieldVals f).labelled.items) inner) → held_option n ≡ held_option (withs_depth (vals_on no_vals (out-FieldVals f).positional.items) m) → held_option n ≡ held_option (fields_depth (field_vals_of f) inner)
unfolding fields_depth
fields_held f inner m n first last =
    last ∙ withs_held (vals_on no_vals (out-FieldVals f).positional.items) m _ first
    ∙ sym (ap (λ g. held_option (fields_depth g inner)) (ap field_vals_of (sym (roll-out-FieldVals f)) ∙ field_vals_is (out-FieldVals f).type_arguments (out-FieldVals f).positional (out-FieldVals f).labelled))

-- ---- abstractions, declarations, processes

pub process_is : (a : Abs) (s : Span) (p : RPat) (q : Box Proc Global) → a ≡ Process s p q → abs_depth (abs_of a) ≡ proc_depth (proc_of q.value) + 1
unfolding dec_of abs_depth
process_is a s p q is = ap (λ t. abs_depth (abs_of t)) is

pub function_is : (a : Abs) (s : Span) (f : Box RFieldPats Global) (r : RRType) (v : Box Val Global) → a ≡ Function s f r v → abs_depth (abs_of a) ≡ or_one (sent_depth (val_of v.value)) + 1
unfolding dec_of abs_depth
function_is a s f r v is = ap (λ t. abs_depth (abs_of t)) is

pub new_is : (d : Dec) (s : Span) (x : Id) (t : Box RTypeTree Global) (n : ℕ) → d ≡ New s x t → dec_depth (dec_of d) n ≡ n + 1
unfolding dec_of dec_depth
new_is d s x t n is = ap (λ t. dec_depth (dec_of t) n) is

pub run_is : (d : Dec) (s : Span) (p : Box Proc Global) (n : ℕ) → d ≡ Run s p → dec_depth (dec_of d) n ≡ max (proc_depth (proc_of p.value)) n + 1
unfolding dec_of dec_depth
run_is d s p n is = ap (λ t. dec_depth (dec_of t) n) is

pub let_is : (d : Dec) (s : Span) (p : RPat) (v : Box Val Global) (n : ℕ) → d ≡ Let s p v → dec_depth (dec_of d) n ≡ max (n + 1) (or_one (sent_depth (val_of v.value))) + 2
unfolding dec_of dec_depth
let_is d s p v n is = ap (λ t. dec_depth (dec_of t) n) is

pub def_depth : (d : Dec) (s : Span) (ds : Vec Definition Global) (n : ℕ) → d ≡ Def s ds → dec_depth (dec_of d) n ≡ length (abs_depths (definitions_on no_definitions ds.items)) + served_depth (abs_depths (definitions_on no_definitions ds.items)) n
unfolding dec_depth
def_depth d s ds n is = ap (λ t. dec_depth (dec_of t) n) is ∙ ap (λ t. dec_depth t n) (def_is s ds)

pub alias_is : (d : Dec) (s : Span) (x : Id) (t : Box RTypeTree Global) (n : ℕ) → d ≡ Alias s x t → dec_depth (dec_of d) n ≡ n
unfolding dec_of dec_depth
alias_is d s x t n is = ap (λ t. dec_depth (dec_of t) n) is

pub operator_is : (d : Dec) (s : Span) (x : Id) (xs : Vec Id Global) (t : Box RTypeTree Global) (n : ℕ) → d ≡ Operator s x xs t → dec_depth (dec_of d) n ≡ n
unfolding dec_of dec_depth
operator_is d s x xs t n is = ap (λ t. dec_depth (dec_of t) n) is

pub await_is : (d : Dec) (s : Span) (v : Box Val Global) (n : ℕ) → d ≡ Await s v → dec_depth (dec_of d) n ≡ max (n + 1) (or_one (sent_depth (val_of v.value))) + 2
unfolding dec_of dec_depth
await_is d s v n is = ap (λ t. dec_depth (dec_of t) n) is

pub send_is : (p : Proc) (s : Span) (c : Box Chan Global) (v : Box Val Global) → p ≡ Send s c v → proc_depth (proc_of p) ≡ or_one (put_with (sent_chan_depth (chan_of c.value)) (put_with (sent_depth (val_of v.value)) None))
unfolding dec_of proc_depth
send_is p s c v is = ap (λ t. proc_depth (proc_of t)) is

pub receive_is : (p : Proc) (s : Span) (c : Box Chan Global) (a : Box Abs Global) → p ≡ Receive s c a → proc_depth (proc_of p) ≡ or_one (put_with (sent_chan_depth (chan_of c.value)) (Some (abs_depth (abs_of a.value))))
unfolding dec_of proc_depth
receive_is p s c a is = ap (λ t. proc_depth (proc_of t)) is

pub serve_is : (p : Proc) (s : Span) (c : Box Chan Global) (a : Box Abs Global) → p ≡ Serve s c a → proc_depth (proc_of p) ≡ or_one (put_with (sent_chan_depth (chan_of c.value)) (Some (abs_depth (abs_of a.value))))
unfolding dec_of proc_depth
serve_is p s c a is = ap (λ t. proc_depth (proc_of t)) is

pub if_proc_is : (p : Proc) (s : Span) (c : Box Val Global) (a b : Box Proc Global) → p ≡ IfProc s c a b → proc_depth (proc_of p) ≡ or_one (put_with (sent_depth (val_of c.value)) (Some (max (proc_depth (proc_of a.value)) (proc_depth (proc_of b.value)) + 1)))
unfolding dec_of proc_depth
if_proc_is p s c a b is = ap (λ t. proc_depth (proc_of t)) is

pub inert_is : (p : Proc) (s : Span) → p ≡ Inert s → proc_depth (proc_of p) ≡ 1
unfolding dec_of proc_depth
inert_is p s is = ap (λ t. proc_depth (proc_of t)) is

pub group_depth : (p : Proc) (s : Span) (ds : Vec Dec Global) (ps : Vec Proc Global) → p ≡ Group s ds ps → proc_depth (proc_of p) ≡ decs_depth (decs_on no_decs ds.items) (side_depth (proc_depths (procs_on no_procs ps.items)))
unfolding proc_depth
group_depth p s ds ps is = ap (λ t. proc_depth (proc_of t)) is ∙ ap proc_depth (group_is s ds ps)

-- ---- the depths of lists of trees

pub depths_on : (vs : Vals) (xs : List Val) → depths (vals_on vs xs) ≡ depths vs ++ map (λ x. sent_depth (val_of x)) xs
unfolding vals_on depths
depths_on vs [] = sym (append-nil (depths vs))
depths_on vs (x ∷ xs) = depths_on (more_vals vs (val_of x)) xs ∙ append_assoc (depths vs) (sent_depth (val_of x) ∷ []) _

pub abs_depths_on : (ds : Definitions) (xs : List Definition) → abs_depths (definitions_on ds xs) ≡ abs_depths ds ++ map (λ x. abs_depth (abs_of x.abs)) xs
unfolding definitions_on abs_depths
abs_depths_on ds [] = sym (append-nil (abs_depths ds))
abs_depths_on ds (x ∷ xs) = abs_depths_on (more_definitions ds x.id (abs_of x.abs)) xs ∙ append_assoc (abs_depths ds) (abs_depth (abs_of x.abs) ∷ []) _
