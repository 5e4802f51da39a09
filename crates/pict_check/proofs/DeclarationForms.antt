-- The plain trees of declarations and processes, form by form, from the parts that the code reads.
use Rattle.std.proofs.Common.{◌≡◌, List, sym, ap, ap₂, ◌∙◌, Box, Global}
use Rattle.std.specs.Prelude.{Vec}
use Rattle.pict_syntax.specs.declared.span.Span.{Span}
use Rattle.pict_syntax.specs.declared.id.Id.{Id}
use Rattle.pict_syntax.specs.declared.type_tree.TypeTree.{TypeTree as RTypeTree}
use Rattle.pict_syntax.specs.declared.pattern.Pat.{Pat as RPat}
use Rattle.pict_syntax.specs.declared.tree.Abs.{Abs as RAbs}
use Rattle.pict_syntax.specs.declared.tree.Chan.{Chan as RChan}
use Rattle.pict_syntax.specs.declared.tree.Val.{Val as RVal}
use Rattle.pict_syntax.specs.declared.tree.Definition.{Definition as RDefinition}
use Rattle.pict_syntax.specs.declared.tree.Dec.{Dec as RDec, New, Run, Let, Def, Alias, Operator, Await}
use Rattle.pict_syntax.specs.declared.tree.Proc.{Proc as RProc, Send, Receive, Serve, If, Inert, Group}
use Rattle.pict_syntax.specs.Trees.{no_decs, no_definitions, no_procs, new_dec, run_dec, let_dec, def_dec, alias_dec, operator_dec, await_dec, send_proc, receive_proc, serve_proc, if_proc, inert_proc, group_proc}
use Rattle.pict_syntax.specs.PlainTrees.{abs_of, chan_of, dec_of, decs_on, definitions_on, pat_of, proc_of, procs_on, type_of, val_of}
use Rattle.pict_syntax.proofs.ValueLists.{def_is, group_is}
use Rattle.pict_types.proofs.Congruent.{three}

-- declarations
new_form : (d : RDec) (s : Span) (x : Id) (t : Box RTypeTree Global) → d ≡ New s x t → dec_of d ≡ new_dec s x (type_of t.value)
unfolding dec_of
new_form d s x t is = ap dec_of is

run_form : (d : RDec) (s : Span) (p : Box RProc Global) → d ≡ Run s p → dec_of d ≡ run_dec s (proc_of p.value)
unfolding dec_of
run_form d s p is = ap dec_of is

pub let_form : (d : RDec) (s : Span) (p : RPat) (v : Box RVal Global) → d ≡ Let s p v → dec_of d ≡ let_dec s (pat_of p) (val_of v.value)
unfolding dec_of
let_form d s p v is = ap dec_of is

def_form : (d : RDec) (s : Span) (ds : Vec RDefinition Global) → d ≡ Def s ds → dec_of d ≡ def_dec s (definitions_on no_definitions ds.items)
def_form d s ds is = ap dec_of is ∙ def_is s ds

alias_form : (d : RDec) (s : Span) (x : Id) (t : Box RTypeTree Global) → d ≡ Alias s x t → dec_of d ≡ alias_dec s x (type_of t.value)
unfolding dec_of
alias_form d s x t is = ap dec_of is

operator_form : (d : RDec) (s : Span) (x : Id) (xs : Vec Id Global) (t : Box RTypeTree Global) → d ≡ Operator s x xs t → dec_of d ≡ operator_dec s x xs.items (type_of t.value)
unfolding dec_of
operator_form d s x xs t is = ap dec_of is

await_form : (d : RDec) (s : Span) (v : Box RVal Global) → d ≡ Await s v → dec_of d ≡ await_dec s (val_of v.value)
unfolding dec_of
await_form d s v is = ap dec_of is

pub new_read : (d : RDec) (s : Span) (x : Id) (t : Box RTypeTree Global) (u : RTypeTree) → d ≡ New s x t → u ≡ t.value → dec_of d ≡ new_dec s x (type_of u)
new_read d s x t u is h = new_form d s x t is ∙ ap (λ (z : RTypeTree). new_dec s x (type_of z)) (sym h)

pub run_read : (d : RDec) (s : Span) (p : Box RProc Global) (q : RProc) → d ≡ Run s p → q ≡ p.value → dec_of d ≡ run_dec s (proc_of q)
run_read d s p q is h = run_form d s p is ∙ ap (λ (z : RProc). run_dec s (proc_of z)) (sym h)

pub let_read : (d : RDec) (s : Span) (p : RPat) (v : Box RVal Global) (w : RVal) → d ≡ Let s p v → w ≡ v.value → dec_of d ≡ let_dec s (pat_of p) (val_of w)
let_read d s p v w is h = let_form d s p v is ∙ ap (λ (z : RVal). let_dec s (pat_of p) (val_of z)) (sym h)

pub def_read : (d : RDec) (s : Span) (ds : Vec RDefinition Global) (xs : List RDefinition) → d ≡ Def s ds → xs ≡ ds.items → dec_of d ≡ def_dec s (definitions_on no_definitions xs)
def_read d s ds xs is h = def_form d s ds is ∙ ap (λ z. def_dec s (definitions_on no_definitions z)) (sym h)

pub alias_read : (d : RDec) (s : Span) (x : Id) (t : Box RTypeTree Global) (u : RTypeTree) → d ≡ Alias s x t → u ≡ t.value → dec_of d ≡ alias_dec s x (type_of u)
alias_read d s x t u is h = alias_form d s x t is ∙ ap (λ (z : RTypeTree). alias_dec s x (type_of z)) (sym h)

pub operator_read : (d : RDec) (s : Span) (x : Id) (xs : Vec Id Global) (t : Box RTypeTree Global) (ys : List Id) (u : RTypeTree) → d ≡ Operator s x xs t → ys ≡ xs.items → u ≡ t.value → dec_of d ≡ operator_dec s x ys (type_of u)
operator_read d s x xs t ys u is h k = operator_form d s x xs t is ∙ ap₂ (λ (zs : List Id) (z : RTypeTree). operator_dec s x zs (type_of z)) (sym h) (sym k)

pub await_read : (d : RDec) (s : Span) (v : Box RVal Global) (w : RVal) → d ≡ Await s v → w ≡ v.value → dec_of d ≡ await_dec s (val_of w)
await_read d s v w is h = await_form d s v is ∙ ap (λ (z : RVal). await_dec s (val_of z)) (sym h)

-- processes
send_form : (p : RProc) (s : Span) (c : Box RChan Global) (v : Box RVal Global) → p ≡ Send s c v → proc_of p ≡ send_proc s (chan_of c.value) (val_of v.value)
unfolding dec_of
send_form p s c v is = ap proc_of is

receive_form : (p : RProc) (s : Span) (c : Box RChan Global) (a : Box RAbs Global) → p ≡ Receive s c a → proc_of p ≡ receive_proc s (chan_of c.value) (abs_of a.value)
unfolding dec_of
receive_form p s c a is = ap proc_of is

serve_form : (p : RProc) (s : Span) (c : Box RChan Global) (a : Box RAbs Global) → p ≡ Serve s c a → proc_of p ≡ serve_proc s (chan_of c.value) (abs_of a.value)
unfolding dec_of
serve_form p s c a is = ap proc_of is

if_proc_form : (p : RProc) (s : Span) (c : Box RVal Global) (y n : Box RProc Global) → p ≡ If s c y n → proc_of p ≡ if_proc s (val_of c.value) (proc_of y.value) (proc_of n.value)
unfolding dec_of
if_proc_form p s c y n is = ap proc_of is

pub inert_form : (p : RProc) (s : Span) → p ≡ Inert s → proc_of p ≡ inert_proc s
unfolding dec_of
inert_form p s is = ap proc_of is

group_form : (p : RProc) (s : Span) (ds : Vec RDec Global) (ps : Vec RProc Global) → p ≡ Group s ds ps → proc_of p ≡ group_proc s (decs_on no_decs ds.items) (procs_on no_procs ps.items)
group_form p s ds ps is = ap proc_of is ∙ group_is s ds ps

pub send_read : (p : RProc) (s : Span) (c : Box RChan Global) (v : Box RVal Global) (d : RChan) (w : RVal) → p ≡ Send s c v → d ≡ c.value → w ≡ v.value → proc_of p ≡ send_proc s (chan_of d) (val_of w)
send_read p s c v d w is h k = send_form p s c v is ∙ ap₂ (λ (x : RChan) (y : RVal). send_proc s (chan_of x) (val_of y)) (sym h) (sym k)

pub receive_read : (p : RProc) (s : Span) (c : Box RChan Global) (a : Box RAbs Global) (d : RChan) (b : RAbs) → p ≡ Receive s c a → d ≡ c.value → b ≡ a.value → proc_of p ≡ receive_proc s (chan_of d) (abs_of b)
receive_read p s c a d b is h k = receive_form p s c a is ∙ ap₂ (λ (x : RChan) (y : RAbs). receive_proc s (chan_of x) (abs_of y)) (sym h) (sym k)

pub serve_read : (p : RProc) (s : Span) (c : Box RChan Global) (a : Box RAbs Global) (d : RChan) (b : RAbs) → p ≡ Serve s c a → d ≡ c.value → b ≡ a.value → proc_of p ≡ serve_proc s (chan_of d) (abs_of b)
serve_read p s c a d b is h k = serve_form p s c a is ∙ ap₂ (λ (x : RChan) (y : RAbs). serve_proc s (chan_of x) (abs_of y)) (sym h) (sym k)

pub if_proc_read : (p : RProc) (s : Span) (c : Box RVal Global) (y n : Box RProc Global) (v : RVal) (q r : RProc) → p ≡ If s c y n → v ≡ c.value → q ≡ y.value → r ≡ n.value → proc_of p ≡ if_proc s (val_of v) (proc_of q) (proc_of r)
if_proc_read p s c y n v q r is h k l = if_proc_form p s c y n is ∙ three (λ (a : RVal) (b d : RProc). if_proc s (val_of a) (proc_of b) (proc_of d)) (sym h) (sym k) (sym l)

pub group_read : (p : RProc) (s : Span) (ds : Vec RDec Global) (ps : Vec RProc Global) (xs : List RDec) (ys : List RProc) → p ≡ Group s ds ps → xs ≡ ds.items → ys ≡ ps.items → proc_of p ≡ group_proc s (decs_on no_decs xs) (procs_on no_procs ys)
group_read p s ds ps xs ys is h k = group_form p s ds ps is ∙ ap₂ (λ us vs. group_proc s (decs_on no_decs us) (procs_on no_procs vs)) (sym h) (sym k)
