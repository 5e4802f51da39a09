-- The plain trees of values, channels, abstractions, declarations and processes, form by form.
use Rattle.std.proofs.Common.{◌≡◌, ℕ, ℤ, List, ap, ◌∙◌, Box, Global}
use Rattle.std.specs.Prelude.{Vec}
use Rattle.pict_syntax.specs.declared.span.Span.{Span}
use Rattle.pict_syntax.specs.declared.id.Id.{Id}
use Rattle.pict_syntax.specs.declared.name.Name.{Name}
use Rattle.pict_syntax.specs.declared.type_tree.RType.{RType as RRType}
use Rattle.pict_syntax.specs.declared.tree.Abs.{Abs as RAbs}
use Rattle.pict_syntax.specs.declared.tree.Chan.{Chan as RChan, Use, Fold, Block, Apply, Right, Left}
use Rattle.pict_syntax.specs.declared.tree.Val.{Val as RVal, OfChan, Number, Character, String, True, False, Fields, If, Lambda}
use Rattle.pict_syntax.specs.declared.tree.Dec.{Dec as RDec}
use Rattle.pict_syntax.specs.declared.tree.FieldVals.{FieldVals as RFieldVals}
use Rattle.pict_syntax.specs.Trees.{no_vals, no_decs, of_chan, number_val, character_val, string_val, true_val, false_val, fields_val, if_val, lambda_val, use_chan, fold_chan, block_chan, apply_chan, right_chan, left_chan}
use Rattle.pict_syntax.specs.PlainTrees.{field_vals_of, abs_of, chan_of, val_of, annotation_of, vals_on, decs_on}
use Rattle.pict_syntax.proofs.ValueLists.{block_is, right_is, left_is}

-- values
pub channel_val : (v : RVal) (c : RChan) → v ≡ OfChan c → val_of v ≡ of_chan (chan_of c)
unfolding val_of
channel_val v c is = ap val_of is

pub number_form : (v : RVal) (s : Span) (n : ℤ) → v ≡ Number s n → val_of v ≡ number_val s n
unfolding val_of
number_form v s n is = ap val_of is

pub character_form : (v : RVal) (s : Span) (b : ℕ) → v ≡ Character s b → val_of v ≡ character_val s b
unfolding val_of
character_form v s b is = ap val_of is

pub string_form : (v : RVal) (s : Span) (b : List ℕ) → v ≡ String s b → val_of v ≡ string_val s b
unfolding val_of
string_form v s b is = ap val_of is

pub true_form : (v : RVal) (s : Span) → v ≡ True s → val_of v ≡ true_val s
unfolding val_of
true_form v s is = ap val_of is

pub false_form : (v : RVal) (s : Span) → v ≡ False s → val_of v ≡ false_val s
unfolding val_of
false_form v s is = ap val_of is

pub fields_form : (v : RVal) (s : Span) (f : Box RFieldVals Global) → v ≡ Fields s f → val_of v ≡ fields_val s (field_vals_of f.value)
unfolding val_of
fields_form v s f is = ap val_of is

pub if_form : (v : RVal) (s : Span) (a y n : Box RVal Global) → v ≡ If s a y n → val_of v ≡ if_val s (val_of a.value) (val_of y.value) (val_of n.value)
unfolding val_of
if_form v s a y n is = ap val_of is

pub lambda_form : (v : RVal) (s : Span) (a : Box RAbs Global) → v ≡ Lambda s a → val_of v ≡ lambda_val s (abs_of a.value)
unfolding val_of
lambda_form v s a is = ap val_of is

-- channels
pub use_form : (c : RChan) (s : Span) (n : Name) → c ≡ Use s n → chan_of c ≡ use_chan s n
unfolding val_of
use_form c s n is = ap chan_of is

pub fold_form : (c : RChan) (s : Span) (r : RRType) (v : Box RVal Global) → c ≡ Fold s r v → chan_of c ≡ fold_chan s (annotation_of r) (val_of v.value)
unfolding val_of
fold_form c s r v is = ap chan_of is

pub block_form : (c : RChan) (s : Span) (ds : Vec RDec Global) (v : Box RVal Global) → c ≡ Block s ds v → chan_of c ≡ block_chan s (decs_on no_decs ds.items) (val_of v.value)
block_form c s ds v is = ap chan_of is ∙ block_is s ds v

pub apply_form : (c : RChan) (s : Span) (v : Box RVal Global) (f : Box RFieldVals Global) → c ≡ Apply s v f → chan_of c ≡ apply_chan s (val_of v.value) (field_vals_of f.value)
unfolding val_of
apply_form c s v f is = ap chan_of is

pub right_form : (c : RChan) (s : Span) (i : Id) (vs : Vec RVal Global) → c ≡ Right s i vs → chan_of c ≡ right_chan s i (vals_on no_vals vs.items)
right_form c s i vs is = ap chan_of is ∙ right_is s i vs

pub left_form : (c : RChan) (s : Span) (i : Id) (vs : Vec RVal Global) → c ≡ Left s i vs → chan_of c ≡ left_chan s i (vals_on no_vals vs.items)
left_form c s i vs is = ap chan_of is ∙ left_is s i vs
