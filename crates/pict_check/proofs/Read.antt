-- Values and channels, from the parts that the code reads.
use Rattle.std.proofs.Common.{◌≡◌, List, sym, ◌∙◌, ap, ap₂, Box, Global}
use Rattle.std.specs.Prelude.{Vec}
use Rattle.pict_syntax.specs.declared.span.Span.{Span}
use Rattle.pict_syntax.specs.declared.id.Id.{Id}
use Rattle.pict_syntax.specs.declared.type_tree.RType.{RType as RRType}
use Rattle.pict_syntax.specs.declared.type_tree.TypeTree.{TypeTree as RTypeTree}
use Rattle.pict_syntax.specs.declared.tree.Abs.{Abs as RAbs}
use Rattle.pict_syntax.specs.declared.tree.Abs.TheViews.{out-FieldVals}
use Rattle.pict_syntax.specs.declared.tree.Chan.{Chan as RChan, Fold, Block, Apply, Right, Left}
use Rattle.pict_syntax.specs.declared.tree.Val.{Val as RVal, Fields, If, Lambda}
use Rattle.pict_syntax.specs.declared.tree.Dec.{Dec as RDec}
use Rattle.pict_syntax.specs.declared.tree.FieldVals.{FieldVals as RFieldVals}
use Rattle.pict_syntax.specs.declared.tree.LabelledVal.{LabelledVal as RLabelledVal}
use Rattle.pict_syntax.specs.Trees.{Chan, no_types, no_vals, no_labelled_vals, no_decs, of_chan, fields_val, field_vals, if_val, lambda_val, fold_chan, block_chan, apply_chan, right_chan, left_chan}
use Rattle.pict_syntax.specs.PlainTrees.{field_vals_of, abs_of, chan_of, val_of, annotation_of, types_on, vals_on, labelled_vals_on, decs_on}
use Rattle.pict_types.proofs.Congruent.{three}
use Rattle.pict_check.proofs.Forms.{apply_form, block_form, fields_form, fold_form, if_form, lambda_form, left_form, right_form}
use Rattle.pict_scope.proofs.ValueForms.{field_vals_are}

-- values
pub fields_read : (v : RVal) (s : Span) (f : Box RFieldVals Global) (g : RFieldVals) → v ≡ Fields s f → g ≡ f.value → val_of v ≡ fields_val s (field_vals_of g)
fields_read v s f g is h = fields_form v s f is ∙ ap (λ (x : RFieldVals). fields_val s (field_vals_of x)) (sym h)

pub if_read : (v : RVal) (s : Span) (a y n : Box RVal Global) (p q r : RVal) → v ≡ If s a y n → p ≡ a.value → q ≡ y.value → r ≡ n.value → val_of v ≡ if_val s (val_of p) (val_of q) (val_of r)
if_read v s a y n p q r is h k l = if_form v s a y n is ∙ three (λ (x y z : RVal). if_val s (val_of x) (val_of y) (val_of z)) (sym h) (sym k) (sym l)

pub lambda_read : (v : RVal) (s : Span) (a : Box RAbs Global) (b : RAbs) → v ≡ Lambda s a → b ≡ a.value → val_of v ≡ lambda_val s (abs_of b)
lambda_read v s a b is h = lambda_form v s a is ∙ ap (λ (x : RAbs). lambda_val s (abs_of x)) (sym h)

-- channels, and values that stand as channels
pub of_channel : {a b : Chan} → a ≡ b → of_chan a ≡ of_chan b
of_channel h = ap of_chan h

pub fold_read : (c : RChan) (s : Span) (r : RRType) (v : Box RVal Global) (w : RVal) → c ≡ Fold s r v → w ≡ v.value → chan_of c ≡ fold_chan s (annotation_of r) (val_of w)
fold_read c s r v w is h = fold_form c s r v is ∙ ap (λ (x : RVal). fold_chan s (annotation_of r) (val_of x)) (sym h)

pub block_read : (c : RChan) (s : Span) (ds : Vec RDec Global) (v : Box RVal Global) (xs : List RDec) (w : RVal) → c ≡ Block s ds v → xs ≡ ds.items → w ≡ v.value → chan_of c ≡ block_chan s (decs_on no_decs xs) (val_of w)
block_read c s ds v xs w is h k = block_form c s ds v is ∙ ap₂ (λ (ys : List RDec) (x : RVal). block_chan s (decs_on no_decs ys) (val_of x)) (sym h) (sym k)

pub apply_read : (c : RChan) (s : Span) (v : Box RVal Global) (f : Box RFieldVals Global) (w : RVal) (g : RFieldVals) → c ≡ Apply s v f → w ≡ v.value → g ≡ f.value → chan_of c ≡ apply_chan s (val_of w) (field_vals_of g)
apply_read c s v f w g is h k = apply_form c s v f is ∙ ap₂ (λ (x : RVal) (y : RFieldVals). apply_chan s (val_of x) (field_vals_of y)) (sym h) (sym k)

pub right_read : (c : RChan) (s : Span) (i : Id) (vs : Vec RVal Global) (xs : List RVal) → c ≡ Right s i vs → xs ≡ vs.items → chan_of c ≡ right_chan s i (vals_on no_vals xs)
right_read c s i vs xs is h = right_form c s i vs is ∙ ap (λ ys. right_chan s i (vals_on no_vals ys)) (sym h)

pub left_read : (c : RChan) (s : Span) (i : Id) (vs : Vec RVal Global) (xs : List RVal) → c ≡ Left s i vs → xs ≡ vs.items → chan_of c ≡ left_chan s i (vals_on no_vals xs)
left_read c s i vs xs is h = left_form c s i vs is ∙ ap (λ ys. left_chan s i (vals_on no_vals ys)) (sym h)

pub parts_read : (f : RFieldVals) (xs : List RTypeTree) (ys : List RVal) (zs : List RLabelledVal) → xs ≡ (out-FieldVals f).type_arguments.items → ys ≡ (out-FieldVals f).positional.items → zs ≡ (out-FieldVals f).labelled.items
    → field_vals_of f ≡ field_vals (types_on no_types xs) (vals_on no_vals ys) (labelled_vals_on no_labelled_vals zs)
parts_read f xs ys zs p q r =
    field_vals_are f ∙ three (λ (us : List RTypeTree) (vs : List RVal) (ws : List RLabelledVal). field_vals (types_on no_types us) (vals_on no_vals vs) (labelled_vals_on no_labelled_vals ws)) (sym p) (sym q) (sym r)
