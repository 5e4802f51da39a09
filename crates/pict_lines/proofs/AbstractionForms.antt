-- The plain trees of abstractions, form by form.
use Rattle.std.proofs.Common.{◌≡◌, sym, ◌∙◌, ap, Some, Box, Global}
use Rattle.pict_syntax.specs.declared.span.Span.{Span}
use Rattle.pict_syntax.specs.declared.type_tree.RType.{RType as RRType}
use Rattle.pict_syntax.specs.declared.type_tree.TypeTree.{TypeTree as RTypeTree}
use Rattle.pict_syntax.specs.declared.pattern.FieldPats.{FieldPats as RFieldPats}
use Rattle.pict_syntax.specs.declared.pattern.Pat.{Pat as RPat}
use Rattle.pict_syntax.specs.declared.tree.Abs.{Abs as RAbs, Process, Function}
use Rattle.pict_syntax.specs.declared.tree.Proc.{Proc as RProc}
use Rattle.pict_syntax.specs.declared.tree.Val.{Val as RVal}
use Rattle.pict_syntax.specs.Trees.{RType, process_abs, function_abs}
use Rattle.pict_types.proofs.Congruent.{three}
use Rattle.pict_lines.specs.Definitions.{function_tree}
use Rattle.pict_syntax.specs.PlainTrees.{abs_of, annotation_of, dec_of, field_pats_of, held_annotation, pat_of, proc_of, type_of, val_of}

pub process_form : (a : RAbs) (s : Span) (p : RPat) (q : Box RProc Global) → a ≡ Process s p q → abs_of a ≡ process_abs s (pat_of p) (proc_of q.value)
unfolding dec_of
process_form a s p q is = ap abs_of is

pub function_form : (a : RAbs) (s : Span) (f : Box RFieldPats Global) (r : RRType) (v : Box RVal Global) → a ≡ Function s f r v → abs_of a ≡ function_abs s (field_pats_of f.value) (annotation_of r) (val_of v.value)
unfolding dec_of
function_form a s f r v is = ap abs_of is

-- a function by parts that are read from its boxes
pub function_read : (a : RAbs) (s : Span) (f : Box RFieldPats Global) (r : RRType) (v : Box RVal Global) (g : RFieldPats) (o : RType) (w : RVal) → a ≡ Function s f r v → annotation_of r ≡ o → g ≡ f.value → w ≡ v.value → abs_of a ≡ function_tree s g o w
function_read a s f r v g o w is k h i = function_form a s f r v is ∙ three (function_tree s) (sym h) k (sym i)

pub annotation_read : (r : RRType) (t : Box RTypeTree Global) (u : RTypeTree) → r.of ≡ Some t → u ≡ t.value → annotation_of r ≡ Some (type_of u)
annotation_read r t u is h = ap held_annotation is ∙ ap (λ (z : RTypeTree). Some (type_of z)) (sym h)
