-- Outlines of what vectors and boxes hold.
use Rattle.std.specs.Prelude.{List, [], ◌∷◌, Option, Some, None, Box}
use Rattle.std.specs.declared.alloc.Global.{Global}
use Rattle.pict_syntax.specs.declared.code.Code.TheVariants.{S3, S4}
use Rattle.pict_syntax.specs.declared.type_tree.TypeTree.{TypeTree}
use Rattle.pict_syntax.specs.declared.type_tree.TypeBinder.{TypeBinder}
use Rattle.pict_syntax.specs.declared.type_tree.LabelledType.{LabelledType}
use Rattle.pict_syntax.specs.declared.pattern.Pat.{Pat}
use Rattle.pict_syntax.specs.declared.pattern.LabelledPat.{LabelledPat}
use Rattle.pict_syntax.specs.declared.tree.Dec.{Dec}
use Rattle.pict_syntax.specs.declared.tree.Definition.{Definition}
use Rattle.pict_syntax.specs.declared.tree.Val.{Val}
use Rattle.pict_syntax.specs.declared.tree.LabelledVal.{LabelledVal}
use Rattle.pict_syntax.specs.declared.tree.Proc.{Proc}
use Rattle.pict_syntax.specs.declared.id.Id.{Id}
use Rattle.pict_syntax.specs.PlainTrees.{type_of, pat_of, dec_of, abs_of, val_of, proc_of}
use Rattle.pict_scope.specs.Outlines.{Outline, empty, ◌▸◌, binds_type, defines, once, pattern_type}
use Rattle.pict_scope.specs.Forms.{in_type, in_pat, in_dec, in_abs, in_val, in_proc}

-- one after the other
unfoldable pub each_on : {A : Type 0} → (A → Outline) → Outline → List A → Outline
each_on f o [] = o
each_on f o (x ∷ xs) = each_on f (o ▸ f x) xs

abbrev pub each : {A : Type 0} → (A → Outline) → List A → Outline
each f xs = each_on f empty xs

-- a type, where there is one
abbrev pub in_held : Option (Box TypeTree Global) → Outline
in_held None = empty
in_held (Some t) = in_type (type_of t.value)

-- the outlines of the items of vectors
abbrev pub in_type_tree : TypeTree → Outline
in_type_tree t = in_type (type_of t)

abbrev pub in_binder_tree : TypeBinder → Outline
in_binder_tree b = once S3 b.id ▸ binds_type b.id (in_held b.bound)

abbrev pub in_labelled_type : LabelledType → Outline
in_labelled_type l = once S4 l.label ▸ in_type (type_of l.of)

abbrev pub in_pattern_binder_tree : TypeBinder → Outline
in_pattern_binder_tree b = pattern_type b.id (in_held b.bound)

abbrev pub in_pat_tree : Pat → Outline
in_pat_tree p = in_pat (pat_of p)

abbrev pub in_labelled_pat : LabelledPat → Outline
in_labelled_pat l = once S4 l.label ▸ in_pat (pat_of l.pat)

abbrev pub in_parameter : Id → Outline
in_parameter x = once S3 x ▸ binds_type x empty

abbrev pub in_dec_tree : Dec → Outline
in_dec_tree d = in_dec (dec_of d)

abbrev pub in_definition : Definition → Outline
in_definition d = once S3 d.id ▸ (defines d.id ▸ in_abs (abs_of d.abs))

abbrev pub in_val_tree : Val → Outline
in_val_tree v = in_val (val_of v)

abbrev pub in_labelled_val : LabelledVal → Outline
in_labelled_val l = once S4 l.label ▸ in_val (val_of l.value)

abbrev pub in_proc_tree : Proc → Outline
in_proc_tree p = in_proc (proc_of p)
