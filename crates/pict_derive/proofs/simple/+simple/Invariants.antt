use Rattle.std.proofs.Common.{◌≡◌, Some, map, take}
use Rattle.pict_syntax.specs.Trees.{no_vals, no_labelled_vals}
use Rattle.pict_syntax.specs.PlainTrees.{vals_on, labelled_vals_on}
use Rattle.pict_core.specs.Plain.{plain_val}
use Rattle.pict_translation.specs.Simple.{simple_vals, simple_labelled}
use Rattle.pict_derive.specs.Built.{field_of, place}
use Rattle.pict_derive.proofs.simple.+simple.Given as goal

-- those so far are simple, and these are their core values
abbrev pub invariant-simple_values-loop-tree : goal.invariant-simple_values-loop-tree
invariant-simple_values-loop-tree l = simple_vals (place l.names l.scope) (vals_on no_vals (take l.tree-index l.trees)) ≡ Some (map plain_val l.values.items)

abbrev pub invariant-simple_labelled-loop-tree : goal.invariant-simple_labelled-loop-tree
invariant-simple_labelled-loop-tree l = simple_labelled (place l.names l.scope) (labelled_vals_on no_labelled_vals (take l.tree-index l.trees)) ≡ Some (map field_of l.fields.items)
