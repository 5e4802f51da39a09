-- All labels so far are written.
use Rattle.std.proofs.Common.{◌≡◌, take, true}
use Rattle.pict_syntax.specs.PlainTrees.{labelled_vals_on}
use Rattle.pict_syntax.specs.Trees.{no_labelled_vals}
use Rattle.pict_types.specs.Plain.{plain_labels}
use Rattle.pict_rules.specs.Shapes.{all_written}
use Rattle.pict_lines.proofs.counts.all_written.Given as goal

abbrev pub invariant-loop-label : goal.invariant-loop-label
invariant-loop-label l = all_written (plain_labels (take l.label-index l.fields)) (labelled_vals_on no_labelled_vals l.ls) ≡ true
