-- The labels so far.
use Rattle.std.proofs.Common.{take}
use Rattle.pict_syntax.specs.PlainTrees.{labelled_vals_on}
use Rattle.pict_syntax.specs.Trees.{no_labelled_vals}
use Rattle.pict_lines.specs.Counts.{HasLabels}
use Rattle.pict_lines.proofs.counts.labels_of.Given as goal

abbrev pub invariant-loop-l : goal.invariant-loop-l
invariant-loop-l l = HasLabels l.written (labelled_vals_on no_labelled_vals (take l.l-index l.ls))
