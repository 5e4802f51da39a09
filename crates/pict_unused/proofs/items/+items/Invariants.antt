-- The items so far are those of the trees so far.
use Rattle.std.proofs.Common.{◌≡◌, take}
use Rattle.pict_syntax.specs.Trees.{no_decs, no_definitions, no_vals, no_labelled_vals, no_procs}
use Rattle.pict_syntax.specs.PlainTrees.{decs_on, definitions_on, vals_on, labelled_vals_on, procs_on}
use Rattle.pict_unused.specs.Items.{then_decs, then_definitions, then_vals, then_labelled_vals, then_procs}
use Rattle.pict_unused.proofs.items.+items.Given as goal

abbrev pub invariant-declarations-loop-d : goal.invariant-declarations-loop-d
invariant-declarations-loop-d l = l.out.items ≡ then_decs l.fn.out.items (decs_on no_decs (take l.d-index l.ds))

abbrev pub invariant-definitions-loop-d : goal.invariant-definitions-loop-d
invariant-definitions-loop-d l = l.out.items ≡ then_definitions l.fn.out.items (definitions_on no_definitions (take l.d-index l.ds))

abbrev pub invariant-values-loop-v : goal.invariant-values-loop-v
invariant-values-loop-v l = l.out.items ≡ then_vals l.fn.out.items (vals_on no_vals (take l.v-index l.vs))

abbrev pub invariant-labelled_values-loop-l : goal.invariant-labelled_values-loop-l
invariant-labelled_values-loop-l l = l.out.items ≡ then_labelled_vals l.fn.out.items (labelled_vals_on no_labelled_vals (take l.l-index l.ls))

abbrev pub invariant-processes-loop-p : goal.invariant-processes-loop-p
invariant-processes-loop-p l = l.out.items ≡ then_procs l.fn.out.items (procs_on no_procs (take l.p-index l.ps))
