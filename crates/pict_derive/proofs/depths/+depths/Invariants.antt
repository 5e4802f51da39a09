-- What the loops over lists of trees keep: the depth of the whole is that of what is left, with what is behind it.
use Rattle.std.proofs.Common.{◌≡◌, ◌+◌, [], ◌∷◌, ◌++◌, take}
use Rattle.pict_syntax.specs.Trees.{no_vals, no_labelled_vals, no_decs, no_procs, no_definitions}
use Rattle.pict_syntax.specs.PlainTrees.{vals_on, labelled_vals_on, decs_on, procs_on, definitions_on}
use Rattle.pict_translation.specs.Depth.{withs_depth, labelled_depth, decs_depth, served_depth, abs_depths, side_depth, proc_depths, right_depth, left_depth, depths}
use Rattle.pict_derive.specs.Held.{held, held_option}
use Rattle.pict_derive.proofs.depths.+depths.Given as goal

abbrev pub invariant-values-loop-tree : goal.invariant-values-loop-tree
invariant-values-loop-tree l = held_option (withs_depth (vals_on no_vals l.fn.trees) l.fn.inner) ≡ held_option (withs_depth (vals_on no_vals l.tree-iterator.iter.rest.now) l.inner)

abbrev pub invariant-labelled-loop-tree : goal.invariant-labelled-loop-tree
invariant-labelled-loop-tree l = held_option (labelled_depth (labelled_vals_on no_labelled_vals l.fn.trees) l.fn.inner) ≡ held_option (labelled_depth (labelled_vals_on no_labelled_vals l.tree-iterator.iter.rest.now) l.inner)

abbrev pub invariant-decs-loop-tree : goal.invariant-decs-loop-tree
invariant-decs-loop-tree l = held (decs_depth (decs_on no_decs l.fn.trees) l.fn.inner) ≡ held (decs_depth (decs_on no_decs l.tree-iterator.iter.rest.now) l.inner)

abbrev pub invariant-definitions-loop-part : goal.invariant-definitions-loop-part
invariant-definitions-loop-part l = held (served_depth (abs_depths (definitions_on no_definitions l.fn.parts)) l.fn.rest) ≡ held (served_depth (abs_depths (definitions_on no_definitions l.part-iterator.iter.rest.now)) l.inner)

abbrev pub invariant-right-loop-tree : goal.invariant-right-loop-tree
invariant-right-loop-tree l = held_option (right_depth (depths (vals_on no_vals l.fn.trees))) ≡ held_option (right_depth (depths (vals_on no_vals l.tree-iterator.iter.rest.now) ++ l.inner ∷ []))

abbrev pub invariant-side_by_side-loop-tree : goal.invariant-side_by_side-loop-tree
invariant-side_by_side-loop-tree l = held (side_depth (proc_depths (procs_on no_procs l.fn.trees))) ≡ held (side_depth (proc_depths (procs_on no_procs l.tree-iterator.iter.rest.now) ++ l.inner ∷ []))

abbrev pub invariant-left-loop-tree : goal.invariant-left-loop-tree
invariant-left-loop-tree l = held_option l.head ≡ held_option (left_depth (depths (vals_on no_vals (take (l.tree-index + 1) l.trees))))
