-- The items so far are read.
use Rattle.std.proofs.Common.{take}
use Rattle.pict_scope.specs.Held.{each, in_binder_tree, in_labelled_type, in_type_tree}
use Rattle.pict_scope.specs.Reads.{Reads}
use Rattle.pict_scope.proofs.types.+types.Given as goal

abbrev pub invariant-read_binders-loop-b : goal.invariant-read_binders-loop-b
invariant-read_binders-loop-b l = Reads (each in_binder_tree (take l.b-index l.bs)) l.fn.r l.r

abbrev pub invariant-read_labelled_types-loop-l : goal.invariant-read_labelled_types-loop-l
invariant-read_labelled_types-loop-l l = Reads (each in_labelled_type (take l.l-index l.ls)) l.fn.r l.r

abbrev pub invariant-read_types-loop-t : goal.invariant-read_types-loop-t
invariant-read_types-loop-t l = Reads (each in_type_tree (take l.t-index l.ts)) l.fn.r l.r
