-- The type binders so far are read.
use Rattle.std.proofs.Common.{take}
use Rattle.pict_scope.specs.Held.{each, in_pattern_binder_tree}
use Rattle.pict_scope.specs.Reads.{Reads}
use Rattle.pict_scope.proofs.patterns.read_pattern_binders.Given as goal

abbrev pub invariant-loop-b : goal.invariant-loop-b
invariant-loop-b l = Reads (each in_pattern_binder_tree (take l.b-index l.bs)) l.fn.r l.r
