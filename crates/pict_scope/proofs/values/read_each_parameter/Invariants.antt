-- The parameters so far are read.
use Rattle.std.proofs.Common.{take}
use Rattle.pict_scope.specs.Held.{each, in_parameter}
use Rattle.pict_scope.specs.Reads.{Reads}
use Rattle.pict_scope.proofs.values.read_each_parameter.Given as goal

abbrev pub invariant-loop-id : goal.invariant-loop-id
invariant-loop-id l = Reads (each in_parameter (take l.id-index l.ids)) l.fn.r l.r
