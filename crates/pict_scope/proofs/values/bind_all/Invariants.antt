-- The names so far are bound.
use Rattle.std.proofs.Common.{map, take}
use Rattle.pict_scope.specs.Outlines.{binds_all}
use Rattle.pict_scope.specs.Reads.{Reads}
use Rattle.pict_scope.proofs.values.bind_all.Given as goal

abbrev pub invariant-loop-d : goal.invariant-loop-d
invariant-loop-d l = Reads (binds_all (map (λ d. d.id) (take l.d-index l.ds))) l.fn.r l.r
