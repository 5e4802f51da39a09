use Rattle.std.proofs.Common.{map, take}
use Rattle.pict_core.specs.Plain.{plain_core}
use Rattle.pict_orders.specs.Plain.{configuration_of, place_of}
use Rattle.pict_way.proofs.Tracing.{TracedSoFar}
use Rattle.pict_way.proofs.file.write_trace.Given as goal

abbrev pub invariant-loop-index : goal.invariant-loop-index
invariant-loop-index l = TracedSoFar l.names (plain_core l.fn.process) (map place_of (take l.index l.choices)) (configuration_of l.state) l.fn.out.items l.out.items
