use Rattle.pict_heap.specs.HeapState.{IsWord}
use Rattle.pict_machine_tests.proofs.lines.nested.Given as goal

abbrev pub invariant-loop : goal.invariant-loop
invariant-loop l = record { word : IsWord l.heap l.value }
