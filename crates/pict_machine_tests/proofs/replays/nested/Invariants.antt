use Rattle.pict_core.specs.Closed.{IsOver}
use Rattle.pict_core.specs.Plain.{plain_val}
use Rattle.pict_machine_tests.proofs.replays.nested.Given as goal

abbrev pub invariant-loop : goal.invariant-loop
invariant-loop l = record { over : IsOver 1 0 (plain_val l.value) }
