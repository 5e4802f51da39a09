use Rattle.std.proofs.Common.{◌≡◌, map, take}
use Rattle.pict_core.specs.Plain.{plain_core}
use Rattle.pict_core.specs.Step.{with_process}
use Rattle.pict_shared.specs.Plain.{plain_held}
use Rattle.pict_shared.proofs.held.with_process.Given as goal

abbrev pub invariant-loop-entry : goal.invariant-loop-entry
invariant-loop-entry l = map plain_held l.made.items ≡ map (with_process l.s (plain_core l.process.value.core)) (map plain_held (take l.entry-index l.entries))
