use Rattle.std.proofs.Common.{◌≡◌, map, take}
use Rattle.pict_core.specs.Plain.{plain_core}
use Rattle.pict_core.specs.Step.{with_process}
use Rattle.pict_reference.specs.Plain.{plain_entry}
use Rattle.pict_reference.proofs.entry.with_process.Given as goal

abbrev pub invariant-loop-entry : goal.invariant-loop-entry
invariant-loop-entry l = map plain_entry l.made.items ≡ map (with_process l.s (plain_core l.process)) (map plain_entry (take l.entry-index l.entries))
