use Rattle.std.proofs.Common.{◌≡◌, map, filter, take}
use Rattle.pict_core.specs.Configuration as plain
use Rattle.pict_reference.specs.Plain.{plain_entry}
use Rattle.pict_stepper.specs.Touched.{is_touched}
use Rattle.pict_stepper.proofs.run.touched.Given as goal

abbrev pub invariant-loop-entry : goal.invariant-loop-entry
invariant-loop-entry l =
    map plain_entry l.come.items ≡ filter (λ (e : plain.Entry). is_touched l.from l.actor l.partner e.stamp) (map plain_entry (take l.entry-index l.entries))
