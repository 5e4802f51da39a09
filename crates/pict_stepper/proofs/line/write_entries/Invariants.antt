use Rattle.std.proofs.Common.{◌≡◌, ◌++◌, map, take}
use Rattle.pict_reference.specs.Plain.{plain_entry}
use Rattle.pict_stepper.specs.Lines.{come_lines}
use Rattle.pict_stepper.proofs.line.write_entries.Given as goal

abbrev pub invariant-loop-entry : goal.invariant-loop-entry
invariant-loop-entry l = l.out.items ≡ l.fn.out.items ++ come_lines l.names l.sources.list.items (map plain_entry (take l.entry-index l.entries))
