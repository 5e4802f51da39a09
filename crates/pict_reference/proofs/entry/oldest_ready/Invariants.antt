use Rattle.std.proofs.Common.{◌≡◌, map, drop}
use Rattle.pict_core.specs.Step.{least, is_ready}
use Rattle.pict_reference.specs.Plain.{plain_entry}
use Rattle.pict_reference.proofs.entry.oldest_ready.Given as goal

abbrev pub invariant-loop-entry : goal.invariant-loop-entry
invariant-loop-entry l = least is_ready (map plain_entry l.entries) ≡ least is_ready (map plain_entry (drop l.entry-index l.entries))
