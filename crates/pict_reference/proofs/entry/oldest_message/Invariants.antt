use Rattle.std.proofs.Common.{◌≡◌, map, drop}
use Rattle.pict_core.specs.Step.{least, is_parked_message}
use Rattle.pict_reference.specs.Plain.{plain_entry}
use Rattle.pict_reference.proofs.entry.oldest_message.Given as goal

abbrev pub invariant-loop-entry : goal.invariant-loop-entry
invariant-loop-entry l = least (is_parked_message l.c) (map plain_entry l.entries) ≡ least (is_parked_message l.c) (map plain_entry (drop l.entry-index l.entries))
