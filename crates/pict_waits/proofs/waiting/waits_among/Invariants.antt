use Rattle.std.proofs.Common.{◌≡◌, map, take}
use Rattle.pict_reference.specs.Plain.{plain_entry}
use Rattle.pict_waits.specs.Waiting.{waits_of}
use Rattle.pict_waits.proofs.waiting.waits_among.Given as goal

abbrev pub invariant-loop-entry : goal.invariant-loop-entry
invariant-loop-entry l = l.waits.items ≡ waits_of (map plain_entry (take l.entry-index l.entries))
