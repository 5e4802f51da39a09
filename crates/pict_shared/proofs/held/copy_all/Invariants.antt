use Rattle.std.proofs.Common.{◌≡◌, map, take}
use Rattle.pict_shared.specs.Plain.{plain_held}
use Rattle.pict_shared.proofs.held.copy_all.Given as goal

abbrev pub invariant-loop-entry : goal.invariant-loop-entry
invariant-loop-entry l = map plain_held l.made.items ≡ map plain_held (take l.entry-index l.entries)
