use Rattle.std.proofs.Common.{ℕ, ◌≡◌, List, map, take}
use Rattle.pict_shared.specs.Plain.{plain_held}
use Rattle.pict_shared.specs.Alike.{renamed_processes}
use Rattle.pict_shared.specs.Taking.{renamed_core}
use Rattle.pict_shared.proofs.alike.shared.Given as goal

abbrev pub invariant-loop-entry : goal.invariant-loop-entry
invariant-loop-entry l = (names : List ℕ) → map (renamed_core names) l.made.items ≡ renamed_processes names (map plain_held (take l.entry-index l.entries))
