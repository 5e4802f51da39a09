use Rattle.std.proofs.Common.{◌≡◌, ◌++◌, [], length}
use Rattle.pict_core.specs.Plain.{plain_val}
use Rattle.pict_show.specs.Values.{value_text}
use Rattle.pict_show.specs.Pending.{pending}
use Rattle.pict_show.proofs.value.write_value.Given as goal

abbrev pub invariant-loop-piece : goal.invariant-loop-piece
invariant-loop-piece l = l.out.items ++ pending l.names l.pieces.items [] ≡ l.initial.out.items ++ value_text l.names (plain_val l.value)

abbrev pub decreases-loop-piece : goal.decreases-loop-piece
decreases-loop-piece l = length (pending l.names l.pieces.items [])
