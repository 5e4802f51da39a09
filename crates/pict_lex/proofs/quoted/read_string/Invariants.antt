use Rattle.std.proofs.Common.{length, ◌-◌, ◌≤◌}
use Rattle.pict_lex.proofs.QuotedLemmas.{HasItems}
use Rattle.pict_lex.proofs.quoted.read_string.Given as goal

-- the items so far, and their values
abbrev pub invariant-items : goal.invariant-items
invariant-items l = record { within : l.at ≤ length l.rest; read : HasItems l.rest l.at l.values.items }

abbrev pub decreases-items : goal.decreases-items
decreases-items l = length l.rest - l.at
