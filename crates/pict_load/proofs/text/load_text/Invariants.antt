use Rattle.std.proofs.Common.{◌≡◌, ◌++◌, drop}
use Rattle.pict_load.specs.Text.{rings_text}
use Rattle.pict_load.proofs.text.load_text.Given as goal

-- the texts so far, and those of the rings that are left
abbrev pub invariant-loop-number : goal.invariant-loop-number
invariant-loop-number l = l.text.items ++ rings_text l.number (drop l.number l.ring-items) ≡ rings_text 0 l.ring-items
