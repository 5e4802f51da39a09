use Rattle.std.proofs.Common.{length, ◌-◌, ◌≡◌, ◌<◌, ◌≤◌, ℕ, true, get_or}
use Rattle.std.specs.Char.{is_ascii_digit}
use Rattle.pict_lex.proofs.number.digits_end.Given as goal

-- the bytes so far are digits
abbrev pub invariant-loop-end : goal.invariant-loop-end
invariant-loop-end l = record {
  after : l.from ≤ l.end;
  within : l.end ≤ length l.rest;
  digits : (k : ℕ) → l.from ≤ k → k < l.end → is_ascii_digit (get_or l.rest k 0) ≡ true;
}

abbrev pub decreases-loop-end : goal.decreases-loop-end
decreases-loop-end l = length l.rest - l.end
