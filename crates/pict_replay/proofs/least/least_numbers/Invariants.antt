use Rattle.std.proofs.Common.{◌≡◌, map, length}
use Rattle.pict_trace.specs.Plain.{plain_line}
use Rattle.pict_replay.proofs.LeastOnes.{LeastFrom}
use Rattle.pict_replay.proofs.least.least_numbers.Given as goal

abbrev pub invariant-loop-i : goal.invariant-loop-i
invariant-loop-i l = record {
  many : length l.least.items ≡ length l.lines;
  from : LeastFrom (map plain_line l.lines) l.least.items l.i;
}
