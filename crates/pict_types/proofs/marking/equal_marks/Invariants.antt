-- What is left is the same exactly where all is.
use Rattle.std.proofs.Common.{◌≡◌, ◌↔◌, drop, length}
use Rattle.pict_types.proofs.marking.equal_marks.Given as goal

abbrev pub invariant-loop-i : goal.invariant-loop-i
invariant-loop-i l = record {
  long : length l.ms ≡ length l.ns;
  same : (l.ms ≡ l.ns) ↔ (drop l.i l.ms ≡ drop l.i l.ns);
}
