-- What is left is the same exactly where all is, and has paid for what was passed.
use Rattle.std.proofs.Common.{◌≡◌, ◌+◌, ◌≤◌, ◌↔◌, drop, length}
use Rattle.pict_types.specs.Plain.{plain_types, plain_bounds, plain_labels}
use Rattle.pict_types.specs.Measures.{size_types, size_labels, size_bounds}
use Rattle.pict_sub.proofs.equality.+equal.Given as goal

abbrev pub invariant-equal_rows-loop-i : goal.invariant-equal_rows-loop-i
invariant-equal_rows-loop-i g l = record {
  long : length l.ss ≡ length l.ts;
  same : (plain_types l.ss ≡ plain_types l.ts) ↔ (plain_types (drop l.i l.ss) ≡ plain_types (drop l.i l.ts));
  paid : l.steps + size_types (plain_types (drop l.i l.ss)) ≤ l.initial.steps + size_types (plain_types l.ss);
}

abbrev pub invariant-equal_labels-loop-i : goal.invariant-equal_labels-loop-i
invariant-equal_labels-loop-i g l = record {
  long : length l.ls ≡ length l.ms;
  same : (plain_labels l.ls ≡ plain_labels l.ms) ↔ (plain_labels (drop l.i l.ls) ≡ plain_labels (drop l.i l.ms));
  paid : l.steps + size_labels (plain_labels (drop l.i l.ls)) ≤ l.initial.steps + size_labels (plain_labels l.ls);
}

abbrev pub invariant-equal_bounds-loop-i : goal.invariant-equal_bounds-loop-i
invariant-equal_bounds-loop-i g l = record {
  long : length l.bs ≡ length l.cs;
  same : (plain_bounds l.bs ≡ plain_bounds l.cs) ↔ (plain_bounds (drop l.i l.bs) ≡ plain_bounds (drop l.i l.cs));
  paid : l.steps + size_bounds (plain_bounds (drop l.i l.bs)) ≤ l.initial.steps + size_bounds (plain_bounds l.bs);
}
