use Rattle.std.proofs.Common.{◌≡◌, ℕ, ◌<◌, nat_eq, false, ◌||◌, length, get_or, drop}
use Rattle.std.specs.List.{list_any}
use Rattle.pict_object.specs.Collected.{numbers}
use Rattle.pict_object.proofs.decoding.marks.Given as goal

abbrev pub invariant-loop-label : goal.invariant-loop-label
invariant-loop-label l = record {
  len : length l.used.items ≡ l.many;
  each : (k : ℕ) → k < l.many → (get_or l.used.items k false || list_any (nat_eq k) (numbers (drop l.label-index l.labels))) ≡ list_any (nat_eq k) (numbers l.labels);
}
