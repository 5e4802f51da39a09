use Rattle.std.proofs.Common.{ℕ, ◌≡◌, ◌+◌, ◌*◌, length, take, drop, eqb, false}
use Rattle.std.specs.List.{list_any}
use Rattle.pict_region.specs.Values.{gathered, pair_at}
use Rattle.pict_region.proofs.region.read_pairs.Given as goal

abbrev pub invariant-loop-index : goal.invariant-loop-index
invariant-loop-index l = record {
  place : l.place ≡ l.start + 2 * l.index-index;
  len : length l.values ≡ length l.fn.values;
  words : gathered l.values (take l.index-index l.indices) ≡ take (2 * l.index-index) (drop l.start l.words);
  others : (index : ℕ) → list_any (eqb index) (take l.index-index l.indices) ≡ false → pair_at l.values index ≡ pair_at l.fn.values index;
}
