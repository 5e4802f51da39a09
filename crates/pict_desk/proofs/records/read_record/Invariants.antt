use Rattle.std.proofs.Common.{ℕ, ◌≡◌, length, map, take, false}
use Rattle.pict_code.specs.Levels.{has}
use Rattle.pict_desk.specs.Known.{pair_at, value_in, known, value_fields}
use Rattle.pict_desk.specs.Pairs.{ArePairs}
use Rattle.pict_desk.proofs.records.read_record.Given as goal

abbrev pub invariant-loop-i : goal.invariant-loop-i
invariant-loop-i l = record {
  read : map (known l.heap l.values) (take l.i l.frame) ≡ take l.i (value_fields (value_in l.heap l.fn.pair.0 l.fn.pair.1));
  others : (level : ℕ) → has level (take l.i l.frame) ≡ false → pair_at l.values level ≡ pair_at l.fn.values level;
  pairs : ArePairs l.heap l.fn.values → ArePairs l.heap l.values;
  len : length l.values ≡ length l.fn.values;
}
