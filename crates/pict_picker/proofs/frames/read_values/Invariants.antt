use Rattle.std.proofs.Common.{◌≡◌, length, map, take}
use Rattle.std.specs.List.{All}
use Rattle.pict_heap.specs.HeapState.{HeapState}
use Rattle.pict_desk.specs.Known.{pair_at}
use Rattle.pict_desk.specs.Pairs.{IsPair, ArePairs}
use Rattle.pict_picker.proofs.frames.read_values.Given as goal

abbrev pub invariant-loop-i : goal.invariant-loop-i
invariant-loop-i l = record {
  read : map (pair_at l.values) (take l.i l.levels) ≡ take l.i l.frame;
  pairs : (h : HeapState) → ArePairs h l.fn.values → All (IsPair h) l.frame → ArePairs h l.values;
  len : length l.values ≡ length l.fn.values;
}
