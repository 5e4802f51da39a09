use Rattle.std.proofs.Common.{◌≡◌, map, drop}
use Rattle.pict_code.specs.Standing.{value_at}
use Rattle.pict_heap.specs.HeapState.{HeapState}
use Rattle.pict_picker.specs.Waiting.{pair_value}
use Rattle.pict_picker.proofs.partners.channel_of_level.Given as goal

abbrev pub invariant-loop-k : goal.invariant-loop-k
invariant-loop-k l = (h : HeapState) → value_at (drop l.k l.levels) (map (pair_value h) (drop l.k l.frame)) l.level ≡ value_at l.levels (map (pair_value h) l.frame) l.level
