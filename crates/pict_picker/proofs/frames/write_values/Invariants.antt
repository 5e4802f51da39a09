use Rattle.std.proofs.Common.{◌≡◌, ◌≤◌, length, map, take}
use Rattle.std.specs.Vec.{vec_capacity}
use Rattle.pict_desk.specs.Known.{pair_at}
use Rattle.pict_picker.proofs.frames.write_values.Given as goal

abbrev pub invariant-loop-level : goal.invariant-loop-level
invariant-loop-level l = record {
  items : l.frame.items ≡ map (pair_at l.values) (take l.level-index l.levels);
  room : length l.levels ≤ vec_capacity l.frame;
}
