use Rattle.std.proofs.Common.{map, take}
use Rattle.pict_desk.specs.Known.{known}
use Rattle.pict_desk.specs.Needs.{PilesWords}
use Rattle.pict_desk.proofs.records.frame_record.Given as goal

abbrev pub invariant-loop-level : goal.invariant-loop-level
invariant-loop-level l = PilesWords l.heap l.fn.pending l.pending (map (known l.heap l.values) (take l.level-index l.frame))
