use Rattle.std.proofs.Common.{map, drop}
use Rattle.pict_shared.specs.Plain.{plain_held}
use Rattle.pict_shared.specs.Alike.{renamed_processes, processes, Rearranges}
use Rattle.pict_shared.specs.Taking.{renamed_core}
use Rattle.pict_shared.proofs.alike.are_rearranged.Given as goal

abbrev pub invariant-loop-other : goal.invariant-loop-other
invariant-loop-other l = Rearranges (map (renamed_core l.names) l.left.items) (processes (map plain_held (drop l.other-index l.others)))
    → Rearranges (renamed_processes l.names (map plain_held l.ones)) (processes (map plain_held l.others))
