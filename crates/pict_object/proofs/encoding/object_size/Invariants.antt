use Rattle.std.proofs.Common.{◌≡◌, ◌-◌, ◌+◌, ◌^◌, ◌≤◌, min, length, drop}
use Rattle.std.specs.List.{flat_map}
use Rattle.pict_core.specs.Plain.{plain_core}
use Rattle.pict_object.specs.Objects.{text_bytes, process_bytes}
use Rattle.pict_object.specs.Sizes.{first_place}
use Rattle.pict_object.specs.Collected.{texts_of}
use Rattle.pict_object.proofs.encoding.object_size.Given as goal

abbrev pub invariant-loop-label : goal.invariant-loop-label
invariant-loop-label l =
    (min (l.size + length (flat_map text_bytes (texts_of l.names (drop l.label-index l.table)))) (2 ^ 64 - 1)
    ≡ min (length (flat_map text_bytes (texts_of l.names l.table)) + length (process_bytes first_place (plain_core l.core)) + 9) (2 ^ 64 - 1))
    × (l.size ≤ 2 ^ 64 - 1)
