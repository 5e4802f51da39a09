use Rattle.std.proofs.Common.{◌≡◌, ◌<◌, ◌^◌, ◌++◌, length, drop}
use Rattle.std.specs.List.{AllByRecursion, flat_map}
use Rattle.pict_object.specs.Objects.{text_bytes}
use Rattle.pict_object.specs.Collected.{texts_of}
use Rattle.pict_object.proofs.encoding.write_table.Given as goal

abbrev pub invariant-loop-label : goal.invariant-loop-label
invariant-loop-label l =
    (l.out.items ++ flat_map text_bytes (texts_of l.names (drop l.label-index l.table)) ≡ l.initial.out.items ++ flat_map text_bytes (texts_of l.names l.table))
    × AllByRecursion (λ text. length text < 2 ^ 32) (texts_of l.names (drop l.label-index l.table))
