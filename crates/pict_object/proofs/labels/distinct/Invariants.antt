use Rattle.std.proofs.Common.{◌≡◌, ◌++◌, [], map, drop}
use Rattle.pict_syntax.specs.Names.{text_of}
use Rattle.pict_object.specs.Collected.{numbers, texts_of, distinct_after}
use Rattle.pict_object.proofs.labels.distinct.Given as goal

abbrev pub invariant-loop-label : goal.invariant-loop-label
invariant-loop-label l =
    texts_of l.names l.table.items ++ distinct_after l.last (map (text_of l.names) (numbers (drop l.label-index l.labels)))
    ≡ distinct_after [] (map (text_of l.names) (numbers l.labels))
