use Rattle.std.proofs.Common.{◌≡◌, ◌++◌, true, map, take}
use Rattle.pict_code.specs.Written.{spaced}
use Rattle.pict_code.proofs.Lines.{field_text, labelled_field_text}
use Rattle.pict_code.proofs.line.+write_pattern.Given as goal

abbrev pub invariant-write_fields-loop-index : goal.invariant-write_fields-loop-index
invariant-write_fields-loop-index l = l.line.items ≡ l.fn.line.items ++ spaced true (map (field_text l.names) (take l.index l.fields))

abbrev pub invariant-write_labelled-loop-index : goal.invariant-write_labelled-loop-index
invariant-write_labelled-loop-index l = l.line.items ≡ l.fn.line.items ++ spaced l.first (map (labelled_field_text l.names) (take l.index l.fields))
