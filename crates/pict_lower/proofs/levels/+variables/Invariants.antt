use Rattle.std.proofs.Common.{◌≡◌, ℕ, ◌||◌, map, drop}
use Rattle.pict_core.specs.Plain.{plain_val, plain_field, vals_of, labelled_of}
use Rattle.pict_code.specs.Frames.{in_values, in_labelled}
use Rattle.pict_code.specs.Levels.{has}
use Rattle.pict_lower.proofs.levels.+variables.Given as goal

abbrev pub invariant-field_variables-loop-field : goal.invariant-field_variables-loop-field
invariant-field_variables-loop-field l = (level : ℕ) → has level l.levels.items || in_values level (vals_of (map plain_val (drop l.field-index l.fields)))
    ≡ has level l.fn.levels.items || in_values level (vals_of (map plain_val l.fields))

abbrev pub invariant-labelled_variables-loop-field : goal.invariant-labelled_variables-loop-field
invariant-labelled_variables-loop-field l = (level : ℕ) → has level l.levels.items || in_labelled level (labelled_of (map plain_field (drop l.field-index l.fields)))
    ≡ has level l.fn.levels.items || in_labelled level (labelled_of (map plain_field l.fields))
