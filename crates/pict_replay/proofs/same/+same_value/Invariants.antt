use Rattle.std.proofs.Common.{◌≡◌, ◌↔◌, map, drop}
use Rattle.pict_core.specs.Plain.{plain_val, plain_field, vals_of, labelled_of}
use Rattle.pict_heap.specs.HeapState.{value_of}
use Rattle.pict_show_words.specs.Fields.{positional_from, labelled_from}
use Rattle.pict_replay.proofs.same.+same_value.Given as goal

abbrev pub invariant-same_fields-loop-i : goal.invariant-same_fields-loop-i
invariant-same_fields-loop-i l =
    (labelled_from 0 (value_of l.heap l.word) ≡ labelled_of (map plain_field l.fields))
    ↔ (labelled_from l.i (value_of l.heap l.word) ≡ labelled_of (map plain_field (drop l.i l.fields)))

abbrev pub invariant-same_values-loop-i : goal.invariant-same_values-loop-i
invariant-same_values-loop-i l =
    (positional_from 0 (value_of l.heap l.word) ≡ vals_of (map plain_val l.values))
    ↔ (positional_from l.i (value_of l.heap l.word) ≡ vals_of (map plain_val (drop l.i l.values)))
