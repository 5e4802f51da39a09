use Rattle.std.proofs.Common.{map, drop}
use Rattle.pict_core.specs.Matching.{match_values, match_labelled}
use Rattle.pict_core.specs.Found.{Found}
use Rattle.pict_core.specs.Plain.{plain_val, plain_field, plain_pat, plain_pat_field, pats_of, vals_of, labelled_of, labelled_pats_of}
use Rattle.pict_core.proofs.matching.+match_value.Given as goal

abbrev pub invariant-match_positional-loop-i : goal.invariant-match_positional-loop-i
invariant-match_positional-loop-i l = Found (match_values (pats_of (map plain_pat l.patterns)) (vals_of (map plain_val l.values)))
    (match_values (pats_of (map plain_pat (drop l.i l.patterns))) (vals_of (map plain_val (drop l.i l.values)))) (map plain_val l.fn.bound.items) (map plain_val l.bound.items)

abbrev pub invariant-match_labelled-loop-field : goal.invariant-match_labelled-loop-field
invariant-match_labelled-loop-field l = Found (match_labelled (labelled_pats_of (map plain_pat_field l.patterns)) (labelled_of (map plain_field l.fields)))
    (match_labelled (labelled_pats_of (map plain_pat_field (drop l.field-index l.patterns))) (labelled_of (map plain_field l.fields))) (map plain_val l.fn.bound.items) (map plain_val l.bound.items)
