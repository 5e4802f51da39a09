use Rattle.std.proofs.Common.{◌≡◌, map, drop}
use Rattle.pict_code.specs.Plain.{plain_pat, plain_pat_field, pats_of, labelled_pats_of}
use Rattle.pict_code.specs.ReadBack.{unleveled_all, unleveled_labelled}
use Rattle.pict_heap.specs.HeapState.{value_of}
use Rattle.pict_desk.specs.Parts.{positional_found, labelled_found, found_from}
use Rattle.pict_shapes.specs.Fitting.{is_found}
use Rattle.pict_shapes.proofs.fitting.+fits.Given as goal

abbrev pub invariant-fits_positional-loop-i : goal.invariant-fits_positional-loop-i
invariant-fits_positional-loop-i l =
    is_found (positional_found (unleveled_all (pats_of (map plain_pat l.patterns))) (value_of l.heap l.word))
    ≡ is_found (found_from l.i (unleveled_all (pats_of (map plain_pat (drop l.i l.patterns)))) (value_of l.heap l.word))

abbrev pub invariant-fits_labelled-loop-field : goal.invariant-fits_labelled-loop-field
invariant-fits_labelled-loop-field l =
    is_found (labelled_found (unleveled_labelled (labelled_pats_of (map plain_pat_field l.patterns))) (value_of l.heap l.word))
    ≡ is_found (labelled_found (unleveled_labelled (labelled_pats_of (map plain_pat_field (drop l.field-index l.patterns)))) (value_of l.heap l.word))
