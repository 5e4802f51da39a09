use Rattle.std.proofs.Common.{◌≡◌, length, map, drop}
use Rattle.pict_code.specs.Plain.{plain_pat, plain_pat_field, pats_of, labelled_pats_of}
use Rattle.pict_code.specs.ReadBack.{unleveled_all, unleveled_labelled}
use Rattle.pict_heap.specs.HeapState.{value_of}
use Rattle.pict_desk.specs.Binding.{levels_of_all, levels_of_labelled}
use Rattle.pict_desk.specs.Pairs.{ArePairs}
use Rattle.pict_desk.specs.Parts.{positional_found, labelled_found, found_from}
use Rattle.pict_desk.proofs.SoFar.{BindsSoFar}
use Rattle.pict_desk.proofs.binding.+bind.Given as goal

abbrev pub invariant-bind_positional-loop-i : goal.invariant-bind_positional-loop-i
invariant-bind_positional-loop-i l = record {
  so_far : BindsSoFar l.heap (levels_of_all (pats_of (map plain_pat l.patterns))) (levels_of_all (pats_of (map plain_pat (drop l.i l.patterns))))
      (positional_found (unleveled_all (pats_of (map plain_pat l.patterns))) (value_of l.heap l.word))
      (found_from l.i (unleveled_all (pats_of (map plain_pat (drop l.i l.patterns)))) (value_of l.heap l.word)) l.fn.values l.values;
  len : length l.values ≡ length l.fn.values;
  pairs : ArePairs l.heap l.fn.values → ArePairs l.heap l.values;
}

abbrev pub invariant-bind_labelled-loop-field : goal.invariant-bind_labelled-loop-field
invariant-bind_labelled-loop-field l = record {
  so_far : BindsSoFar l.heap (levels_of_labelled (labelled_pats_of (map plain_pat_field l.patterns))) (levels_of_labelled (labelled_pats_of (map plain_pat_field (drop l.field-index l.patterns))))
      (labelled_found (unleveled_labelled (labelled_pats_of (map plain_pat_field l.patterns))) (value_of l.heap l.word))
      (labelled_found (unleveled_labelled (labelled_pats_of (map plain_pat_field (drop l.field-index l.patterns)))) (value_of l.heap l.word)) l.fn.values l.values;
  len : length l.values ≡ length l.fn.values;
  pairs : ArePairs l.heap l.fn.values → ArePairs l.heap l.values;
}
