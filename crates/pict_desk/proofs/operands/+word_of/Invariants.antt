use Rattle.std.proofs.Common.{map, take}
use Rattle.pict_core.specs.Plain.{plain_val, plain_field, vals_of, labelled_of}
use Rattle.pict_heap.specs.HeapState.{KeepsWords}
use Rattle.pict_prim.specs.Acts.{UsesNeed}
use Rattle.pict_desk.specs.Known.{known, operand_value}
use Rattle.pict_desk.specs.Needs.{needs_of, needs_of_labelled, PilesWords, PilesLabelled}
use Rattle.pict_desk.proofs.operands.+word_of.Given as goal

abbrev pub invariant-pile_words-loop-operand : goal.invariant-pile_words-loop-operand
invariant-pile_words-loop-operand l = record {
  piled : PilesWords l.heap l.fn.pending l.pending (map (λ v. operand_value (known l.fn.heap l.values) (plain_val v)) (take l.operand-index l.operands));
  keeps : KeepsWords l.fn.heap l.heap;
  used : UsesNeed l.fn.heap.room l.heap.room (needs_of (vals_of (map plain_val (take l.operand-index l.operands))));
}

abbrev pub invariant-pile_labelled-loop-field : goal.invariant-pile_labelled-loop-field
invariant-pile_labelled-loop-field l = record {
  piled : PilesLabelled l.heap l.fn.pending l.pending (map (λ field. (field.0, operand_value (known l.fn.heap l.values) (plain_val field.1))) (take l.field-index l.operands));
  keeps : KeepsWords l.fn.heap l.heap;
  used : UsesNeed l.fn.heap.room l.heap.room (needs_of_labelled (labelled_of (map plain_field (take l.field-index l.operands))));
}
