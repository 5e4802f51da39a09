use Rattle.std.proofs.Common.{◌≡◌, ◌≤◌, length, drop}
use Rattle.pict_core.specs.Matching.{match_values, match_labelled}
use Rattle.pict_shapes.specs.Fitting.{is_found, values_in, fields_in}
use Rattle.pict_shapes.proofs.Found.{pats, labels}
use Rattle.pict_shapes.proofs.matching.+fits_operand.Given as goal

abbrev pub invariant-fits_operands-loop-i : goal.invariant-fits_operands-loop-i
invariant-fits_operands-loop-i l =
    is_found (match_values (pats l.patterns) (values_in l.heap l.values l.operands))
    ≡ is_found (match_values (pats (drop l.i l.patterns)) (values_in l.heap l.values (drop l.i l.operands)))

abbrev pub invariant-fits_fields-loop-part : goal.invariant-fits_fields-loop-part
invariant-fits_fields-loop-part l = record {
  from : l.from ≤ length l.fields;
  so_far : is_found (match_labelled (labels l.patterns) (fields_in l.heap l.values l.fields)) ≡ is_found (match_labelled (labels (drop l.part-index l.patterns)) (fields_in l.heap l.values l.fields));
}
