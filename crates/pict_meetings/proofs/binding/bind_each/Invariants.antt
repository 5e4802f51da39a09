use Rattle.std.proofs.Common.{◌≡◌, length, map, drop}
use Rattle.pict_code.specs.Plain.{plain_pat, pats_of}
use Rattle.pict_code.specs.ReadBack.{unleveled_all}
use Rattle.pict_desk.specs.Pairs.{ArePairs}
use Rattle.pict_desk.specs.Parts.{positional_found}
use Rattle.pict_desk.proofs.Loops.{all_levels, fields_found}
use Rattle.pict_desk.proofs.SoFar.{BindsSoFar}
use Rattle.pict_meetings.specs.Sent.{record_of_pairs}
use Rattle.pict_meetings.proofs.binding.bind_each.Given as goal

abbrev pub invariant-loop-i : goal.invariant-loop-i
invariant-loop-i l = record {
  so_far : BindsSoFar l.fn.store.desk.heap (all_levels l.patterns) (all_levels (drop l.i l.patterns))
      (positional_found (unleveled_all (pats_of (map plain_pat l.patterns))) (record_of_pairs l.fn.store.desk.heap l.fields))
      (fields_found l.i (drop l.i l.patterns) (record_of_pairs l.fn.store.desk.heap l.fields)) l.fn.store.desk.values.items l.store.desk.values.items;
  levels : length l.store.desk.values.items ≡ length l.fn.store.desk.values.items;
  pairs : ArePairs l.fn.store.desk.heap l.store.desk.values.items;
  rest : l.store ≡ record l.fn.store { desk = record l.fn.store.desk { values = l.store.desk.values } };
}
