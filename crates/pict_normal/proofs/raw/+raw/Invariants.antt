-- What was made so far is the raw form of the trees so far, in which no rule of kinds fails.
use Rattle.std.proofs.Common.{◌≡◌, ◌+◌, ◌*◌, [], take}
use Rattle.pict_syntax.specs.Trees.{no_types, no_binders, no_labelled_types}
use Rattle.pict_syntax.specs.PlainTrees.{type_of, binder_of, types_on, binders_on, labelled_types_on}
use Rattle.pict_normal.specs.Around.{around, scope_of}
use Rattle.pict_normal.specs.BinderEntries.{entries_under}
use Rattle.pict_normal.specs.Normal.{types_stops, labels_stops, binders_stops}
use Rattle.pict_types.specs.Plain.{plain_types, plain_labels, plain_bounds}
use Rattle.pict_types.specs.PlainContext.{names_of}
use Rattle.pict_types.specs.Places.{entry_names}
use Rattle.pict_normal.specs.Sizes.{nodes, nodes_of_types, nodes_of_labels, nodes_of_binders, nodes_of_binder}
use Rattle.pict_normal.specs.Raw.{raw_types, raw_binders}
use Rattle.pict_normal.proofs.LabelOrder.{unsorted}
use Rattle.pict_normal.proofs.raw.+raw.Given as goal

abbrev pub invariant-raw_types-loop-t : goal.invariant-raw_types-loop-t
invariant-raw_types-loop-t l = record {
  raw : plain_types l.types.items ≡ raw_types (names_of l.c) (entry_names (around l.fn.inner l.c)) (types_on no_types (take l.t-index l.ts));
  kinds : types_stops (names_of l.c) (around l.fn.inner l.c) (types_on no_types (take l.t-index l.ts)) ≡ [];
  inner : scope_of l.inner ≡ scope_of l.fn.inner;
}

abbrev pub invariant-raw_labels-loop-l : goal.invariant-raw_labels-loop-l
invariant-raw_labels-loop-l l = record {
  raw : plain_labels l.labelled.items ≡ unsorted (names_of l.c) (entry_names (around l.fn.inner l.c)) (labelled_types_on no_labelled_types (take l.l-index l.ls));
  kinds : labels_stops (names_of l.c) (around l.fn.inner l.c) (labelled_types_on no_labelled_types (take l.l-index l.ls)) ≡ [];
  inner : scope_of l.inner ≡ scope_of l.fn.inner;
}

abbrev pub invariant-raw_binders-loop-b : goal.invariant-raw_binders-loop-b
invariant-raw_binders-loop-b l = record {
  raw : plain_bounds l.bounds.items ≡ raw_binders (names_of l.c) (entry_names (around l.fn.inner l.c)) (binders_on no_binders (take l.b-index l.bs));
  kinds : binders_stops (names_of l.c) (around l.fn.inner l.c) (binders_on no_binders (take l.b-index l.bs)) ≡ [];
  inner : scope_of l.inner ≡ entries_under (scope_of l.fn.inner) (binders_on no_binders (take l.b-index l.bs));
}

abbrev pub decreases-raw_type : goal.decreases-raw_type
decreases-raw_type l = 4 * nodes (type_of l.t.now)

abbrev pub decreases-raw_channel : goal.decreases-raw_channel
decreases-raw_channel l = 4 * nodes (type_of l.t.now) + 1

abbrev pub decreases-raw_recursion : goal.decreases-raw_recursion
decreases-raw_recursion l = 4 * nodes (type_of l.t.now) + 1

abbrev pub decreases-raw_types : goal.decreases-raw_types
decreases-raw_types l = 4 * nodes_of_types (types_on no_types l.ts.now) + 1

abbrev pub decreases-raw_labels : goal.decreases-raw_labels
decreases-raw_labels l = 4 * nodes_of_labels (labelled_types_on no_labelled_types l.ls.now) + 1

abbrev pub decreases-raw_binders : goal.decreases-raw_binders
decreases-raw_binders l = 4 * nodes_of_binders (binders_on no_binders l.bs.now) + 1

abbrev pub decreases-raw_binder : goal.decreases-raw_binder
decreases-raw_binder l = 4 * nodes_of_binder (binder_of l.b.now)

abbrev pub decreases-raw_record : goal.decreases-raw_record
decreases-raw_record l = 4 * (nodes_of_binders (binders_on no_binders l.bs.now) + nodes_of_types (types_on no_types l.ts.now) + nodes_of_labels (labelled_types_on no_labelled_types l.ls.now)) + 2

abbrev pub decreases-operator_bound : goal.decreases-operator_bound
decreases-operator_bound l = 4 * nodes (type_of l.t.now) + 1
