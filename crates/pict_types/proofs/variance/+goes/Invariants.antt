-- What is left of a row goes as the whole does.
use Rattle.std.proofs.Common.{◌≡◌, ◌+◌, ◌-◌, ◌*◌, drop}
use Rattle.pict_types.specs.Plain.{plain, plain_record, plain_types, plain_labels}
use Rattle.pict_types.specs.Measures.{size, size_types, size_labels}
use Rattle.pict_types.specs.Variance.{all_go, arguments_go, labels_go}
use Rattle.pict_types.specs.Bodies.{body_context, seen, way_of}
use Rattle.pict_types.proofs.variance.+goes.Given as goal

abbrev pub invariant-arguments_go-loop-k : goal.invariant-arguments_go-loop-k
invariant-arguments_go-loop-k l = arguments_go (way_of l.up) (body_context l.body) (seen l.body l.x) (drop l.k l.marks) (plain_types (drop l.k l.ts)) ≡ arguments_go (way_of l.up) (body_context l.body) (seen l.body l.x) l.marks (plain_types l.ts)

abbrev pub invariant-all_go-loop-t : goal.invariant-all_go-loop-t
invariant-all_go-loop-t l = all_go (way_of l.up) (body_context l.body) (seen l.body l.x) (plain_types (drop l.t-index l.ts)) ≡ all_go (way_of l.up) (body_context l.body) (seen l.body l.x) (plain_types l.ts)

abbrev pub invariant-labels_go-loop-l : goal.invariant-labels_go-loop-l
invariant-labels_go-loop-l l = labels_go (way_of l.up) (body_context l.body) (seen l.body l.x) (plain_labels (drop l.l-index l.ls)) ≡ labels_go (way_of l.up) (body_context l.body) (seen l.body l.x) (plain_labels l.ls)

abbrev pub decreases-type_goes : goal.decreases-type_goes
decreases-type_goes l = 4 * size (plain l.t.now)

abbrev pub decreases-message_goes : goal.decreases-message_goes
decreases-message_goes l = 4 * size (plain l.t.now) + 1

abbrev pub decreases-record_goes : goal.decreases-record_goes
decreases-record_goes l = 4 * size (plain_record l.r.now) - 1

abbrev pub decreases-argument_goes : goal.decreases-argument_goes
decreases-argument_goes l = 4 * size (plain l.t.now) + 1

abbrev pub decreases-arguments_go : goal.decreases-arguments_go
decreases-arguments_go l = 4 * size_types (plain_types l.ts.now) + 2

abbrev pub decreases-all_go : goal.decreases-all_go
decreases-all_go l = 4 * size_types (plain_types l.ts.now) + 1

abbrev pub decreases-labels_go : goal.decreases-labels_go
decreases-labels_go l = 4 * size_labels (plain_labels l.ls.now) + 1
