-- The parts of a type are less than the type.
use Rattle.std.proofs.Common.{◌+◌, ◌-◌, ◌*◌}
use Rattle.pict_types.specs.Plain.{plain, plain_record, plain_bound, plain_types, plain_bounds, plain_labels}
use Rattle.pict_types.specs.Measures.{size, size_bound, size_types, size_labels, size_bounds}
use Rattle.pict_types.proofs.prints.+prints.Given as goal

abbrev pub decreases-print_type : goal.decreases-print_type
decreases-print_type l = 3 * size (plain l.t.now)

abbrev pub decreases-print_record : goal.decreases-print_record
decreases-print_record l = 3 * size (plain_record l.r.now) - 1

abbrev pub decreases-print_bound : goal.decreases-print_bound
decreases-print_bound l = 3 * size_bound (plain_bound l.b.now)

abbrev pub decreases-print_types : goal.decreases-print_types
decreases-print_types l = 3 * size_types (plain_types l.ts.now) + 1

abbrev pub decreases-print_labels : goal.decreases-print_labels
decreases-print_labels l = 3 * size_labels (plain_labels l.ls.now) + 1

abbrev pub decreases-print_bounds : goal.decreases-print_bounds
decreases-print_bounds l = 3 * size_bounds (plain_bounds l.bs.now) + 1
