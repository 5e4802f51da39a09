use Rattle.std.specs.List.{IsDistinct}
use Rattle.pict_machine_tests.proofs.heaps.has_its_fields.Goals as goal

pub add_record-record-requires-clause-distinct : goal.add_record-record-requires-clause-distinct
unfolding IsDistinct
add_record-record-requires-clause-distinct c = (tt, tt)
