use Rattle.std.specs.List.{IsDistinct}
use Rattle.pict_machine_tests.proofs.lines.around.Goals as goal

pub add_record-requires-clause-distinct : goal.add_record-requires-clause-distinct
unfolding IsDistinct
add_record-requires-clause-distinct c = tt
