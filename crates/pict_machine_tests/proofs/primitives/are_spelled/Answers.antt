use Rattle.std.specs.List.{IsDistinct}
use Rattle.pict_machine_tests.proofs.primitives.are_spelled.Goals as goal

pub add_record-argument-requires-clause-distinct : goal.add_record-argument-requires-clause-distinct
unfolding IsDistinct
add_record-argument-requires-clause-distinct c = tt
