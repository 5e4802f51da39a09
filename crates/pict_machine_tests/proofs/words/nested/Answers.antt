use Rattle.std.specs.List.{IsDistinct}
use Rattle.pict_machine_tests.proofs.words.nested.Goals as goal

pub add_record-empty-requires-clause-distinct : goal.add_record-empty-requires-clause-distinct
unfolding IsDistinct
add_record-empty-requires-clause-distinct c = tt

pub add_record-inner-requires-clause-distinct : goal.add_record-inner-requires-clause-distinct
unfolding IsDistinct
add_record-inner-requires-clause-distinct c = tt

pub add_record-requires-clause-distinct : goal.add_record-requires-clause-distinct
unfolding IsDistinct
add_record-requires-clause-distinct c = (tt, tt)
