use Rattle.std.proofs.Common.{refl}
use Rattle.std.specs.List.{IsDistinct}
use Rattle.pict_machine_tests.proofs.heaps.keeps_its_labels.Goals as goal

pub add_record-record-requires-clause-distinct : goal.add_record-record-requires-clause-distinct
unfolding IsDistinct
add_record-record-requires-clause-distinct c = ((refl, (refl, tt)), ((refl, tt), (tt, tt)))
