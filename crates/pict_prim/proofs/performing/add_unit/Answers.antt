use Rattle.std.specs.List.{IsDistinct}
use Rattle.pict_prim.proofs.performing.add_unit.Goals as goal

pub add_record-requires-clause-distinct : goal.add_record-requires-clause-distinct
unfolding IsDistinct
add_record-requires-clause-distinct c = tt
