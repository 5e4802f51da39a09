use Rattle.pict_heap.proofs.Look.{record_read, count_read}
use Rattle.pict_heap.proofs.heap.Heap.count.Goals as goal

pub returns-in-Fields : goal.returns-in-Fields
returns-in-Fields c =
    let reads = record_read c.self.inside _ _ _ _ c.self.view_is c.self.invariant c.requires c.in-Fields.is c.index.ensures in
    count_read c.self.inside _ _ _ _ reads c.in-Fields.is
