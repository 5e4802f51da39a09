use Rattle.pict_region.proofs.Calls.{kept_empty, live_empty}
use Rattle.pict_region.proofs.region.Region.new.Goals as goal

pub invariant_of-result : goal.invariant_of-result
invariant_of-result c = rw (c.new.ensures.items, c.new-2.ensures.items) kept_empty

pub returns-clause-live : goal.returns-clause-live
returns-clause-live c = rw c.new-2.ensures.items live_empty
