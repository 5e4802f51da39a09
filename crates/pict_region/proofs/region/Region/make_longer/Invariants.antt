use Rattle.std.proofs.Common.{◌≡◌, ◌<◌, ◌≤◌, length, max}
use Rattle.pict_region.specs.RegionState.{spare, KeepsOtherWidths}
use Rattle.pict_region.proofs.region.Region.make_longer.Given as goal

abbrev pub invariant-loop : goal.invariant-loop
invariant-loop l = record {
  listed : l.width < length l.self.free;
  spare_is : spare l.self l.width ≡ l.counter;
  least : spare l.fn.self l.width ≤ l.counter;
  most : l.counter ≤ max l.n (spare l.fn.self l.width);
  others : KeepsOtherWidths l.fn.self l.self l.width;
  live : l.self.live ≡ l.fn.self.live;
  work : l.self.work ≡ l.fn.self.work;
}
