use Rattle.std.proofs.Common.{◌≡◌, ◌≤◌, ◌+◌, length}
use Rattle.pict_core.specs.Term.{Process}
use Rattle.pict_network.specs.Network.{Network}
use Rattle.pict_network.specs.Events.{events}
use Rattle.pict_sites.specs.Views.{StandFor}
use Rattle.pict_sites.proofs.Events.{events_from}
use Rattle.pict_sites.proofs.sites.Sites.count.Given as goal

abbrev pub invariant-loop-s : goal.invariant-loop-s
invariant-loop-s l = record {
  few : l.busy ≤ l.s;
  counted : (core : Process) (N : Network) → StandFor core l.fn.self N → l.busy + length (events_from l.s N) ≡ length (events N);
}
