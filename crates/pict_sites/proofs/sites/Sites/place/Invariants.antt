use Rattle.std.proofs.Common.{◌≡◌, ◌+◌, length, slice_get}
use Rattle.pict_core.specs.Term.{Process}
use Rattle.pict_network.specs.Network.{Network}
use Rattle.pict_network.specs.Events.{events}
use Rattle.pict_sites.specs.Views.{StandFor}
use Rattle.pict_sites.proofs.Events.{events_from}
use Rattle.pict_sites.proofs.sites.Sites.place.Given as goal

abbrev pub invariant-loop-s : goal.invariant-loop-s
invariant-loop-s l = (core : Process) (N : Network) → StandFor core l.fn.self N
    → (slice_get (events_from l.s N) l.left ≡ slice_get (events N) l.fn.i) × (length (events N) + l.left ≡ length (events_from l.s N) + l.fn.i)
