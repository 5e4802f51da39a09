-- No event that a seed chooses is wrong.
use Rattle.std.proofs.Common.{slice_get}
use Rattle.pict_seed.specs.Stream.{generator}
use Rattle.pict_network.specs.Network.{opening_network}
use Rattle.pict_network.specs.Events.{Misshapen, events}
use Rattle.pict_network.specs.Runs.{choice}
use Rattle.pict_network.proofs.Running.{there, chosen_runs, no_event_is_wrong}
use Rattle.pict_sites.specs.Laws.{RunsAreRight}

pub runs_are_right : RunsAreRight
runs_are_right others p seed u right count steps labels M h on e =
    let r = chosen_runs (opening_network others p) (generator seed) count steps labels M h on in
    let x = there M (slice_get (events M) (choice M h).0) Misshapen e (λ z. cc z) in
    no_event_is_wrong others p r.events steps labels M x.0 u right r.runs x.1
