-- Free runs by places are free steps.
use Rattle.pict_core.specs.Configuration.{opening}
use Rattle.pict_core.specs.FreeRun.{FreelyRuns}
use Rattle.pict_core.specs.FreeRun as run
use Rattle.pict_core.proofs.Placing.{places_are_free}
use Rattle.pict_reduction.specs.Reached.{FreelyReaches, at_start, by_step}
use Rattle.pict_reduction.specs.Laws.{FreeRunsReach}
use Rattle.pict_reduction.proofs.Apart.{opening_reached, freely_reached}

pub free_runs_reach : FreeRunsReach
free_runs_reach p places labels D u run.at_start = at_start
free_runs_reach p places labels D u (run.by_step {places = ps} {labels = ls} {D = M} {place = place} {label = label} h is e) =
    let r : FreelyReaches (opening p) M = free_runs_reach p ps ls M u h in
    let f = places_are_free M D place label (freely_reached (opening p) M (opening_reached p u) r).is is e in
    by_step r f.1
