use Rattle.pict_core.specs.Plain.{plain_core}
use Rattle.pict_core.specs.Configuration.{opening}
use Rattle.pict_load.proofs.Counting.{is_counted}
use Rattle.pict_load.proofs.counter.count_run.Goals as goal

pub returns : goal.returns
returns c =
    is_counted (plain_core c.args.core) c.args.fuel _ _
    (c.in-Ok.ensures.end (opening (plain_core c.args.core)) c.in_ok-machine.ensures.is c.in_ok-machine.ensures.stands)
