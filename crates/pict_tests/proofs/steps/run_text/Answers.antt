use Rattle.pict_core.specs.Plain.{plain_core}
use Rattle.pict_core.specs.Configuration.{opening}
use Rattle.pict_tests.proofs.steps.run_text.Goals as goal

pub run_counted-requires-clause-right : goal.run_counted-requires-clause-right
run_counted-requires-clause-right c =
    record { configuration = opening (plain_core c.in-Some.core); is = c.in_ok-machine.ensures.is; stands = c.in_ok-machine.ensures.stands; right = c.in-Some.ensures.right c.args.fuel }
