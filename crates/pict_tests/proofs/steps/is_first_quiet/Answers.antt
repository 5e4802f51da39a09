use Rattle.pict_core.specs.Plain.{plain_core}
use Rattle.pict_core.specs.Configuration.{opening}
use Rattle.pict_tests.proofs.steps.is_first_quiet.Goals as goal

pub step-requires-clause-right : goal.step-requires-clause-right
step-requires-clause-right c =
    record { configuration = opening (plain_core c.in-Some.core); is = c.in_ok-machine-in-Some.ensures.is; stands = c.in_ok-machine-in-Some.ensures.stands; right = c.in-Some.ensures.right 1 }
