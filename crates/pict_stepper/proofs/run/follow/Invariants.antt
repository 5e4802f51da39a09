use Rattle.std.proofs.Common.{◌≤◌, ◌-◌, length}
use Rattle.pict_core.specs.Plain.{plain_core}
use Rattle.pict_reference.specs.Plain.{configuration_of}
use Rattle.pict_stepper.proofs.Following.{Follows}
use Rattle.pict_stepper.proofs.run.follow.Given as goal

abbrev pub invariant-steps : goal.invariant-steps
invariant-steps l = record {
  few : length l.steps.items ≤ l.most;
  follows : Follows (plain_core l.fn.process) l.steps.items (configuration_of l.last);
}

abbrev pub decreases-steps : goal.decreases-steps
decreases-steps l = l.most - length l.steps.items
