use Rattle.std.proofs.Common.{None}
use Rattle.pict_gather.specs.Phases.{accepts}
use Rattle.pict_front.specs.Answers.{plain_front}
use Rattle.pict_top.proofs.Right.{accepted_runs_right}
use Rattle.pict_top.proofs.Short.{front_short}
use Rattle.pict_steps.proofs.tell_text.Goals as goal

pub follow-requires-clause-right : goal.follow-requires-clause-right
follow-requires-clause-right c = accepted_runs_right (plain_front c.in-Ok.front) c.in-Ok.ensures.accepted 1000

pub left_by-requires : goal.left_by-requires
left_by-requires c = record {
  short = front_short _ None _ (accepts (record { sources = _; front = plain_front c.in-Ok.front })) tt c.in-Ok.ensures.answer;
}

pub told-requires : goal.told-requires
told-requires c = record {
  short = front_short _ None _ (accepts (record { sources = _; front = plain_front c.in-Ok.front })) tt c.in-Ok.ensures.answer;
}
