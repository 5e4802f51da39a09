use Rattle.std.proofs.Common.{None}
use Rattle.pict_gather.specs.Phases.{accepts}
use Rattle.pict_front.specs.Answers.{plain_front}
use Rattle.pict_top.proofs.Short.{front_short}
use Rattle.pict_explore.proofs.tell_alone.Goals as goal

pub tell-requires-clause-short : goal.tell-requires-clause-short
tell-requires-clause-short c = front_short _ None _ (accepts (record { sources = _; front = plain_front c.in-Ok.accepted })) tt c.in-Ok.ensures.answer
