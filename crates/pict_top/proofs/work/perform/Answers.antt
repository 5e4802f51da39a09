use Rattle.std.proofs.Common.{[], refl}
use Rattle.pict_outside.proofs.Gaining.{keeps_same, appends_nothing}
use Rattle.pict_core.specs.Plain.{plain_core}
use Rattle.pict_top.proofs.Right.{runs_right}
use Rattle.pict_top.proofs.work.perform.Goals as goal

pub run_core-requires-clause-right : goal.run_core-requires-clause-right
run_core-requires-clause-right g c = runs_right (plain_core c.args.front.core) c.requires.closed c.requires.right _

pub run_core-requires-in-Trace-clause-right : goal.run_core-requires-in-Trace-clause-right
run_core-requires-in-Trace-clause-right g c = runs_right (plain_core c.args.front.core) c.requires.closed c.requires.right _

pub sum_up-requires-clause-right : goal.sum_up-requires-clause-right
sum_up-requires-clause-right g c = runs_right (plain_core c.args.front.core) c.requires.closed c.requires.right _

pub returns-in-Check-clause-done : goal.returns-in-Check-clause-done
returns-in-Check-clause-done g c = rw (c.in-Check.is) (record { bytes = []; does = record { done = refl; nothing = refl }; written = appends_nothing _ _ (keeps_same _) })

pub returns-in-Replay-clause-done : goal.returns-in-Replay-clause-done
returns-in-Replay-clause-done g c = rw (c.in-Replay.is) (record { bytes = []; does = record { done = refl; nothing = refl }; written = appends_nothing _ _ (keeps_same _) })
