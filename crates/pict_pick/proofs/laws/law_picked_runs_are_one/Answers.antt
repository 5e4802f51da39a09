use Rattle.pict_pick.proofs.OneRun.{picked_runs_are_one}
use Rattle.pict_pick.proofs.laws.law_picked_runs_are_one.Goals as goal

pub returns : goal.returns
returns c = picked_runs_are_one
