use Rattle.pict_trace.proofs.ReadBack.{runs_are_read_back}
use Rattle.pict_trace.proofs.laws.law_runs_are_read_back.Goals as goal

pub returns : goal.returns
returns c = runs_are_read_back
