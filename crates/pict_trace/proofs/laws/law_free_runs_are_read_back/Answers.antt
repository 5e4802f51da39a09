use Rattle.pict_trace.proofs.ReadBack.{free_runs_are_read_back}
use Rattle.pict_trace.proofs.laws.law_free_runs_are_read_back.Goals as goal

pub returns : goal.returns
returns c = free_runs_are_read_back
