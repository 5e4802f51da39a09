use Rattle.pict_ranges.proofs.Running.{free_runs_are_in_range}
use Rattle.pict_ranges.proofs.laws.law_free_runs_are_in_range.Goals as goal

pub returns : goal.returns
returns c = free_runs_are_in_range
