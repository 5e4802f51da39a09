use Rattle.pict_ranges.proofs.Running.{free_runs_fit_lines}
use Rattle.pict_ranges.proofs.laws.law_free_runs_fit_lines.Goals as goal

pub returns : goal.returns
returns c = free_runs_fit_lines
