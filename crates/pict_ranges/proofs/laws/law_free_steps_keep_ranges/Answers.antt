use Rattle.pict_ranges.proofs.Steps.{free_steps_keep_ranges}
use Rattle.pict_ranges.proofs.laws.law_free_steps_keep_ranges.Goals as goal

pub returns : goal.returns
returns c = free_steps_keep_ranges
