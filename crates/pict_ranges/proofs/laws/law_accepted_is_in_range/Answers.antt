use Rattle.pict_ranges.proofs.Accepting.{accepted_is_in_range}
use Rattle.pict_ranges.proofs.laws.law_accepted_is_in_range.Goals as goal

pub returns : goal.returns
returns c = accepted_is_in_range
