use Rattle.pict_ranges.proofs.Accepting.{accepted_trace_is_read_back}
use Rattle.pict_ranges.proofs.laws.law_accepted_trace_is_read_back.Goals as goal

pub returns : goal.returns
returns c = accepted_trace_is_read_back
