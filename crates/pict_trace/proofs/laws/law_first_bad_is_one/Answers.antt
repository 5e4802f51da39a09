use Rattle.pict_trace.proofs.Ends.{first_bad_is_one}
use Rattle.pict_trace.proofs.laws.law_first_bad_is_one.Goals as goal

pub returns : goal.returns
returns c = first_bad_is_one
