use Rattle.pict_refused.proofs.Fronting.{gathering_codes_alone}
use Rattle.pict_refused.proofs.laws.law_gathering_codes.Goals as goal

pub returns : goal.returns
returns c = gathering_codes_alone
