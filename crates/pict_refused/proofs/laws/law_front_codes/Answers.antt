use Rattle.pict_refused.proofs.Fronting.{front_codes_alone}
use Rattle.pict_refused.proofs.laws.law_front_codes.Goals as goal

pub returns : goal.returns
returns c = front_codes_alone
