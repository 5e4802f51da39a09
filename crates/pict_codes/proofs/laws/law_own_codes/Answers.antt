use Rattle.pict_codes.proofs.Own.{own_codes_alone}
use Rattle.pict_codes.proofs.laws.law_own_codes.Goals as goal

pub returns : goal.returns
returns c = own_codes_alone
