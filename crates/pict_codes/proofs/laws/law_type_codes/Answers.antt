use Rattle.pict_codes.proofs.Origins.{type_codes_alone}
use Rattle.pict_codes.proofs.laws.law_type_codes.Goals as goal

pub returns : goal.returns
returns c = type_codes_alone
