use Rattle.pict_codes.proofs.Origins.{variance_code}
use Rattle.pict_codes.proofs.laws.law_variance_code.Goals as goal

pub returns : goal.returns
returns c = variance_code
