use Rattle.pict_codes.proofs.Expanding.{kind_codes_alone}
use Rattle.pict_codes.proofs.laws.law_kind_codes.Goals as goal

pub returns : goal.returns
returns c = kind_codes_alone
