use Rattle.pict_codes.proofs.Scoping.{scope_codes_alone}
use Rattle.pict_codes.proofs.laws.law_scope_codes.Goals as goal

pub returns : goal.returns
returns c = scope_codes_alone
