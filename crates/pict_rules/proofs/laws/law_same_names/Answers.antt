use Rattle.pict_rules.proofs.ReachedNames.{same_names}
use Rattle.pict_rules.proofs.laws.law_same_names.Goals as goal

pub returns : goal.returns
returns c = same_names
