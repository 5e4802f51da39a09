use Rattle.pict_rules.proofs.Worked.{worked_texts}
use Rattle.pict_rules.proofs.laws.law_worked_texts.Goals as goal

pub returns : goal.returns
returns c = worked_texts
