use Rattle.pict_rules.proofs.TypedOrStuck.{some_answer}
use Rattle.pict_rules.proofs.laws.law_some_answer.Goals as goal

pub returns : goal.returns
returns c = some_answer
