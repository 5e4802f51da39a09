use Rattle.pict_rules.proofs.OneAnswer.{one_answer}
use Rattle.pict_rules.proofs.laws.law_one_answer.Goals as goal

pub returns : goal.returns
returns c = λ s e j a b p q. one_answer p q
