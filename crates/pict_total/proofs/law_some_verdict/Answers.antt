-- Reading the tokens comes to a verdict.
use Rattle.pict_total.proofs.Judged.{some_verdict}
use Rattle.pict_total.proofs.law_some_verdict.Goals as goal

pub returns : goal.returns
returns c = some_verdict
