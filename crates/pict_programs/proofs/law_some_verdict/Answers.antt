-- The imports are read, and then the declarations.
use Rattle.pict_programs.proofs.Some.{some_verdict}
use Rattle.pict_programs.proofs.law_some_verdict.Goals as goal

pub returns : goal.returns
returns c = some_verdict
