use Rattle.pict_unused.proofs.Saying.{only_certain_is_said}
use Rattle.pict_unused.proofs.laws.law_only_certain_is_said.Goals as goal

pub returns : goal.returns
returns c = only_certain_is_said
