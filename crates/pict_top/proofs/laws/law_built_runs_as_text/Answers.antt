use Rattle.pict_top.proofs.Building.{built_runs_as_text}
use Rattle.pict_top.proofs.laws.law_built_runs_as_text.Goals as goal

pub returns : goal.returns
returns c = built_runs_as_text
