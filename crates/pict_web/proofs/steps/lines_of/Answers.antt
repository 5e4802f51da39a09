use Rattle.pict_web.proofs.Stepping.{written}
use Rattle.pict_web.proofs.steps.lines_of.Goals as goal

pub returns : goal.returns
returns c = written _ _ _ c.in_ok-run.run' c.lines.result c.in_ok-run.ensures c.lines.ensures.text
