use Rattle.pict_top.proofs.Sited.{one_site_runs_as_text}
use Rattle.pict_top.proofs.laws.law_one_site_runs_as_text.Goals as goal

pub returns : goal.returns
returns c = one_site_runs_as_text
