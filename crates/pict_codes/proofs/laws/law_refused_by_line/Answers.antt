use Rattle.pict_codes.proofs.Origins.{refused_by_line}
use Rattle.pict_codes.proofs.laws.law_refused_by_line.Goals as goal

pub returns : goal.returns
returns c = refused_by_line
