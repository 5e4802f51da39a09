use Rattle.std.proofs.Common.{refl}
use Rattle.pict_report.specs.Prelude.{prelude_text}
use Rattle.pict_report.proofs.source.prelude.Goals as goal

pub returns-clause-text : goal.returns-clause-text
unfolding prelude_text
returns-clause-text c = refl
