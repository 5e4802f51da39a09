use Rattle.pict_top.specs.declared.status.Status.TheVariants.{Memory}
use Rattle.pict_web.proofs.reasons.pict_web_reasons.Goals as goal

pub returns-in-Ok-clause-reasoned : goal.returns-in-Ok-clause-reasoned
returns-in-Ok-clause-reasoned c = (c.in-Ok.reasons.status, c.number.ensures, c.in-Ok.ensures)

pub returns-in-Err-clause-reasoned : goal.returns-in-Err-clause-reasoned
returns-in-Err-clause-reasoned c = (Memory, c.number-in-Err.ensures, tt)
