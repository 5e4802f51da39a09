-- What is known is in the context.
use Rattle.pict_lines.proofs.steps.within_limits.Goals as goal

pub returns : goal.returns
returns c = rw (c.context.ensures.entries) at c.within_limits.ensures
