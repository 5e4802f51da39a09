-- What is known is in the context.
use Rattle.pict_lines.proofs.steps.below.Goals as goal

pub below-requires : goal.below-requires
below-requires c = record { s = rw (c.context.ensures.names, c.context.ensures.entries) c.requires.s; t = rw (c.context.ensures.names, c.context.ensures.entries) c.requires.t }

pub returns : goal.returns
returns c = rw (c.context.ensures.entries) at c.below.ensures
