-- What is known is in the context.
use Rattle.pict_lines.proofs.steps.unfolded.Goals as goal

pub unfolded-requires : goal.unfolded-requires
unfolded-requires c = record { recursive = c.requires.recursive; t = rw (c.context.ensures.names, c.context.ensures.entries) c.requires.t }

pub returns-clause-answer : goal.returns-clause-answer
returns-clause-answer c = rw (c.context.ensures.entries) at c.unfolded.ensures.answer

pub returns-clause-formed : goal.returns-clause-formed
returns-clause-formed c = rw (c.context.ensures.names, c.context.ensures.entries) at c.unfolded.ensures.formed
