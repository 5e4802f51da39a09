-- What is known is in the context.
use Rattle.pict_lines.proofs.steps.expanded.Goals as goal

pub returns-clause-answer : goal.returns-clause-answer
returns-clause-answer c = rw (c.context.ensures.names, c.context.ensures.entries) at c.expanded.ensures.answer

pub returns-clause-formed : goal.returns-clause-formed
returns-clause-formed c = rw (c.context.ensures.names, c.context.ensures.entries) at c.expanded.ensures.formed
