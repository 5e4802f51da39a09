-- The bounds of a context are well formed.
use Rattle.pict_types.specs.PlainContext.{names_of, plain_context}
use Rattle.pict_sub.proofs.subtyping.subtype.Goals as goal
use Rattle.pict_types.proofs.Contexts.{entries_context}

pub is_below-requires-clause-context : goal.is_below-requires-clause-context
is_below-requires-clause-context g c = entries_context (names_of c.args.c.now) (plain_context c.args.c.now) c.args.c.now.formed
