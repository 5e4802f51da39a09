-- What is told of the definition is so of what stands for the variable.
use Rattle.std.proofs.Common.{sym, ◌∙◌}
use Rattle.pict_types.specs.Entries.{Definition}
use Rattle.pict_types.specs.PlainContext.{plain_context}
use Rattle.pict_types.proofs.Counting.{inside_length}
use Rattle.pict_normal.proofs.Defined.{defined_closed}
use Rattle.pict_normal.proofs.replacement.is_closed_put.Goals as goal

pub definition_is_closed-requires : goal.definition_is_closed-requires
definition_is_closed-requires c =
    let d = c.in-Some.ensures in
    record { entry = inside_length (plain_context c.args.puts.now.context.now) c.in-Some.place (Definition d.arg) d.there }

pub returns-in-Some : goal.returns-in-Some
returns-in-Some c = λ yes.
    let d = c.in-Some.ensures in
    defined_closed c.args.puts.now c.args.inner.now c.args.i c.in-Some.place d (sym (c.definition_is_closed.ensures d.arg d.there) ∙ yes)
