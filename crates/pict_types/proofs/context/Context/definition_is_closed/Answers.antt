-- What is read is of the definition.
use Rattle.std.proofs.Common.{◌≡◌, Bool, List, length, reverse, ◌∙◌, ap, arith}
use Rattle.pict_types.specs.declared.context.Context.{Context}
use Rattle.pict_types.specs.PlainContext.{plain_context}
use Rattle.pict_types.proofs.EntryMeasures.{count_closed, definition_closed}
use Rattle.pict_types.proofs.context.Context.definition_is_closed.Goals as goal

closed_there : (c : Context) (bs : List Bool) → bs ≡ c.closed.items → length bs ≡ length (plain_context c)
closed_there c bs e = ap length e ∙ count_closed c.closed.items (plain_context c) c.entries_closed

pub overflow_sub-result : goal.overflow_sub-result
overflow_sub-result c = omega (arith, closed_there c.args.self.now c.as_slice-closed.result.now c.as_slice-closed.ensures.value, c.requires.entry)

pub returns : goal.returns
returns c = λ a is.
    let s = c.args.self.now in
    let bs = c.as_slice-closed.result.now in
    definition_closed bs (plain_context s) c.args.i _ a (ap reverse c.as_slice-closed.ensures.value ∙ s.entries_closed) (omega (arith, closed_there s bs c.as_slice-closed.ensures.value, c.requires.entry)) is
