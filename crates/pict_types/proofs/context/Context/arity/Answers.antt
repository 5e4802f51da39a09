-- The arity of the entry that stands at the place.
use Rattle.std.proofs.Common.{◌∙◌, sym, ap}
use Rattle.pict_types.specs.PlainContext.{plain_context}
use Rattle.pict_types.specs.PlainEntries.{plain_what}
use Rattle.pict_types.specs.Places.{arity}
use Rattle.pict_types.proofs.Places.{arity_is, arity_past}
use Rattle.pict_types.proofs.context.Context.arity.Goals as goal

pub returns-in-None : goal.returns-in-None
returns-in-None c = sym (arity_past (plain_context c.args.self.now) c.args.i c.in-None.ensures.none)

pub returns-in-Some-Variable : goal.returns-in-Some-Variable
returns-in-Some-Variable c =
    c.arity.ensures
    ∙ sym (arity_is (plain_context c.args.self.now) c.args.i (plain_what c.in-Some-Variable.field-0.now) c.in-Some-Variable.ensures.some ∙ ap (λ w. arity (plain_what w)) c.in-Some-Variable.field-0-is)

pub returns-in-Some-Definition : goal.returns-in-Some-Definition
returns-in-Some-Definition c =
    c.arity-in-Some-Definition.ensures
    ∙ sym (arity_is (plain_context c.args.self.now) c.args.i (plain_what c.in-Some-Definition.field-0.now) c.in-Some-Definition.ensures.some ∙ ap (λ w. arity (plain_what w)) c.in-Some-Definition.field-0-is)
