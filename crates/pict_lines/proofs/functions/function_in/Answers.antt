-- The last positional field is for the answer, or it isn't.
use Rattle.std.proofs.Common.{◌++◌, ◌∙◌, Some, ap, sym}
use Rattle.std.specs.Prelude.{option_to_list}
use Rattle.pict_types.specs.Plain.{plain, plain_bounds, plain_labels}
use Rattle.pict_lines.proofs.HeadForms.{function_none, function_some}
use Rattle.pict_lines.proofs.functions.function_in.Goals as goal

pub returns-in-None-clause-none : goal.returns-in-None-clause-none
returns-in-None-clause-none c =
    function_none (plain_bounds c.args.r.binders.items) (plain_labels c.args.r.labelled.items) c.args.r.positional.items c.pop.new.self.items c.in-Some.last
    (c.pop.ensures.items ∙ ap (λ o. c.pop.new.self.items ++ option_to_list o) c.in-Some.is) c.in-None.ensures.none

pub returns-in_ok-answer-in-Some-messages-clause-some : goal.returns-in_ok-answer-in-Some-messages-clause-some
returns-in_ok-answer-in-Some-messages-clause-some c =
    function_some (plain_bounds c.args.r.binders.items) (plain_labels c.args.r.labelled.items) c.args.r.positional.items c.pop.new.self.items c.in-Some.last (plain c.in_ok-answer-in-Some-messages.answer)
    (c.pop.ensures.items ∙ ap (λ o. c.pop.new.self.items ++ option_to_list o) c.in-Some.is) (c.in-Some-messages.ensures.some ∙ ap Some (sym c.in_ok-answer-in-Some-messages.ensures.same))
