-- The channel for the answer is bound last among the positional fields.
use Rattle.std.proofs.Common.{◌∙◌}
use Rattle.pict_derive.proofs.PatternForms.{function_is, before_is, after_is}
use Rattle.pict_derive.proofs.patterns.open_function.Goals as goal

pub returns-clause-pattern : goal.returns-clause-pattern
returns-clause-pattern c =
    function_is c.args.names.now c.args.parts.now c.in_ok-positional.positional.patterns c.push.new.self _ (rw c.deref.ensures.value at c.in_ok-positional.ensures.patterns) (rw c.deref-2.ensures.value at c.in_ok-labelled.ensures.patterns) c.in_ok-push.ensures.items

pub returns-clause-before : goal.returns-clause-before
returns-clause-before c = rw c.deref.ensures.value at c.in_ok-positional.ensures.names ∙ before_is c.args.names.now c.args.parts.now

pub returns-clause-after : goal.returns-clause-after
returns-clause-after c = rw c.deref-2.ensures.value at c.in_ok-labelled.ensures.names ∙ after_is c.args.names.now c.args.parts.now
