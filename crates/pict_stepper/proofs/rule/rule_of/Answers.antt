use Rattle.std.proofs.Common.{◌∙◌}
use Rattle.pict_stepper.proofs.Rows.{rule_is}
use Rattle.pict_stepper.proofs.rule.rule_of.Goals as goal

pub returns : goal.returns
returns c = λ C D s label row. c.by_form.ensures ∙ rule_is C s _ _ D label row
