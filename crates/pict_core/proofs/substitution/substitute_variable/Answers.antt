use Rattle.std.proofs.Common.{ap, ◌∙◌, ◌≡◌, subst, IfOk}
use Rattle.pict_core.proofs.Substituting.{variable_within, variable_past, plain_val-Var}
use Rattle.pict_core.specs.Plain.{plain_val}
use Rattle.pict_core.proofs.substitution.substitute_variable.Goals as goal

pub returns-then-index-values : goal.returns-then-index-values
returns-then-index-values c =
    subst (λ v. IfOk c.copy.result (λ r. plain_val r ≡ v)) (ap plain_val c.index-values-index.is ∙ variable_within _ _ _ c.if-index-values.true) c.copy.ensures

pub returns-else-index-values : goal.returns-else-index-values
returns-else-index-values c = plain_val-Var _ ∙ variable_past _ _ c.if-index-values.false
