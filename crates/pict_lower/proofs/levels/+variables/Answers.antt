use Rattle.std.proofs.Common.{◌≡◌, ℕ, ◌||◌, ◌==◌, [], ◌∷◌, map, ap, sym, ◌∙◌}
use Rattle.pict_core.specs.Plain.{plain_val, plain_field, vals_of, labelled_of}
use Rattle.pict_code.specs.Frames.{in_value, in_values, in_labelled}
use Rattle.pict_code.specs.Levels.{has}
use Rattle.pict_lower.proofs.Collected.{one_variable, record_variables}
use Rattle.pict_lower.proofs.levels.+variables.Goals as goal
use Rattle.pict_syntax.proofs.ListLemmas.{on_ok}

pub variables-returns-in_ok-push-in-Var : goal.variables-returns-in_ok-push-in-Var
variables-returns-in_ok-push-in-Var t c = one_variable c.args.levels.now.items c.push.new.self.items c.args.value.now c.in-Var.level c.in-Var.is c.in_ok-push-in-Var.ensures.items

pub variables-returns-in_ok-field_variables-in-Fields : goal.variables-returns-in_ok-field_variables-in-Fields
variables-returns-in_ok-field_variables-in-Fields t c =
    on_ok c.labelled_variables.result
    (λ second. record_variables c.args.levels.now.items c.field_variables.new.levels.items c.labelled_variables.new.levels.items c.args.value.now c.in-Fields.positional c.in-Fields.labelled
    c.deref.result.now c.deref-in-Fields.result.now c.in-Fields.is c.deref.ensures.value c.deref-in-Fields.ensures.value c.in_ok-field_variables-in-Fields.ensures second)
    c.labelled_variables.ensures
