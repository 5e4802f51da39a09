use Rattle.std.proofs.Common.{rules}
use Rattle.pict_syntax.specs.PlainTrees.{val_of}
use Rattle.pict_syntax.proofs.ValueLists.{vals_more}
use Rattle.pict_parse_values.proofs.Others.{value_name_other}
use Rattle.pict_parse_values.proofs.steps.step_value_name.Goals as goal

pub returns-in_ok-push-in_default : goal.returns-in_ok-push-in_default
unfolding val_of
returns-in_ok-push-in_default c =
    rw (value_name_other c.args.kind.now (λ e. search rules))
    (rw (c.in_ok-push-in_default.ensures.items, vals_more) at c.step_values.ensures)
