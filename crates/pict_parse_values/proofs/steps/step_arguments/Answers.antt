use Rattle.std.proofs.Common.{rules}
use Rattle.pict_syntax.proofs.ValueLists.{vals_none}
use Rattle.pict_parse_values.proofs.Others.{arguments_other}
use Rattle.pict_parse_values.proofs.steps.step_arguments.Goals as goal

pub returns-in_default : goal.returns-in_default
returns-in_default c =
    rw (arguments_other c.args.kind.now (λ e. search rules))
    (rw (c.new-in_default.ensures.items, vals_none) at c.step_values.ensures)
