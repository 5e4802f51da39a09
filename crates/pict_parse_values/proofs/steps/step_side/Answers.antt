use Rattle.std.proofs.Common.{rules}
use Rattle.pict_parse_values.proofs.Others.{side_other}
use Rattle.pict_parse_values.proofs.steps.step_side.Goals as goal

pub returns-in_ok-place-in_default : goal.returns-in_ok-place-in_default
returns-in_ok-place-in_default c =
    rw (side_other c.args.kind.now (λ e. search rules))
    (rw c.in_ok-place-in_default.ensures.ok at c.begin_value.ensures)
