use Rattle.std.proofs.Common.{rules}
use Rattle.pict_parse_values.proofs.Others.{fresh_name_other}
use Rattle.pict_parse_values.proofs.steps.step_fresh_name.Goals as goal

pub returns-in_default : goal.returns-in_default
returns-in_default c =
    rw (fresh_name_other c.args.kind.now (λ e. search rules) (λ e. search rules)) c.step_used.ensures
