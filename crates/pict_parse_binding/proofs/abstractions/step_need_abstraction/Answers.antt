use Rattle.std.proofs.Common.{rules}
use Rattle.pict_parse_binding.proofs.PatternOthers.{need_abstraction_other}
use Rattle.pict_parse_binding.proofs.abstractions.step_need_abstraction.Goals as goal

pub returns-in_ok-place-in_default : goal.returns-in_ok-place-in_default
returns-in_ok-place-in_default c =
    rw (need_abstraction_other c.args.kind.now (λ e. search rules))
    (rw c.in_ok-place-in_default.ensures.ok at c.begin_pattern.ensures)
