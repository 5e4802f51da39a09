use Rattle.std.proofs.Common.{rules}
use Rattle.pict_parse_binding.proofs.PatternOthers.{pattern_rec_other}
use Rattle.pict_parse_binding.proofs.patterns.step_pattern_rec.Goals as goal

pub returns-in_ok-place-in_default : goal.returns-in_ok-place-in_default
returns-in_ok-place-in_default c =
    rw (pattern_rec_other c.args.kind.now (λ e. search rules))
    (rw c.in_ok-place-in_default.ensures.ok at c.begin_pattern.ensures)
