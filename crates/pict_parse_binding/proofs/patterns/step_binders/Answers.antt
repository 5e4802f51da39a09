use Rattle.std.proofs.Common.{rules}
use Rattle.pict_syntax.proofs.PatternLists.{pats_none}
use Rattle.pict_parse_binding.proofs.PatternOthers.{binders_other}
use Rattle.pict_parse_binding.proofs.patterns.step_binders.Goals as goal

pub returns-in_default : goal.returns-in_default
returns-in_default c =
    rw (binders_other c.args.kind.now (λ e. search rules))
    (rw (c.new-in_default.ensures.items, pats_none) at c.step_patterns.ensures)
