use Rattle.std.proofs.Common.{rules}
use Rattle.pict_parse_binding.proofs.PatternOthers.{binder_kind_other}
use Rattle.pict_parse_binding.proofs.binders.step_binder_kind.Goals as goal

pub returns-in_default : goal.returns-in_default
returns-in_default c =
    rw (binder_kind_other c.args.kind.now (λ e. search rules))
    (rw c.join.ensures at c.step_binder.ensures)
