use Rattle.std.proofs.Common.{rules}
use Rattle.pict_syntax.proofs.TypeLists.{binders_none}
use Rattle.pict_parse_binding.proofs.PatternOthers.{abstraction_open_other}
use Rattle.pict_parse_binding.proofs.abstractions.step_abstraction_open.Goals as goal

pub returns-in_ok-place-in_default : goal.returns-in_ok-place-in_default
returns-in_ok-place-in_default c =
    rw (abstraction_open_other c.args.kind.now (λ e. search rules))
    (rw (c.in_ok-place-in_default.ensures.ok, c.new-in_default-2.ensures.items, binders_none) at c.step_binders.ensures)
