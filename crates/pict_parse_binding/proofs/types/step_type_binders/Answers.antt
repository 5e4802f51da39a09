use Rattle.std.proofs.Common.{rules}
use Rattle.pict_syntax.proofs.TypeLists.{types_none}
use Rattle.pict_parse_binding.proofs.TypeOthers.{type_binders_other}
use Rattle.pict_parse_binding.proofs.types.step_type_binders.Goals as goal

pub returns-in_default : goal.returns-in_default
returns-in_default c =
    rw (type_binders_other c.args.kind.now (λ e. search rules))
    (rw (c.new-in_default.ensures.items, types_none) at c.step_types.ensures)
