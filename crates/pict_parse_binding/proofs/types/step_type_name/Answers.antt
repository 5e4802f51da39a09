use Rattle.std.proofs.Common.{rules}
use Rattle.pict_syntax.specs.PlainTrees.{type_of}
use Rattle.pict_syntax.proofs.TypeLists.{types_more}
use Rattle.pict_parse_binding.proofs.TypeOthers.{type_name_other}
use Rattle.pict_parse_binding.proofs.types.step_type_name.Goals as goal

pub returns-in_ok-push-in_default : goal.returns-in_ok-push-in_default
unfolding type_of
returns-in_ok-push-in_default c =
    rw (type_name_other c.args.kind.now (λ e. search rules))
    (rw (c.in_ok-push-in_default.ensures.items, types_more) at c.step_types.ensures)
