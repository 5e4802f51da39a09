use Rattle.std.proofs.Common.{rules}
use Rattle.pict_syntax.proofs.TypeLists.{fields_type_is, labelled_types_none}
use Rattle.pict_parse_binding.proofs.TypeOthers.{types_other}
use Rattle.pict_parse_binding.proofs.types.step_types.Goals as goal

pub returns-in-Sign-CloseBracket : goal.returns-in-Sign-CloseBracket
returns-in-Sign-CloseBracket c =
    let closed = rw (fields_type_is c.join.result c.args.binders c.args.types c.new.result, c.join.ensures, c.new.ensures.items, labelled_types_none) at c.put_type.ensures in
    search rules

pub returns-in_ok-place-in_default : goal.returns-in_ok-place-in_default
returns-in_ok-place-in_default c =
    rw (types_other c.args.kind.now (λ e. search rules) (λ m e. search rules))
    (rw c.in_ok-place-in_default.ensures.ok at c.begin_type.ensures)
