use Rattle.std.proofs.Common.{rules}
use Rattle.pict_syntax.proofs.TypeLists.{fields_type_is}
use Rattle.pict_parse_binding.proofs.types.step_type_labels.Goals as goal

pub returns-in-Sign-CloseBracket : goal.returns-in-Sign-CloseBracket
returns-in-Sign-CloseBracket c =
    let closed = rw (fields_type_is c.join.result c.args.binders c.args.types c.args.labels, c.join.ensures) at c.put_type.ensures in
    search rules
