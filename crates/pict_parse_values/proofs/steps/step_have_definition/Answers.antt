use Rattle.std.proofs.Common.{rules}
use Rattle.pict_syntax.proofs.DeclarationLists.{definitions_more}
use Rattle.pict_syntax.proofs.ValueLists.{def_is}
use Rattle.pict_parse_values.proofs.Others.{have_definition_other}
use Rattle.pict_parse_values.proofs.steps.step_have_definition.Goals as goal

pub returns-in_ok-place-in_default : goal.returns-in_ok-place-in_default
returns-in_ok-place-in_default c =
    let behind = rw (def_is, c.join.ensures, c.abs_span-end.ensures, c.in_ok-push.ensures.items, definitions_more) at c.in_ok-place-in_default.ensures in
    rw (have_definition_other c.args.kind.now (λ e. search rules))
    (rw behind at c.step_need.ensures)
