use Rattle.std.proofs.Common.{◌==◌, ap, sym, ◌∙◌, subst, rules}
use Rattle.pict_parse_states.specs.View.{type_place_of, GivesState}
use Rattle.pict_syntax.proofs.TypeLists.{apply_type_is}
use Rattle.pict_parse_binding.proofs.TypeOthers.{operator_arguments_other, no_type_arguments, some_type_arguments}
use Rattle.pict_parse_binding.proofs.types.step_operator_arguments.Goals as goal

pub returns-then-is_empty : goal.returns-then-is_empty
returns-then-is_empty c =
    let closed = no_type_arguments c.args.types.items c.is_empty.result (c.is_empty.ensures ∙ ap (λ n. n == 0) c.args.types.ok.0) c.if-is_empty.true c.args.at c.args.from c.args.id (type_place_of c.args.place.value) in
    search rules

pub returns-else-is_empty : goal.returns-else-is_empty
returns-else-is_empty c =
    let some = some_type_arguments c.args.types.items c.is_empty.result (c.is_empty.ensures ∙ ap (λ n. n == 0) c.args.types.ok.0) c.if-is_empty.false c.args.at c.args.from c.args.id (type_place_of c.args.place.value) in
    let put = rw (apply_type_is c.join.result c.args.id c.args.types, c.join.ensures) at c.put_type.ensures in
    let closed = subst (GivesState c.put_type.result) (sym some) put in
    search rules

pub returns-in_ok-place-in_default : goal.returns-in_ok-place-in_default
returns-in_ok-place-in_default c =
    rw (operator_arguments_other c.args.kind.now (λ e. search rules))
    (rw c.in_ok-place-in_default.ensures.ok at c.begin_type.ensures)
