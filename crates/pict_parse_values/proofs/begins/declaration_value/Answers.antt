use Rattle.std.proofs.Common.{◌≡◌, length, sym, subst, arith}
use Rattle.std.proofs.lemmas.Bool.Decides.{nat_tests}
use Rattle.pict_parse_states.specs.View.{value_place_of, GivesState}
use Rattle.pict_parse_values.proofs.Behind.{declaration_value_first, declaration_value_behind}
use Rattle.pict_parse_values.proofs.begins.declaration_value.Goals as goal

pub returns-then-is_empty : goal.returns-then-is_empty
returns-then-is_empty c =
    let at = c.in-Waiting-Paren in
    let none : length at.decs.items ≡ 0 = grind (arith, nat_tests) in
    let begun = sym (declaration_value_first at.decs.items none c.args.word c.args.at at.from (value_place_of at.below.value)) in
    rw (← c.into_inner.ensures, at.is, at.field-0-is) (subst (GivesState c.begin_first.result) begun c.begin_first.ensures)

pub returns-in-Waiting-Paren : goal.returns-in-Waiting-Paren
returns-in-Waiting-Paren c =
    let at = c.in-Waiting-Paren in
    let some : length at.decs.items ≡ 0 → ⊥ = λ e. grind (arith, nat_tests) in
    let begun = sym (declaration_value_behind at.decs.items some c.args.word c.args.at at.from (value_place_of at.below.value)) in
    rw (← c.into_inner.ensures, at.is, at.field-0-is) (subst (GivesState c.begin_declaration-else-is_empty.result) begun c.begin_declaration-else-is_empty.ensures)
