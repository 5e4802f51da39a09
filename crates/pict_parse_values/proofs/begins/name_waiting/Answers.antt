use Rattle.std.proofs.Common.{◌≡◌, length, sym, arith}
use Rattle.std.proofs.lemmas.Bool.Decides.{nat_tests}
use Rattle.pict_syntax.specs.PlainTrees.{val_of}
use Rattle.pict_parse_states.specs.View.{value_place_of}
use Rattle.pict_parse_values.proofs.Others.{name_waiting_other}
use Rattle.pict_parse_values.proofs.Behind.{name_value_first, name_value_behind}
use Rattle.pict_parse_values.proofs.begins.name_waiting.Goals as goal

pub returns-then-is_empty : goal.returns-then-is_empty
returns-then-is_empty c =
    let at = c.in-Paren in
    let none : length at.decs.items ≡ 0 = grind (arith, nat_tests) in
    rw at.is (sym (name_value_first at.decs.items none c.args.name c.args.at at.from (value_place_of at.below.value)))

pub returns-else-is_empty : goal.returns-else-is_empty
unfolding val_of
returns-else-is_empty c =
    let at = c.in-Paren in
    let some : length at.decs.items ≡ 0 → ⊥ = λ e. grind (arith, nat_tests) in
    rw at.is (sym (name_value_behind at.decs.items some c.args.name c.args.at at.from (value_place_of at.below.value)))

pub returns-in_default : goal.returns-in_default
unfolding val_of
returns-in_default c = sym (name_waiting_other c.args.wait c.in_default.not-Paren c.args.name c.args.at)
