use Rattle.std.proofs.Common.{◌≡◌, length, ap, sym, ◌∙◌, arith}
use Rattle.std.proofs.lemmas.Bool.Decides.{nat_tests}
use Rattle.pict_syntax.specs.PlainTrees.{chan_of}
use Rattle.pict_automaton.specs.Places.{fresh_name}
use Rattle.pict_automaton.specs.Machine.{id}
use Rattle.pict_parse_states.specs.View.{processes_place_of}
use Rattle.pict_parse_values.proofs.Behind.{name_either_first, name_either_behind}
use Rattle.pict_parse_values.proofs.begins.name_either.Goals as goal

pub returns-then-is_empty : goal.returns-then-is_empty
returns-then-is_empty c =
    let at = c.in-Paren in
    let none : length at.decs.items ≡ 0 = grind (arith, nat_tests) in
    rw (← c.into_inner.ensures, at.is)
    (ap (fresh_name at.from (id c.args.name c.args.at)) c.of_processes.ensures
    ∙ sym (name_either_first at.decs.items none c.args.name c.args.at at.from (processes_place_of at.below)))

pub returns-in_ok-place-in-Paren : goal.returns-in_ok-place-in-Paren
unfolding chan_of
returns-in_ok-place-in-Paren c =
    let at = c.in-Paren in
    let some : length at.decs.items ≡ 0 → ⊥ = λ e. grind (arith, nat_tests) in
    rw (← c.into_inner.ensures, at.is, c.in_ok-place-in-Paren.ensures.ok)
    (sym (name_either_behind at.decs.items some c.args.name c.args.at at.from (processes_place_of at.below)))
