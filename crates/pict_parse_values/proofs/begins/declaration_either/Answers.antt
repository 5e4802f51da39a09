use Rattle.std.proofs.Common.{◌≡◌, length, ap, sym, ◌∙◌, subst, arith}
use Rattle.std.proofs.lemmas.Bool.Decides.{nat_tests}
use Rattle.pict_syntax.specs.Trees.{no_decs}
use Rattle.pict_syntax.specs.PlainTrees.{decs_on}
use Rattle.pict_automaton.specs.Places.{paren_declarations}
use Rattle.pict_automaton.specs.Machine.{begin_declaration, begin_first}
use Rattle.pict_parse_states.specs.View.{processes_place_of, GivesState}
use Rattle.pict_parse_values.proofs.Behind.{declaration_either_first, declaration_either_behind}
use Rattle.pict_parse_values.proofs.begins.declaration_either.Goals as goal

pub returns-then-is_empty : goal.returns-then-is_empty
returns-then-is_empty c =
    let k = c.args.word in
    let at = c.in-Paren in
    let none : length at.decs.items ≡ 0 = grind (arith, nat_tests) in
    let begun =
    ap (λ p. begin_first k c.args.at at.from p (paren_declarations at.from no_decs p)) c.of_processes-place.ensures
    ∙ sym (declaration_either_first at.decs.items none k c.args.at at.from (processes_place_of at.below)) in
    rw (← c.into_inner.ensures, at.is) (subst (GivesState c.begin_first.result) begun c.begin_first.ensures)

pub returns-in-Paren : goal.returns-in-Paren
returns-in-Paren c =
    let k = c.args.word in
    let at = c.in-Paren in
    let some : length at.decs.items ≡ 0 → ⊥ = λ e. grind (arith, nat_tests) in
    let begun =
    ap (λ p. begin_declaration k c.args.at (paren_declarations at.from (decs_on no_decs at.decs.items) p)) c.of_processes-place.ensures
    ∙ sym (declaration_either_behind at.decs.items some k c.args.at at.from (processes_place_of at.below)) in
    rw (← c.into_inner.ensures, at.is) (subst (GivesState c.begin_declaration.result) begun c.begin_declaration.ensures)
