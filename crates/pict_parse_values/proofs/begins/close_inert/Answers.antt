use Rattle.std.proofs.Common.{◌≡◌, length, ap, sym, ◌∙◌, subst, arith}
use Rattle.std.proofs.lemmas.Bool.Decides.{nat_tests}
use Rattle.pict_syntax.specs.Trees.{inert_proc}
use Rattle.pict_syntax.specs.PlainTrees.{proc_of}
use Rattle.pict_automaton.specs.Machine.{put_processes}
use Rattle.pict_parse_states.specs.View.{processes_place_of, GivesState}
use Rattle.pict_parse_values.proofs.Behind.{close_inert_first, close_inert_behind}
use Rattle.pict_parse_values.proofs.begins.close_inert.Goals as goal

pub returns-then-is_empty : goal.returns-then-is_empty
unfolding proc_of
returns-then-is_empty c =
    let at = c.in-Paren in
    let none : length at.decs.items ≡ 0 = grind (arith, nat_tests) in
    let put =
    ap (λ s. put_processes (inert_proc s) (processes_place_of at.below)) c.join.ensures
    ∙ sym (close_inert_first at.decs.items none c.args.at at.from (processes_place_of at.below)) in
    rw (← c.into_inner.ensures, at.is) (subst (GivesState c.put_processes.result) put c.put_processes.ensures)

pub returns-in-Paren : goal.returns-in-Paren
returns-in-Paren c =
    let at = c.in-Paren in
    let some : length at.decs.items ≡ 0 → ⊥ = λ e. grind (arith, nat_tests) in
    rw (← c.into_inner.ensures, at.is) (close_inert_behind at.decs.items some c.args.at at.from (processes_place_of at.below))
