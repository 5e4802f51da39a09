use Rattle.std.proofs.Common.{◌≡◌, length, ap, sym, ◌∙◌, subst, arith}
use Rattle.std.proofs.lemmas.Bool.Decides.{nat_tests}
use Rattle.pict_syntax.specs.Trees.{no_types}
use Rattle.pict_syntax.specs.PlainTrees.{val_of, types_on}
use Rattle.pict_automaton.specs.Places.{in_apply}
use Rattle.pict_automaton.specs.Machine.{step_arguments_of}
use Rattle.pict_parse_states.specs.View.{place_of, fields_place_of, GivesState}
use Rattle.pict_parse_values.proofs.Behind.{first_none, first_some}
use Rattle.pict_parse_values.proofs.steps.step_first.Goals as goal

pub returns-in_ok-place : goal.returns-in_ok-place
unfolding types_on
returns-in_ok-place c =
    let k = c.args.kind.now in
    let i = c.args.at in
    let o = c.args.from in
    let v = val_of c.args.val in
    let none : length c.args.decs.items ≡ 0 = grind (arith, nat_tests) in
    let stepped =
    ap (λ p. step_arguments_of k i (fields_place_of p) (types_on no_types c.new-then-is_empty.result.items)) c.in_ok-place.ensures.ok
    ∙ ap (λ ts. step_arguments_of k i (in_apply o v (place_of c.args.place)) (types_on no_types ts)) c.new-then-is_empty.ensures.items
    ∙ sym (first_none c.args.decs.items none k i v o (place_of c.args.place)) in
    subst (GivesState c.step_arguments.result) stepped c.step_arguments.ensures

pub returns-else-is_empty : goal.returns-else-is_empty
returns-else-is_empty c =
    let some : length c.args.decs.items ≡ 0 → ⊥ = λ e. grind (arith, nat_tests) in
    first_some c.args.decs.items some c.args.kind.now c.args.at (val_of c.args.val) c.args.from (place_of c.args.place)
