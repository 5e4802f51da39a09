use Rattle.std.proofs.Common.{ap, sym, ◌∙◌, subst}
use Rattle.pict_syntax.specs.Trees.{no_decs}
use Rattle.pict_syntax.specs.PlainTrees.{decs_on}
use Rattle.pict_automaton.specs.Places.{paren_declarations}
use Rattle.pict_automaton.specs.Machine.{begin_declaration}
use Rattle.pict_parse_states.specs.View.{place_of, GivesState}
use Rattle.pict_parse_values.proofs.Others.{first_other}
use Rattle.pict_parse_values.proofs.begins.begin_first.Goals as goal

pub returns-in_default : goal.returns-in_default
unfolding decs_on
returns-in_default c =
    let k = c.args.word in
    let o = c.args.from in
    let p = place_of c.args.place in
    let begun =
    ap (λ xs. begin_declaration k c.args.at (paren_declarations o (decs_on no_decs xs) p)) c.new.ensures.items
    ∙ sym (first_other k c.in_default.not-Rec c.args.at o p (paren_declarations o no_decs p)) in
    subst (GivesState c.begin_declaration.result) begun c.begin_declaration.ensures
