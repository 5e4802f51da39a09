use Rattle.std.proofs.Common.{ℕ, ◌≡◌, subst}
use Rattle.pict_desk.specs.Code.{core_in}
use Rattle.pict_turns.specs.declared.turn.Turn.TheVariants.{Node as NodeTurn}
use Rattle.pict_acting.specs.Opening.{OpensFor}
use Rattle.pict_acting.proofs.opening.opening_at_turn.Goals as goal

pub returns-in-Node-clause-some : goal.returns-in-Node-clause-some
returns-in-Node-clause-some c opening b =
    let turns : NodeTurn b.number ≡ NodeTurn c.in-Node.number = cc in
    let same : b.number ≡ c.in-Node.number = cc in
    c.opening_of.ensures.some opening (subst (λ (n : ℕ). OpensFor (core_in c.args.code.now) n opening) same b.opens)
