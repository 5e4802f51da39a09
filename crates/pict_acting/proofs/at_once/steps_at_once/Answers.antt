use Rattle.std.proofs.Common.{ap, ◌∙◌, ◌≡◌, ◌≤◌, Ok, sym, subst}
use Rattle.std.proofs.lemmas.Option.{none-some}
use Rattle.pict_desk.specs.Code.{core_in}
use Rattle.pict_acting.specs.Chain.{MakesCall}
use Rattle.pict_acting.specs.declared.chain.Received.{Received as AnyReceived}
use Rattle.pict_acting.proofs.at_once.steps_at_once.Goals as goal

pub returns-in-None-clause-misses : goal.returns-in-None-clause-misses
returns-in-None-clause-misses c e few b =
    let there = c.opening_at_turn.ensures.some b.opening b.begins in
    none-some b.opening (sym c.in-None.is ∙ there)

pub returns-in-Some-2-clause-called : goal.returns-in-Some-2-clause-called
returns-in-Some-2-clause-called c received e =
    let same : c.in-Some-2.received ≡ received = cc in
    subst (λ (r : AnyReceived). (5 ≤ c.args.most) × MakesCall (core_in c.args.code.now) c.args.store.now c.call_from.new.store r) same
    (c.call_from.ensures.called c.in-Some-2.received (c.in_ok-received.was ∙ ap Ok c.in-Some-2.is))
