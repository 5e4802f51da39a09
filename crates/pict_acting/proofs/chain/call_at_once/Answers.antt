use Rattle.std.proofs.Common.{arith}
use Rattle.pict_acting.proofs.chain.call_at_once.Goals as goal

pub returns-in-Some-clause-cost : goal.returns-in-Some-clause-cost
returns-in-Some-clause-cost c =
    let least = c.call_from.ensures.cost.least in
    let most = c.call_from.ensures.cost.most in
    record { least = least; most = omega (arith, most) }
