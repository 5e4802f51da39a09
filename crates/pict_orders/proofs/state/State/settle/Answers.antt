use Rattle.std.proofs.Common.{arith}
use Rattle.pict_orders.proofs.Quietly.{stays_quietly, settled_all, settled_full, settled_more}
use Rattle.pict_orders.proofs.state.State.settle.Goals as goal

pub loop-round-init : goal.loop-round-init
loop-round-init c = record { grows = omega arith; leads = λ is. stays_quietly _ _ is }

pub returns-in-Still-clause-settled : goal.returns-in-Still-clause-settled
returns-in-Still-clause-settled c = λ is t. settled_all _ _ _ _ _ _ _ (c.loop-round.invariant.leads is) c.in_ok-settle_once.ensures.settles c.in-Still.is

pub returns-in-NoRoom-clause-full : goal.returns-in-NoRoom-clause-full
returns-in-NoRoom-clause-full c = λ is t. settled_full _ _ _ _ _ _ _ (c.loop-round.invariant.leads is) c.in_ok-settle_once.ensures.settles c.in-NoRoom.is

pub loop-round-preserved : goal.loop-round-preserved
loop-round-preserved c = record {
  grows = omega (arith, c.loop-round.invariant.grows, c.in_ok-settle_once.ensures.grows c.in-Stepped.is);
  leads = λ is. settled_more _ _ _ _ _ _ _ (c.loop-round.invariant.leads is) c.in_ok-settle_once.ensures.settles c.in-Stepped.is;
}

-- a list has fewer items than there are rounds
pub unreachable-requires : goal.unreachable-requires
unreachable-requires c = omega (arith, c.loop-round.invariant.grows, c.loop-round.choices.small, c.loop-round.choices.ok.1)
