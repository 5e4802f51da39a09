use Rattle.std.proofs.Common.{◌≤◌, ◌+◌, ◌*◌, length, refl, sym, subst, arith}
use Rattle.pict_region.specs.RegionState.{spare}
use Rattle.pict_blocks.specs.Framed.{gathered, node_words}
use Rattle.pict_blocks.specs.Writing.{IsMade}
use Rattle.pict_prim.specs.Acts.{UsesNeed}
use Rattle.pict_desk.proofs.Making.{keeps_all, pile_kept}
use Rattle.pict_blocks.proofs.Costs.{costs_up}
use Rattle.pict_blocks.proofs.Holding.{narrow_holds, width_narrow}
use Rattle.pict_desk.proofs.MakingRoom.{need_narrow, uses_nothing}
use Rattle.pict_blocks.proofs.parts.make_narrow.Goals as goal

pub block_of-requires-clause-spare : goal.block_of-requires-clause-spare
block_of-requires-clause-spare c = subst (λ w. 1 ≤ spare c.args.queues.now.region w) (width_narrow c.args.frame.now c.requires.narrow) c.requires.can.block

pub returns-clause-part : goal.returns-clause-part
returns-clause-part c =
    let d = c.args.desk.now in
    record {
      held = gathered d.values.items c.args.frame.now;
      made = subst (IsMade c.args.queues.now c.block_of.new.queues c.block_of.result (node_words d.values.items c.args.number c.args.frame.now)) (sym (width_narrow c.args.frame.now c.requires.narrow))
          (subst (λ vs. IsMade c.args.queues.now c.block_of.new.queues c.block_of.result (node_words vs c.args.number c.args.frame.now) (2 + 2 * length c.args.frame.now)) c.deref.ensures.value c.block_of.ensures.made);
      holds = narrow_holds d.heap d.values.items c.args.frame.now c.requires.pairs c.requires.narrow;
      keeps = keeps_all d.heap;
      used = subst (UsesNeed d.heap.room d.heap.room) (sym (need_narrow c.args.frame.now c.requires.narrow)) (uses_nothing d.heap.room);
      values = refl;
      pending = pile_kept d.pending;
    }

pub returns-clause-cost : goal.returns-clause-cost
returns-clause-cost c =
    let w = width_narrow c.args.frame.now c.requires.narrow in
    costs_up c.args.queues.now c.block_of.new.queues _ _ (omega (arith, w)) c.block_of.ensures.cost
