use Rattle.std.proofs.Common.{◌≤◌, ◌∷◌, [], map, refl, sym, ap, ◌∙◌, subst, arith}
use Rattle.pict_region.specs.RegionState.{spare}
use Rattle.pict_blocks.specs.Framed.{node_words}
use Rattle.pict_blocks.specs.Writing.{IsMade}
use Rattle.pict_prim.specs.Acts.{UsesNeed}
use Rattle.pict_desk.specs.Known.{known}
use Rattle.pict_desk.specs.Needs.{HasRoomFor}
use Rattle.pict_blocks.proofs.Costs.{costs_up}
use Rattle.pict_blocks.proofs.Holding.{wide_holds, width_wide}
use Rattle.pict_desk.proofs.MakingRoom.{need_wide}
use Rattle.pict_blocks.proofs.parts.make_wide.Goals as goal

pub frame_record-pair-requires-clause-room : goal.frame_record-pair-requires-clause-room
frame_record-pair-requires-clause-room c = subst (HasRoomFor c.args.desk.now.heap c.args.desk.now.pending) (need_wide c.args.frame.now c.requires.wide) c.requires.can.room

pub block_of-requires-clause-spare : goal.block_of-requires-clause-spare
block_of-requires-clause-spare c = subst (λ w. 1 ≤ spare c.args.queues.now.region w) (width_wide c.args.frame.now c.requires.wide) c.requires.can.block

pub returns-clause-part : goal.returns-clause-part
returns-clause-part c =
    let d = c.args.desk.now in
    let r = c.frame_record-pair in
    record {
      held = r.result.0 ∷ r.result.1 ∷ [];
      made = subst (IsMade c.args.queues.now c.block_of.new.queues c.block_of.result (node_words (r.result ∷ []) c.args.number (0 ∷ []))) (sym (width_wide c.args.frame.now c.requires.wide)) c.block_of.ensures.made;
      holds = wide_holds r.new.heap (known d.heap d.values.items) c.args.frame.now r.result r.ensures.pair
          (r.ensures.fields ∙ ap (λ vs. map (known d.heap vs) c.args.frame.now) c.deref.ensures.value) c.requires.wide
          (subst (HasRoomFor d.heap d.pending) (need_wide c.args.frame.now c.requires.wide) c.requires.can.room).countable;
      keeps = r.ensures.keeps;
      used = subst (UsesNeed d.heap.room r.new.heap.room) (sym (need_wide c.args.frame.now c.requires.wide)) r.ensures.used;
      values = refl;
      pending = r.ensures.pending;
    }

pub returns-clause-cost : goal.returns-clause-cost
returns-clause-cost c =
    let w = width_wide c.args.frame.now c.requires.wide in
    costs_up c.args.queues.now c.block_of.new.queues _ _ (omega (arith, w)) c.block_of.ensures.cost
