use Rattle.std.proofs.Common.{◌≡◌, ◌≤◌, ◌+◌, ◌==◌, ◌++◌, ◌∷◌, ◌∙◌, [], refl, sym, ap, subst, arith}
use Rattle.pict_region.specs.RegionState.{spare, KeepsOtherWidths}
use Rattle.pict_queue.specs.Contents.{contents}
use Rattle.pict_prim.specs.Acts.{UsesNeed}
use Rattle.pict_desk.proofs.Making.{keeps_all, pile_kept}
use Rattle.pict_desk.proofs.MakingRoom.{need_narrow, uses_nothing}
use Rattle.pict_blocks.specs.Framed.{gathered, node_words}
use Rattle.pict_blocks.specs.Parts.{block_width}
use Rattle.pict_blocks.proofs.Costs.{costs_up}
use Rattle.pict_blocks.proofs.Holding.{narrow_holds, width_narrow}
use Rattle.pict_turns.proofs.Placing.{taken_spare}
use Rattle.pict_turns.proofs.parts.spawn_narrow.Goals as goal

pub spawn-requires-clause-spare : goal.spawn-requires-clause-spare
spawn-requires-clause-spare c = subst (λ w. 1 ≤ spare c.args.store.now.queues.region w) (width_narrow c.args.frame.now c.requires.narrow) c.requires.can.block

pub returns-clause-spawns : goal.returns-clause-spawns
returns-clause-spawns c =
    let s = c.args.store.now in
    let d = s.desk in
    let frame = c.args.frame.now in
    let width = width_narrow frame c.requires.narrow in
    record {
      held = gathered d.values.items frame;
      holds = narrow_holds d.heap d.values.items frame c.requires.pairs c.requires.narrow;
      last = c.spawn.ensures.pushed ∙ ap (λ vs. contents s.queues 0 ++ node_words vs c.args.number frame ∷ []) c.deref.ensures.value;
      turn = refl;
      others = c.spawn.ensures.other_contents;
      spare = λ w.
          let here = subst (λ n. spare c.spawn.new.queues.region n + 1 ≡ spare s.queues.region n) (sym width) c.spawn.ensures.spare in
          let widths = subst (KeepsOtherWidths s.queues.region c.spawn.new.queues.region) (sym width) c.spawn.ensures.widths in
          taken_spare s.queues.region c.spawn.new.queues.region (block_width frame) here widths w (w == block_width frame) refl;
      queues = c.spawn.ensures.queues;
      keeps = keeps_all d.heap;
      used = subst (UsesNeed d.heap.room d.heap.room) (sym (need_narrow frame c.requires.narrow)) (uses_nothing d.heap.room);
      values = refl;
      pending = pile_kept d.pending;
    }

pub returns-clause-cost : goal.returns-clause-cost
returns-clause-cost c =
    let w = width_narrow c.args.frame.now c.requires.narrow in
    costs_up c.args.store.now.queues c.spawn.new.queues _ _ (omega (arith, w)) c.spawn.ensures.cost
