-- The block holds the words of the record.
use Rattle.std.proofs.Common.{suc, ◌≡◌, ◌==◌, ◌∷◌, ◌++◌, [], length, get_or, ap, sym, subst, ◌∙◌, refl, arith}
use Rattle.pict_region.specs.RegionState.{spare}
use Rattle.pict_queue.specs.Contents.{contents}
use Rattle.pict_blocks.specs.Framed.{node_words}
use Rattle.pict_blocks.specs.Parts.{block_width}
use Rattle.pict_blocks.specs.Writing.{IsMade}
use Rattle.pict_blocks.proofs.Costs.{costs_more}
use Rattle.pict_blocks.proofs.Held.{made_kept, made_no_more}
use Rattle.pict_blocks.proofs.Holding.{width_wide}
use Rattle.pict_desk.proofs.Making.{keeps_all, pile_kept}
use Rattle.pict_desk.proofs.MakingRoom.{uses_nothing}
use Rattle.pict_desk.specs.Room.{frame_need}
use Rattle.pict_turns.proofs.Adding.{used_less}
use Rattle.pict_turns.proofs.Placing.{taken_spare}
use Rattle.pict_turns.proofs.parts.spawn_record.Goals as goal

pub returns-clause-spawns : goal.returns-clause-spawns
returns-clause-spawns c = λ frame kept.
    let s = c.args.store.now in
    let made = c.block_of-part.new.queues in
    let m = c.block_of-part.ensures.made in
    record {
      held = c.args.pair.0 ∷ c.args.pair.1 ∷ [];
      holds = kept.holds;
      last = c.push_back.ensures.pushed ∙ ap (λ ws. contents made 0 ++ ws ∷ []) m.here ∙ ap (λ xs. xs ++ (suc c.args.number ∷ c.args.pair.0 ∷ c.args.pair.1 ∷ []) ∷ []) (m.contents 0);
      others = λ other n. c.push_back.ensures.other_contents other n ∙ m.contents other;
      spare = λ w.
          let e : spare c.push_back.new.self.region w ≡ spare made.region w = ap (λ f. get_or f w 0) c.push_back.ensures.rest.free in
          let wide : IsMade s.queues made c.block_of-part.result (node_words (c.args.pair ∷ []) c.args.number (0 ∷ [])) (block_width frame) =
          subst (IsMade s.queues made c.block_of-part.result (node_words (c.args.pair ∷ []) c.args.number (0 ∷ []))) (sym (width_wide frame kept.wide)) m in
          let less = taken_spare s.queues.region made.region (block_width frame) wide.spare wide.widths w (w == block_width frame) refl in
          omega (arith, e, less);
      queues = c.push_back.ensures.rest.queues ∙ ap length m.queues;
      keeps = keeps_all s.desk.heap;
      used = used_less s.desk.heap.room s.desk.heap.room (frame_need frame) (uses_nothing s.desk.heap.room);
      turn = refl;
      values = refl;
      pending = pile_kept s.desk.pending;
    }

pub returns-clause-kept : goal.returns-clause-kept
returns-clause-kept c =
    made_kept c.args.store.now.queues c.block_of-part.new.queues c.push_back.new.self _ _ _ c.block_of-part.ensures.made c.push_back.ensures.kept

pub returns-clause-no_more : goal.returns-clause-no_more
returns-clause-no_more c =
    made_no_more c.args.store.now.queues c.block_of-part.new.queues c.push_back.new.self _ _ _ c.block_of-part.ensures.made c.push_back.ensures.gone

pub returns-clause-spare_queues : goal.returns-clause-spare_queues
returns-clause-spare_queues c = c.push_back.ensures.rest.spare_queues ∙ c.block_of-part.ensures.made.spare_queues

pub returns-clause-blocks : goal.returns-clause-blocks
returns-clause-blocks c = λ width. c.push_back.ensures.blocks width ∙ c.block_of-part.ensures.made.blocks width

pub returns-clause-cost : goal.returns-clause-cost
returns-clause-cost c =
    costs_more c.args.store.now.queues c.block_of-part.new.queues c.push_back.new.self 4 2 _ (omega arith)
    c.block_of-part.ensures.cost c.push_back.ensures.cost
