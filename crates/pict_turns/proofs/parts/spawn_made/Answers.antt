use Rattle.std.proofs.Common.{suc, ◌≡◌, ◌==◌, ◌∷◌, ◌++◌, [], length, get_or, ap, ◌∙◌, refl, arith}
use Rattle.pict_region.specs.RegionState.{spare}
use Rattle.pict_queue.specs.Contents.{contents}
use Rattle.pict_blocks.specs.Parts.{block_width}
use Rattle.pict_blocks.proofs.Costs.{costs_more}
use Rattle.pict_blocks.proofs.Held.{made_kept, made_no_more}
use Rattle.pict_turns.proofs.Placing.{taken_spare}
use Rattle.pict_turns.proofs.parts.spawn_made.Goals as goal

pub returns-clause-spawns : goal.returns-clause-spawns
returns-clause-spawns c =
    let p = c.make_part-part.ensures.part in
    let made = c.make_part-part.new.queues in
    record {
      held = p.held;
      holds = p.holds;
      last = c.push_back.ensures.pushed ∙ ap (λ ws. contents made 0 ++ ws ∷ []) p.made.here ∙ ap (λ xs. xs ++ (suc c.args.number ∷ p.held) ∷ []) (p.made.contents 0);
      others = λ other n. c.push_back.ensures.other_contents other n ∙ p.made.contents other;
      spare = λ w.
          let e : spare c.push_back.new.self.region w ≡ spare made.region w = ap (λ f. get_or f w 0) c.push_back.ensures.rest.free in
          let less = taken_spare c.args.store.now.queues.region made.region (block_width c.args.frame.now) p.made.spare p.made.widths w (w == block_width c.args.frame.now) refl in
          omega (arith, e, less);
      queues = c.push_back.ensures.rest.queues ∙ ap length p.made.queues;
      keeps = p.keeps;
      used = p.used;
      turn = refl;
      values = p.values;
      pending = p.pending;
    }

pub returns-clause-kept : goal.returns-clause-kept
returns-clause-kept c =
    let p = c.make_part-part.ensures.part in
    made_kept c.args.store.now.queues c.make_part-part.new.queues c.push_back.new.self _ _ _ p.made c.push_back.ensures.kept

pub returns-clause-no_more : goal.returns-clause-no_more
returns-clause-no_more c =
    made_no_more c.args.store.now.queues c.make_part-part.new.queues c.push_back.new.self _ _ _ c.make_part-part.ensures.part.made c.push_back.ensures.gone

pub returns-clause-spare_queues : goal.returns-clause-spare_queues
returns-clause-spare_queues c = c.push_back.ensures.rest.spare_queues ∙ c.make_part-part.ensures.part.made.spare_queues

pub returns-clause-blocks : goal.returns-clause-blocks
returns-clause-blocks c = λ width. c.push_back.ensures.blocks width ∙ c.make_part-part.ensures.part.made.blocks width

pub returns-clause-cost : goal.returns-clause-cost
returns-clause-cost c =
    costs_more c.args.store.now.queues c.make_part-part.new.queues c.push_back.new.self (block_width c.args.frame.now) 2 _ (omega arith)
    c.make_part-part.ensures.cost c.push_back.ensures.cost
