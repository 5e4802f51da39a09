use Rattle.std.proofs.Common.{◌≡◌, ◌+◌, ◌*◌, ◌≤◌, ℕ, List, [], ◌∷◌, ◌++◌, length, refl, sym, ap, ◌∙◌, subst}
use Rattle.pict_queue.specs.Contents.{contents}
use Rattle.pict_region.specs.RegionState.{spare, KeepsOtherWidths}
use Rattle.pict_blocks.specs.Framed.{node_words}
use Rattle.pict_blocks.specs.Parts.{block_width}
use Rattle.pict_blocks.proofs.Holding.{width_narrow}
use Rattle.pict_acting.proofs.opening.put_last.Goals as goal

pub spawn-requires-clause-spare : goal.spawn-requires-clause-spare
spawn-requires-clause-spare c =
    subst (λ (w : ℕ). 1 ≤ spare c.args.store.now.queues.region w) (width_narrow c.args.frame.now c.requires.narrow) c.requires.spare

pub returns-clause-puts : goal.returns-clause-puts
returns-clause-puts c =
    let frame = c.args.frame.now in
    let old = c.args.store.now.queues in
    let new = c.spawn.new.queues in
    let s = c.spawn.ensures in
    let wide : block_width frame ≡ 2 + 2 * length frame = width_narrow frame c.requires.narrow in
    record {
      last = s.pushed ∙ ap (λ (vs : List (ℕ × ℕ)). contents old c.args.queue ++ node_words vs c.args.number frame ∷ []) c.deref.ensures.value;
      others = s.other_contents;
      taken = subst (λ (w : ℕ). spare new.region w + 1 ≡ spare old.region w) (sym wide) s.spare;
      widths = subst (λ (w : ℕ). KeepsOtherWidths old.region new.region w) (sym wide) s.widths;
      blocks = s.blocks;
      queues = s.queues;
      spare_queues = s.spare_queues;
      held = s.kept;
      no_more = s.no_more;
      desk = refl;
      turn = refl;
    }
