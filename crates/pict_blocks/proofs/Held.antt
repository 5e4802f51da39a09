-- A block that is taken and written, and what it does to the contents of queues and to the other held blocks.
use Rattle.std.proofs.Common.{◌≡◌, ◌≢◌, ℕ, ◌+◌, List, [], ◌∷◌, ◌++◌, drop, get_or, replicate, ◌∙◌, ap, subst, arith}
use Rattle.std.specs.Option.{unwrap_or}
use Rattle.std.specs.FinMap.{insert}
use Rattle.pict_region.specs.RegionState.{spare, words_of, KeepsBlocks, KeepsOtherWidths}
use Rattle.pict_queue.specs.QueuesState.{QueuesState, IsHeld}
use Rattle.pict_queue.specs.Contents.{held_words, contents, KeepsAllContents, KeepsHeld, KeepsOtherHeld, HoldsNoMore, Releases, HoldsOneMore}
use Rattle.pict_queue.proofs.Kept.{contents_beside, held_beside, one_more_beside}
use Rattle.pict_region.proofs.Counts.{blocks_same}
use Rattle.pict_blocks.specs.Writing.{OnlyWrites, OnlyWorks, IsMade}
use Rattle.pict_blocks.proofs.Written.{inserted_here, writes_words}

-- one held block is written
pub written_contents : (old new : QueuesState) (block : ℕ) (ws : List ℕ) → IsHeld old block → OnlyWrites old new block ws → KeepsAllContents old new
written_contents old new block ws held w = contents_beside old new block w.others w.lists held.apart

pub written_held : (old new : QueuesState) (block : ℕ) (ws : List ℕ) → OnlyWrites old new block ws → KeepsOtherHeld old new block
written_held old new block ws w = held_beside old new block w.others w.lists

pub taken_words : (old new : QueuesState) (block width : ℕ) → new.region.live ≡ insert old.region.live block (replicate width 0) → words_of new.region block ≡ replicate width 0
taken_words old new block width live = ap (λ o. unwrap_or o []) (inserted_here old.region new.region block (replicate width 0) live)

-- a block that was taken, and has these words now
module _ (old taken new : QueuesState) (block width : ℕ) (ws : List ℕ)
    (held : IsHeld taken block)
    (left : spare taken.region width + 1 ≡ spare old.region width) (widths : KeepsOtherWidths old.region taken.region width) (rest : taken ≡ record old { region = taken.region })
    (apart : (other : ℕ) → IsHeld old other → other ≢ block) (same : KeepsAllContents old taken) (kept : KeepsHeld old taken)
    (more : HoldsOneMore old taken block) (blocks : KeepsBlocks old.region taken.region)
    (written : OnlyWrites taken new block ws) where
  pub made_of : IsMade old new block (drop 1 ws) width
  made_of = record {
    held = written.held;
    here = ap (drop 1) (writes_words taken new block ws written);
    contents = λ queue. written_contents taken new block ws held written queue ∙ same queue;
    spare = let e : spare new.region width ≡ spare taken.region width = ap (λ f. get_or f width 0) written.free in omega (arith, e, left);
    widths = λ other n. ap (λ f. get_or f other 0) written.free ∙ widths other n;
    queues = written.queues ∙ ap (λ (s : QueuesState). s.queues) rest;
    spare_queues = written.spare_queues ∙ ap (λ (s : QueuesState). s.spare_queues) rest;
    apart = apart;
    kept = λ other h.
        let t = kept other h in
        let u = written_held taken new block ws written other (apart other h) t.held in
        record { held = u.held; words = u.words ∙ t.words };
    more = λ other h apart. more other (one_more_beside taken new block written.others written.lists other h apart) apart;
    blocks = λ v. written.blocks v ∙ blocks v;
  }

-- the block is pushed
pub made_pushed : (old made new : QueuesState) (queue block width : ℕ) (ws : List ℕ) → (m : IsMade old made block ws width)
    → contents new queue ≡ contents made queue ++ held_words made.region block ∷ [] → contents new queue ≡ contents old queue ++ ws ∷ []
made_pushed old made new queue block width ws m pushed =
    pushed ∙ ap (λ xs. xs ++ held_words made.region block ∷ []) (m.contents queue) ∙ ap (λ us. contents old queue ++ us ∷ []) m.here

pub made_kept : (old made new : QueuesState) (block width : ℕ) (ws : List ℕ) → IsMade old made block ws width → KeepsOtherHeld made new block → KeepsHeld old new
made_kept old made new block width ws m others other held =
    let k = m.kept other held in
    let p = others other (m.apart other held) k.held in
    record { held = p.held; words = p.words ∙ k.words }

pub made_no_more : (old made new : QueuesState) (block width : ℕ) (ws : List ℕ) → IsMade old made block ws width → Releases made new block → HoldsNoMore old new
made_no_more old made new block width ws m gone other held = let b = gone other held in m.more other b.1 b.0

-- ---- where only work changes

pub works_no_more : (old new : QueuesState) → OnlyWorks old new → HoldsNoMore old new
works_no_more old new works block held = let h = subst (λ s. IsHeld s block) works held in record { live = h.live; apart = h.apart }

pub works_blocks : (old new : QueuesState) → OnlyWorks old new → KeepsBlocks old.region new.region
works_blocks old new works = blocks_same old.region new.region (ap (λ (s : QueuesState). s.region.live) works) (ap (λ (s : QueuesState). s.region.free) works)
