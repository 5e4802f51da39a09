-- Words written one after another.
use Rattle.std.proofs.Common.{◌≡◌, ◌≢◌, ℕ, List, [], length, Some, ◌∙◌, sym, ap, subst}
use Rattle.std.specs.Option.{unwrap_or}
use Rattle.std.specs.FinMap.{get, insert}
use Rattle.pict_region.specs.RegionState.{RegionState, words_of, width_of, KeepsBlocks}
use Rattle.pict_region.proofs.Uses.{get_inserted, get_insert_apart}
use Rattle.pict_queue.specs.QueuesState.{QueuesState, IsHeld, KeepsQueues}
use Rattle.pict_blocks.specs.Writing.{OnlyWrites, OnlyWorks}

pub writes_words : (old new : QueuesState) (block : ℕ) (ws : List ℕ) → OnlyWrites old new block ws → words_of new.region block ≡ ws
writes_words old new block ws w = ap (λ o. unwrap_or o []) w.here

pub writes_more : (a b c : QueuesState) (block : ℕ) (ws vs : List ℕ) → OnlyWrites a b block ws → OnlyWrites b c block vs → OnlyWrites a c block vs
writes_more a b c block ws vs v w = record {
  here = w.here;
  others = λ o n. w.others o n ∙ v.others o n;
  free = w.free ∙ v.free;
  blocks = λ width. w.blocks width ∙ v.blocks width;
  queues = w.queues ∙ v.queues;
  spare_queues = w.spare_queues ∙ v.spare_queues;
  lists = λ q. w.lists q ∙ v.lists q;
  held = w.held;
}

-- ---- one word

pub inserted_here : (old new : RegionState) (block : ℕ) (ws : List ℕ) → new.live ≡ insert old.live block ws → get new.live block ≡ Some ws
inserted_here old new block ws live = ap (λ m. get m block) live ∙ get_inserted old.live block ws

pub inserted_apart : (old new : RegionState) (block : ℕ) (ws : List ℕ) → new.live ≡ insert old.live block ws → (other : ℕ) → other ≢ block → get new.live other ≡ get old.live other
inserted_apart old new block ws live other n = ap (λ m. get m other) live ∙ get_insert_apart old.live block ws other n

pub writes_one : (old new : QueuesState) (block : ℕ) (ws : List ℕ)
    → new.region.live ≡ insert old.region.live block ws → new.region.free ≡ old.region.free → KeepsBlocks old.region new.region
    → new ≡ record old { region = new.region } → KeepsQueues old new → IsHeld new block → OnlyWrites old new block ws
writes_one old new block ws live free blocks rest lists held = record {
  here = inserted_here old.region new.region block ws live;
  others = inserted_apart old.region new.region block ws live;
  free = free;
  blocks = blocks;
  queues = ap (λ (s : QueuesState). s.queues) rest;
  spare_queues = ap (λ (s : QueuesState). s.spare_queues) rest;
  lists = lists;
  held = held;
}

pub writes_words_of : (a b c : QueuesState) (block : ℕ) (ws : List ℕ) (f : List ℕ → List ℕ) → OnlyWrites a b block ws → OnlyWrites b c block (f (words_of b.region block)) → OnlyWrites a c block (f ws)
writes_words_of a b c block ws f v w = writes_more a b c block ws (f ws) v (subst (λ us. OnlyWrites b c block (f us)) (writes_words a b block ws v) w)

pub width_still : (a b : QueuesState) (block : ℕ) (ws : List ℕ) → OnlyWrites a b block ws → width_of b.region block ≡ length ws
width_still a b block ws v = ap length (writes_words a b block ws v)

-- where nothing has changed but work
pub works_of : (old new : QueuesState) (work : ℕ) → new ≡ record old { region = record old.region { work = work } } → OnlyWorks old new
works_of old new work e =
    let same : new.region.work ≡ work = ap (λ (s : QueuesState). s.region.work) e in
    e ∙ ap (λ (w : ℕ). record old { region = record old.region { work = w } }) (sym same)
