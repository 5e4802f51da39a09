-- A new channel.
use Rattle.std.specs.Prelude.{◌≡◌, ◌≢◌, ◌≤◌, ◌+◌, ◌-◌, ℕ, length}
use Rattle.pict_core.specs.Term.{Chan}
use Rattle.pict_desk.specs.Known.{pair_at, known}
use Rattle.pict_queue.specs.Contents.{KeepsAllContents, KeepsHeld, HoldsNoMore}
use Rattle.pict_desk.specs.Pairs.{ArePairs}
use Rattle.pict_turns.specs.declared.store.Store.{Store}

-- The next channel, with which nothing waits, is the value of this level, and nothing else has changed but room for queues.
pub record AddsChannel (old new : Store) (level : ℕ) : Type 0 where
  pub value : known new.desk.heap new.desk.values.items level ≡ Chan (length old.queues.queues - 1)
  pub others : (other : ℕ) → other ≢ level → pair_at new.desk.values.items other ≡ pair_at old.desk.values.items other
  pub levels : length new.desk.values.items ≡ length old.desk.values.items
  pub pairs : ArePairs new.desk.heap new.desk.values.items
  pub queues : length new.queues.queues ≡ length old.queues.queues + 1
  pub spare_queues : old.queues.spare_queues ≤ new.queues.spare_queues + 1
  pub region : new.queues.region ≡ old.queues.region
  pub contents : KeepsAllContents old.queues new.queues
  pub held : KeepsHeld old.queues new.queues
  pub no_more : HoldsNoMore old.queues new.queues
  pub heap : new.desk.heap ≡ old.desk.heap
  pub pending : new.desk.pending ≡ old.desk.pending
  pub turn : new.turn ≡ old.turn
