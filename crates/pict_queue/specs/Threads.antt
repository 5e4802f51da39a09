-- How queues lie in a region: each is a thread through the links of its blocks, with its last block known.
use Rattle.std.specs.Prelude.{◌≡◌, ℕ, ◌+◌, ◌-◌, ◌^◌, ◌<◌, ◌≤◌, eqb, List, map, slice_index, true, vec_len}
use Rattle.std.specs.Vec.{vec_capacity}
use Rattle.std.specs.List.{IsDistinct, list_any}
use Rattle.pict_region.specs.Chain.{chain}
use Rattle.pict_region.specs.RegionState.{RegionState, IsLive, width_of}
use Rattle.pict_queue.specs.QueuesState.{QueuesState, link_of}
use Rattle.pict_queue.specs.Ends.{queue_in}
use Rattle.pict_queue.specs.declared.ends.Queue.{Queue}
use Rattle.pict_queue.specs.declared.queues.Queues.TheInside.{Inside}

abbrev pub queues_state : Inside → QueuesState
queues_state a = record {
  region = a.region;
  queues = map (λ q. record { first = q.first; count = q.length }) a.ends.queues.items;
  spare_queues = a.spare;
}

-- the blocks of a queue
abbrev pub thread : RegionState → List Queue → ℕ → List ℕ
thread r queues number = chain (link_of r) (queue_in queues number).first (queue_in queues number).length

pub record IsThreaded (r : RegionState) (queues : List Queue) : Type 0 where
  pub live : (queue block : ℕ) → list_any (eqb block) (thread r queues queue) ≡ true → IsLive r block
  pub once : (queue : ℕ) → IsDistinct eqb (thread r queues queue)
  pub alone : (queue other block : ℕ) → list_any (eqb block) (thread r queues queue) ≡ true
      → list_any (eqb block) (thread r queues other) ≡ true → queue ≡ other
  pub lasts : (queue : ℕ) → 0 < (queue_in queues queue).length
      → slice_index (thread r queues queue) ((queue_in queues queue).length - 1) ≡ (queue_in queues queue).last
  pub wide : (block : ℕ) → IsLive r block → 2 ≤ width_of r block
  pub small : (block : ℕ) → IsLive r block → block < 2 ^ 32 - 1

pub record AreQueuesSound (a : Inside) : Type 0 where
  pub threaded : IsThreaded a.region a.ends.queues.items
  pub room : vec_len a.ends.queues + a.spare ≤ vec_capacity a.ends.queues
