-- Sites of which one has lent its queues to the store, and somebody of that site may have the turn.
use Rattle.std.specs.Prelude.{◌≡◌, ◌≢◌, ◌<◌, ℕ, map, length, Some, slice_get}
use Rattle.pict_core.specs.Term.{Process}
use Rattle.pict_queue.specs.QueuesState.{QueuesState}
use Rattle.pict_blocks.specs.Blocks.{process_of}
use Rattle.pict_desk.specs.Known.{value_in}
use Rattle.pict_turns.specs.Acting.{IsStore}
use Rattle.pict_turns.specs.Views.{acting_words, view_with_turn}
use Rattle.pict_turns.specs.declared.store.Store.{Store}
use Rattle.pict_network.specs.Network.{Packet, Home, Network}
use Rattle.pict_network.specs.SiteView.{view_at}
use Rattle.pict_sites.specs.Views.{heap_in, count_channels, view_of_queues, processes_in, IsSite, HasChannels, IsOwn, HasDirections}
use Rattle.pict_sites.specs.declared.sites.Sites.{Sites}

-- the process of who has the turn
abbrev pub acting_process : Process → Store → Process
acting_process core s = process_of core (value_in s.desk.heap) (acting_words core s)

-- The same as between two calls, but that what site s has are the store's queues and who has the turn.
pub record StandWhile (core : Process) (s : ℕ) (n : Sites) (N : Network) : Type 0 where
  pub count : length n.queues.items ≡ length N.sites
  pub own : view_with_turn core n.store ≡ view_at s N
  pub others : (t : ℕ) (q : QueuesState) → t ≢ s → slice_get n.queues.items t ≡ Some q → view_of_queues core (heap_in n) q ≡ view_at t N
  pub packets : processes_in core (heap_in n) n.post ≡ map (λ (p : Packet). p.item.process) N.packets
  pub to : n.to.items ≡ map (λ (p : Packet). p.to) N.packets
  pub homes : n.homes.items ≡ map (λ (h : Home). h.site) N.channels

-- What holds of such sites.
pub record AreWorking (core : Process) (s : ℕ) (n : Sites) : Type 0 where
  pub there : s < length n.queues.items
  pub store : IsStore core n.store
  pub channels : HasChannels (count_channels n) n.store.queues
  pub others : (t : ℕ) (q : QueuesState) → t ≢ s → slice_get n.queues.items t ≡ Some q → IsOwn core n q
  pub post : IsSite core n.store.desk n.post
  pub directions : HasDirections n
