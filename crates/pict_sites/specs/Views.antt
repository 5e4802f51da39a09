-- What the queues of sites stand for.
use Rattle.std.specs.Prelude.{◌≡◌, ◌≤◌, ◌<◌, ◌+◌, ℕ, List, map, length, Some, slice_get}
use Rattle.std.specs.List.{AllByRecursion}
use Rattle.pict_core.specs.Term.{Process}
use Rattle.pict_heap.specs.HeapState.{HeapState}
use Rattle.pict_queue.specs.QueuesState.{QueuesState}
use Rattle.pict_queue.specs.Contents.{contents}
use Rattle.pict_view.specs.View.{View}
use Rattle.pict_blocks.specs.Blocks.{process_of, view_of_contents}
use Rattle.pict_desk.specs.Known.{value_in}
use Rattle.pict_desk.specs.declared.desk.Desk.{Desk}
use Rattle.pict_turns.specs.Acting.{IsStore}
use Rattle.pict_turns.specs.Views.{channel_lists}
use Rattle.pict_turns.specs.declared.turn.Turn.TheVariants.{Nobody}
use Rattle.pict_network.specs.Network.{Packet, Home, Network}
use Rattle.pict_network.specs.SiteView.{view_at}
use Rattle.pict_sites.specs.declared.sites.Sites.{Sites}

-- the texts and records, which all sites share
abbrev pub heap_in : Sites → HeapState
heap_in n = n.store.desk.heap

-- how many channels are made: each has a home
abbrev pub count_channels : Sites → ℕ
count_channels n = length n.homes.items

-- what queues stand for by the words of a heap: queue 0 has the ready processes, and queue c + 1 what is parked at channel c
abbrev pub view_of_queues : Process → HeapState → QueuesState → View
view_of_queues core h q = view_of_contents core (value_in h) (contents q 0) (channel_lists q)

-- the processes in queue 0
abbrev pub processes_in : Process → HeapState → QueuesState → List Process
processes_in core h q = map (process_of core (value_in h)) (contents q 0)

-- The network of lists has as many sites, and the queues of each stand for the site's view: its ready processes, and what is
-- parked at its own channels, the oldest first. The packets stand in the post, the oldest first, with their destinations beside
-- them; and each channel has its home. A network of lists has stamps, one of queues has none.
pub record StandFor (core : Process) (n : Sites) (N : Network) : Type 0 where
  pub count : length n.queues.items ≡ length N.sites
  pub sites : (s : ℕ) (q : QueuesState) → slice_get n.queues.items s ≡ Some q → view_of_queues core (heap_in n) q ≡ view_at s N
  pub packets : processes_in core (heap_in n) n.post ≡ map (λ (p : Packet). p.item.process) N.packets
  pub to : n.to.items ≡ map (λ (p : Packet). p.to) N.packets
  pub homes : n.homes.items ≡ map (λ (h : Home). h.site) N.channels

-- the queues, with this desk, are those of a store in which nobody has the turn
abbrev pub IsSite : Process → Desk → QueuesState → Type 0
IsSite core d q = IsStore core (record { desk = d; queues = q; turn = Nobody })

-- queue 0, and one for each of so many channels
abbrev pub HasChannels : ℕ → QueuesState → Type 0
HasChannels channels q = length q.queues ≡ channels + 1

-- a site's queues, with one for each channel
abbrev pub IsOwn : Process → Sites → QueuesState → Type 0
IsOwn core n q = IsSite core n.store.desk q × HasChannels (count_channels n) q

-- There are as many destinations as packets. Homes and destinations are sites, of which there are at most 64.
pub record HasDirections (n : Sites) : Type 0 where
  pub to : length n.to.items ≡ length (contents n.post 0)
  pub destinations : AllByRecursion (λ t. t < length n.queues.items) n.to.items
  pub homes : AllByRecursion (λ h. h < length n.queues.items) n.homes.items
  pub few : length n.queues.items ≤ 64

-- Each site's queues are of this code, with a queue for each channel, and so is the post's queue. Nobody has the turn.
pub record AreSites (core : Process) (n : Sites) : Type 0 where
  pub idle : n.store.turn ≡ Nobody
  pub sites : (s : ℕ) (q : QueuesState) → slice_get n.queues.items s ≡ Some q → IsOwn core n q
  pub post : IsSite core n.store.desk n.post
  pub directions : HasDirections n
