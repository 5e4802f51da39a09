-- Sites before the first event.
use Rattle.std.proofs.Common.{ℕ, zero, suc, ◌≡◌, ◌≤◌, ◌<◌, ◌+◌, ◌-◌, List, [], ◌∷◌, length, map, refl, sym, ap, ◌∙◌, subst, Some, slice_get, arith}
use Rattle.std.specs.List.{AllByRecursion}
use Rattle.pict_core.specs.Term.{Process}
use Rattle.pict_queue.specs.QueuesState.{QueuesState}
use Rattle.pict_blocks.specs.Blocks.{process_of, view_of_contents}
use Rattle.pict_heap.specs.HeapState.{HeapState}
use Rattle.pict_desk.specs.Known.{value_in}
use Rattle.pict_desk.specs.declared.desk.Desk.{Desk}
use Rattle.pict_turns.specs.Views.{lists_from, channel_lists, IsBlock, CanWait}
use Rattle.pict_turns.specs.declared.turn.Turn.TheVariants.{Nobody}
use Rattle.pict_machine.specs.Opening.{AreOpening}
use Rattle.pict_machine.proofs.Opening.{view_is}
use Rattle.pict_network.specs.Network.{Item, Network, idle, opening_network}
use Rattle.pict_network.specs.Events.{items_in}
use Rattle.pict_network.specs.SiteView.{view_at}
use Rattle.pict_network.proofs.Moving.{each}
use Rattle.pict_network.proofs.Unions.{some_same}
use Rattle.pict_sites.specs.Opening.{AreIdle, IsFirstOf}
use Rattle.pict_sites.specs.Views.{heap_in, view_of_queues, StandFor, IsSite, IsOwn, AreSites}
use Rattle.pict_sites.specs.declared.sites.Sites.{Sites}

nothing_idle : (n s : ℕ) → items_in (slice_get (idle n) s) ≡ []
nothing_idle zero s = refl
nothing_idle (suc n) zero = refl
nothing_idle (suc n) (suc s) = nothing_idle n s

idle_many : (n : ℕ) → length (idle n) ≡ n
idle_many zero = refl
idle_many (suc n) = ap suc (idle_many n)

-- idle queues beside those of the first site
idle_site : (core : Process) (d : Desk) (first q : QueuesState) → IsSite core d first → AreIdle q → IsSite core d q
idle_site core d first q site i = record {
  ready = let e = i.queues in omega (arith, e);
  blocks = λ queue. subst (AllByRecursion (IsBlock core d.heap)) (sym (i.empty queue)) tt;
  waiting = λ channel. subst (AllByRecursion (CanWait core)) (sym (i.empty (channel + 1))) tt;
  pairs = site.pairs;
  levels = site.levels;
  turn = tt;
  room = tt;
}

idle_view : (core : Process) (h : HeapState) (q : QueuesState) → AreIdle q → view_of_queues core h q ≡ record { ready = []; channels = [] }
idle_view core h q i =
    let e : length q.queues - 1 ≡ 0 = let n = i.queues in omega (arith, n) in
    ap (λ (ready : List (List ℕ)). view_of_contents core (value_in h) ready (channel_lists q)) (i.empty 0)
    ∙ ap (view_of_contents core (value_in h) []) (ap (lists_from q 1) e)

module _ (core : Process) (n : Sites) (first : QueuesState) (o : AreOpening first) (all : IsFirstOf first n.queues.items) (post : AreIdle n.post) (site : IsSite core n.store.desk first)
    (turn : n.store.turn ≡ Nobody) (to : n.to.items ≡ []) (homes : n.homes.items ≡ []) (sites : ℕ) (count : length n.queues.items ≡ sites) (some : 1 ≤ sites) (few : sites ≤ 64) where
  own_by : (s : ℕ) (q : QueuesState) → slice_get (first ∷ all.others) s ≡ Some q → IsOwn core n q
  own_by zero q at =
      let same = some_same first q at in
      (subst (IsSite core n.store.desk) same site, let e = o.queues in let h = ap length homes in let f = ap (λ (x : QueuesState). length x.queues) same in omega (arith, e, h, f))
  own_by (suc s) q at =
      let i = each AreIdle all.others s q all.idle at in
      (idle_site core n.store.desk first q site i, let e = i.queues in let h = ap length homes in omega (arith, e, h))

  pub loaded_sites : AreSites core n
  loaded_sites = record {
    idle = turn;
    sites = λ s q at. own_by s q (ap (λ (qs : List QueuesState). slice_get qs s) (sym all.are) ∙ at);
    post = idle_site core n.store.desk first n.post site post;
    directions = record {
      to = ap length to ∙ ap length (sym (post.empty 0));
      destinations = subst (AllByRecursion (λ t. t < length n.queues.items)) (sym to) tt;
      homes = subst (AllByRecursion (λ h. h < length n.queues.items)) (sym homes) tt;
      few = omega (arith, few, count);
    };
  }

  abbrev opened : Network
  opened = opening_network (sites - 1) core

  view_by : (s : ℕ) (q : QueuesState) → slice_get (first ∷ all.others) s ≡ Some q → view_of_queues core (heap_in n) q ≡ view_at s opened
  view_by zero q at = subst (λ (x : QueuesState). view_of_queues core (heap_in n) x ≡ view_at 0 opened) (some_same first q at) (view_is core (heap_in n) first o)
  view_by (suc s) q at =
      idle_view core (heap_in n) q (each AreIdle all.others s q all.idle at)
      ∙ ap (λ (items : List Item). record { ready = map (λ (x : Item). x.process) items; channels = [] }) (sym (nothing_idle (sites - 1) s))

  pub loaded_stand : StandFor core n opened
  loaded_stand = record {
    count = let e = idle_many (sites - 1) in omega (arith, count, some, e);
    sites = λ s q at. view_by s q (ap (λ (qs : List QueuesState). slice_get qs s) (sym all.are) ∙ at);
    packets = ap (map (process_of core (value_in (heap_in n)))) (post.empty 0);
    to = to;
    homes = homes;
  }
