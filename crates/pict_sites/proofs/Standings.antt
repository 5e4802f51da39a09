-- Sites of which one has lent its queues, and what comes of its act.
use Rattle.std.proofs.Common.{ℕ, ◌≡◌, ◌≢◌, ◌≤◌, ◌<◌, ◌+◌, inl, inr, List, [], ◌∷◌, ◌++◌, map, length, refl, sym, ap, ◌∙◌, subst, Some, slice_get, slice_set, arith}
use Rattle.std.specs.List.{AllByRecursion}
use Rattle.std.proofs.lemmas.List.{map-append, length-append, length-set}
use Rattle.pict_core.specs.Term.{Process}
use Rattle.pict_heap.specs.HeapState.{HeapState, KeepsWords}
use Rattle.pict_queue.specs.QueuesState.{QueuesState}
use Rattle.pict_queue.specs.Contents.{contents, KeepsOtherContents}
use Rattle.pict_desk.specs.Pairs.{ArePairs}
use Rattle.pict_desk.specs.declared.desk.Desk.{Desk}
use Rattle.pict_desk.proofs.Making.{keeps_all, all_append}
use Rattle.pict_turns.specs.Acting.{IsStore, HasActing}
use Rattle.pict_turns.specs.Turns.{TakesTurn}
use Rattle.pict_turns.specs.Views.{ready_words, view_with_turn}
use Rattle.pict_turns.specs.declared.store.Store.{Store}
use Rattle.pict_turns.specs.declared.turn.Turn.TheVariants.{Nobody}
use Rattle.pict_turns.proofs.Turns.{ready_is}
use Rattle.pict_turns.proofs.Given.{rested_view}
use Rattle.pict_network.specs.Network.{Packet, Home, Item, Network}
use Rattle.pict_network.specs.SiteView.{view_at}
use Rattle.pict_network.proofs.Elsewhere.{get_elsewhere}
use Rattle.pict_sites.specs.Passing.{HoldsTheSame}
use Rattle.pict_sites.specs.Views.{heap_in, count_channels, view_of_queues, processes_in, StandFor, IsSite, HasChannels, IsOwn, AreSites}
use Rattle.pict_sites.specs.Working.{StandWhile, AreWorking}
use Rattle.pict_sites.specs.declared.sites.Sites.{Sites}
use Rattle.pict_sites.proofs.Lists.{set_cases}
use Rattle.pict_sites.proofs.Stores.{site_stays, view_stays, processes_stay}

-- ---- an act that leaves the queues of the other sites

-- The other sites, their number, the homes, and what all words stand for stay; there are as many levels, and each has a value.
pub record KeepsOthers (old new : Sites) : Type 0 where
  pub queues : new.queues.items ≡ old.queues.items
  pub homes : new.homes.items ≡ old.homes.items
  pub keeps : KeepsWords (heap_in old) (heap_in new)
  pub levels : length new.store.desk.values.items ≡ length old.store.desk.values.items
  pub pairs : ArePairs (heap_in new) new.store.desk.values.items

module _ (core : Process) (s : ℕ) (n m : Sites) (w : AreWorking core s n) (k : KeepsOthers n m) where
  other_there : (t : ℕ) (q : QueuesState) → slice_get m.queues.items t ≡ Some q → slice_get n.queues.items t ≡ Some q
  other_there t q at = ap (λ (qs : List QueuesState). slice_get qs t) (sym k.queues) ∙ at

  count_same : count_channels m ≡ count_channels n
  count_same = ap length k.homes

  channels_still : (q : QueuesState) → HasChannels (count_channels n) q → HasChannels (count_channels m) q
  channels_still q h = let e = count_same in omega (arith, e, h)

  other_own : (t : ℕ) (q : QueuesState) → t ≢ s → slice_get m.queues.items t ≡ Some q → IsOwn core m q
  other_own t q apart at =
      let o = w.others t q apart (other_there t q at) in
      (site_stays core n.store.desk m.store.desk q o.0 k.keeps q (λ queue. refl) (omega arith) k.pairs k.levels, channels_still q o.1)

  other_view : (t : ℕ) (q : QueuesState) → t ≢ s → slice_get m.queues.items t ≡ Some q → view_of_queues core (heap_in m) q ≡ view_of_queues core (heap_in n) q
  other_view t q apart at = view_stays core n.store.desk m.store.desk q (w.others t q apart (other_there t q at)).0 k.keeps q (λ queue. refl) refl

  few_still : length m.queues.items ≤ 64
  few_still = let e = ap length k.queues in let few = w.directions.few in omega (arith, e, few)

  homes_still : AllByRecursion (λ h. h < length m.queues.items) m.homes.items
  homes_still =
      subst (λ (qs : List QueuesState). AllByRecursion (λ h. h < length qs) m.homes.items) (sym k.queues)
      (subst (AllByRecursion (λ h. h < length n.queues.items)) (sym k.homes) w.directions.homes)

  there_still : s < length m.queues.items
  there_still = let e = ap length k.queues in let low = w.there in omega (arith, e, low)

  module _ (store : IsStore core m.store) (count : length m.store.queues.queues ≡ length n.store.queues.queues) where
    own_channels : HasChannels (count_channels m) m.store.queues
    own_channels = let e = count_same in let h = w.channels in omega (arith, e, h, count)

    -- the post stays
    module _ (same : HoldsTheSame n.post m.post) (to : m.to.items ≡ n.to.items) where
      pub working_on : AreWorking core s m
      working_on = record {
        there = there_still;
        store = store;
        channels = own_channels;
        others = other_own;
        post = site_stays core n.store.desk m.store.desk n.post w.post k.keeps m.post same.contents (let e = same.queues in omega (arith, e)) k.pairs k.levels;
        directions = record {
          to = ap length to ∙ w.directions.to ∙ ap length (sym (same.contents 0));
          destinations = subst (λ (qs : List QueuesState). AllByRecursion (λ t. t < length qs) m.to.items) (sym k.queues)
              (subst (AllByRecursion (λ t. t < length n.queues.items)) (sym to) w.directions.destinations);
          homes = homes_still;
          few = few_still;
        };
      }

      pub stand_on : (N M : Network) → StandWhile core s n N → view_with_turn core m.store ≡ view_at s M → ((t : ℕ) → t ≢ s → view_at t M ≡ view_at t N)
          → length M.sites ≡ length N.sites → M.packets ≡ N.packets → map (λ (h : Home). h.site) M.channels ≡ map (λ (h : Home). h.site) N.channels → StandWhile core s m M
      stand_on N M st own others sites packets homes = record {
        count = ap length k.queues ∙ st.count ∙ sym sites;
        own = own;
        others = λ t q apart at. other_view t q apart at ∙ st.others t q apart (other_there t q at) ∙ sym (others t apart);
        packets = processes_stay core n.store.desk m.store.desk n.post w.post k.keeps m.post (same.contents 0) ∙ st.packets ∙ ap (map (λ (p : Packet). p.item.process)) (sym packets);
        to = to ∙ st.to ∙ ap (map (λ (p : Packet). p.to)) (sym packets);
        homes = k.homes ∙ st.homes ∙ sym homes;
      }

    -- there is a packet more
    module _ (post : IsSite core m.store.desk m.post) (more : length (contents m.post 0) ≡ length (contents n.post 0) + 1) (g : ℕ) (below : g < length n.queues.items) (to : m.to.items ≡ n.to.items ++ g ∷ []) where
      pub working_more : AreWorking core s m
      working_more = record {
        there = there_still;
        store = store;
        channels = own_channels;
        others = other_own;
        post = post;
        directions = record {
          to = ap length to ∙ length-append n.to.items (g ∷ []) ∙ ap (λ i. i + 1) w.directions.to ∙ sym more;
          destinations = subst (λ (qs : List QueuesState). AllByRecursion (λ t. t < length qs) m.to.items) (sym k.queues)
              (subst (AllByRecursion (λ t. t < length n.queues.items)) (sym to)
              (all_append (λ t. t < length n.queues.items) n.to.items (g ∷ []) w.directions.destinations (below, tt)));
          homes = homes_still;
          few = few_still;
        };
      }

      pub stand_more : (N M : Network) (x : Item) → StandWhile core s n N → view_with_turn core m.store ≡ view_at s M → ((t : ℕ) → t ≢ s → view_at t M ≡ view_at t N)
          → length M.sites ≡ length N.sites → M.packets ≡ N.packets ++ record { to = g; item = x } ∷ []
          → map (λ (h : Home). h.site) M.channels ≡ map (λ (h : Home). h.site) N.channels
          → processes_in core (heap_in m) m.post ≡ processes_in core (heap_in n) n.post ++ x.process ∷ [] → StandWhile core s m M
      stand_more N M x st own others sites packets homes last = record {
        count = ap length k.queues ∙ st.count ∙ sym sites;
        own = own;
        others = λ t q apart at. other_view t q apart at ∙ st.others t q apart (other_there t q at) ∙ sym (others t apart);
        packets = last ∙ ap (λ (ps : List Process). ps ++ x.process ∷ []) st.packets
            ∙ sym (ap (map (λ (p : Packet). p.item.process)) packets ∙ map-append (λ (p : Packet). p.item.process) N.packets (record { to = g; item = x } ∷ []));
        to = to ∙ ap (λ (ts : List ℕ). ts ++ g ∷ []) st.to
            ∙ sym (ap (map (λ (p : Packet). p.to)) packets ∙ map-append (λ (p : Packet). p.to) N.packets (record { to = g; item = x } ∷ []));
        homes = k.homes ∙ st.homes ∙ sym homes;
      }

-- ---- queues are lent, and given back

-- the queues of site s are lent, and the first of them has the turn
module _ (core : Process) (s : ℕ) (n m : Sites) (sites : AreSites core n) (q : QueuesState) (at : slice_get n.queues.items s ≡ Some q) (there : s < length n.queues.items)
    (queues : m.queues.items ≡ slice_set n.queues.items s n.store.queues) (post : m.post ≡ n.post) (to : m.to.items ≡ n.to.items) (homes : m.homes.items ≡ n.homes.items)
    (acting : HasActing core m.store) (t : TakesTurn core (record n.store { queues = q }) m.store) where
  abbrev lent : Store
  lent = record n.store { queues = q }

  keeps_lent : KeepsWords (heap_in n) (heap_in m)
  keeps_lent = subst (KeepsWords (heap_in n)) (sym t.heap) (keeps_all (heap_in n))

  many : length m.queues.items ≡ length n.queues.items
  many = ap length queues ∙ length-set n.queues.items s n.store.queues

  lent_there : (i : ℕ) (p : QueuesState) → i ≢ s → slice_get m.queues.items i ≡ Some p → slice_get n.queues.items i ≡ Some p
  lent_there i p apart is = sym (get_elsewhere n.queues.items s i n.store.queues apart) ∙ ap (λ (qs : List QueuesState). slice_get qs i) (sym queues) ∙ is

  pub lent_working : AreWorking core s m
  lent_working = record {
    there = let e = many in omega (arith, e, there);
    store = acting.store;
    channels = let e = ap length homes in let h = (sites.sites s q at).1 in let same = t.queues in omega (arith, e, h, same);
    others = λ i p apart is.
        let o = sites.sites i p (lent_there i p apart is) in
        (site_stays core n.store.desk m.store.desk p o.0 keeps_lent p (λ queue. refl) (omega arith) acting.store.pairs t.levels, let e = ap length homes in let h = o.1 in omega (arith, e, h));
    post = subst (IsSite core m.store.desk) (sym post) (site_stays core n.store.desk m.store.desk n.post sites.post keeps_lent n.post (λ queue. refl) (omega arith) acting.store.pairs t.levels);
    directions = record {
      to = ap length to ∙ sites.directions.to ∙ ap (λ (r : QueuesState). length (contents r 0)) (sym post);
      destinations = subst (λ (i : ℕ). AllByRecursion (λ d. d < i) m.to.items) (sym many) (subst (AllByRecursion (λ d. d < length n.queues.items)) (sym to) sites.directions.destinations);
      homes = subst (λ (i : ℕ). AllByRecursion (λ d. d < i) m.homes.items) (sym many) (subst (AllByRecursion (λ d. d < length n.queues.items)) (sym homes) sites.directions.homes);
      few = let e = many in let few = sites.directions.few in omega (arith, e, few);
    };
  }

  pub lent_stand : (N : Network) → StandFor core n N → StandWhile core s m N
  lent_stand N st = record {
    count = many ∙ st.count;
    own = sym (rested_view core m.store lent (sym t.heap) (t.first ∙ sym (ready_is core m.store _ acting.has)) (λ queue apart. sym (t.others queue apart)) (sym t.queues)) ∙ st.sites s q at;
    others = λ i p apart is.
        view_stays core n.store.desk m.store.desk p (sites.sites i p (lent_there i p apart is)).0 keeps_lent p (λ queue. refl) refl ∙ st.sites i p (lent_there i p apart is);
    packets = ap (processes_in core (heap_in m)) post ∙ processes_stay core n.store.desk m.store.desk n.post sites.post keeps_lent n.post refl ∙ st.packets;
    to = to ∙ st.to;
    homes = homes ∙ st.homes;
  }

-- who had the turn is the first of the site's, which has its queues again
module _ (core : Process) (s : ℕ) (n m : Sites) (w : AreWorking core s n) (q : QueuesState)
    (queues : m.queues.items ≡ slice_set n.queues.items s q) (post : m.post ≡ n.post) (to : m.to.items ≡ n.to.items) (homes : m.homes.items ≡ n.homes.items)
    (desk : m.store.desk ≡ n.store.desk) (idle : m.store.turn ≡ Nobody) (site : IsSite core n.store.desk q) (ready : contents q 0 ≡ ready_words core n.store)
    (others : KeepsOtherContents n.store.queues q 0) (count : length q.queues ≡ length n.store.queues.queues) where
  settled_many : length m.queues.items ≡ length n.queues.items
  settled_many = ap length queues ∙ length-set n.queues.items s q

  settled_own : (p : QueuesState) → IsSite core n.store.desk p × HasChannels (count_channels n) p → IsOwn core m p
  settled_own p o = (subst (λ (d : Desk). IsSite core d p) (sym desk) o.0, let e = ap length homes in let h = o.1 in omega (arith, e, h))

  own_again : IsSite core n.store.desk q × HasChannels (count_channels n) q
  own_again = (site, let h = w.channels in omega (arith, h, count))

  pub settled_sites : AreSites core m
  settled_sites = record {
    idle = idle;
    sites = λ i p is. elim (set_cases n.queues.items s i p q (ap (λ (qs : List QueuesState). slice_get qs i) (sym queues) ∙ is)) [
      | inl here ↦ settled_own p (subst (λ (r : QueuesState). IsSite core n.store.desk r × HasChannels (count_channels n) r) (sym here.1) own_again)
      | inr there ↦ settled_own p (w.others i p there.0 there.1)
    ];
    post = subst (λ (d : Desk). IsSite core d m.post) (sym desk) (subst (IsSite core n.store.desk) (sym post) w.post);
    directions = record {
      to = ap length to ∙ w.directions.to ∙ ap (λ (r : QueuesState). length (contents r 0)) (sym post);
      destinations = subst (λ (i : ℕ). AllByRecursion (λ d. d < i) m.to.items) (sym settled_many) (subst (AllByRecursion (λ d. d < length n.queues.items)) (sym to) w.directions.destinations);
      homes = subst (λ (i : ℕ). AllByRecursion (λ d. d < i) m.homes.items) (sym settled_many) (subst (AllByRecursion (λ d. d < length n.queues.items)) (sym homes) w.directions.homes);
      few = let e = settled_many in let few = w.directions.few in omega (arith, e, few);
    };
  }

  heap_same : heap_in m ≡ heap_in n
  heap_same = ap (λ (d : Desk). d.heap) desk

  own_view : view_of_queues core (heap_in n) q ≡ view_with_turn core n.store
  own_view = rested_view core n.store (record n.store { queues = q }) refl ready others count

  settled_view : (N : Network) → StandWhile core s n N → (i : ℕ) (p : QueuesState) → slice_get m.queues.items i ≡ Some p → view_of_queues core (heap_in n) p ≡ view_at i N
  settled_view N st i p is = elim (set_cases n.queues.items s i p q (ap (λ (qs : List QueuesState). slice_get qs i) (sym queues) ∙ is)) [
    | inl here ↦ ap (view_of_queues core (heap_in n)) here.1 ∙ own_view ∙ st.own ∙ ap (λ (j : ℕ). view_at j N) (sym here.0)
    | inr there ↦ st.others i p there.0 there.1
  ]

  pub settled_stand : (N : Network) → StandWhile core s n N → StandFor core m N
  settled_stand N st = record {
    count = settled_many ∙ st.count;
    sites = λ i p is. ap (λ (h : HeapState). view_of_queues core h p) heap_same ∙ settled_view N st i p is;
    packets = ap (λ (h : HeapState). processes_in core h m.post) heap_same ∙ ap (processes_in core (heap_in n)) post ∙ st.packets;
    to = to ∙ st.to;
    homes = homes ∙ st.homes;
  }
