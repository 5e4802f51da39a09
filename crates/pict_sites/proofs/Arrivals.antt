-- A packet arrives: what the sites are then.
use Rattle.std.proofs.Common.{ℕ, zero, suc, ◌≡◌, ◌≢◌, ◌<◌, ◌+◌, inl, inr, List, [], ◌∷◌, ◌++◌, length, map, take, drop, refl, sym, ap, ◌∙◌, subst, Some, option_map, slice_get, slice_set, arith}
use Rattle.std.specs.Prelude.{remove}
use Rattle.std.specs.List.{AllByRecursion}
use Rattle.std.proofs.lemmas.List.{length-append, length-map, length-set, map-append}
use Rattle.std.proofs.lemmas.Option.{slice_get-map}
use Rattle.pict_core.specs.Term.{Process}
use Rattle.pict_heap.specs.HeapState.{HeapState, KeepsWords}
use Rattle.pict_queue.specs.QueuesState.{QueuesState}
use Rattle.pict_queue.specs.Contents.{contents}
use Rattle.pict_view.specs.View.{View}
use Rattle.pict_view.specs.Placed.{without}
use Rattle.pict_view.proofs.Lists.{map_without}
use Rattle.pict_blocks.specs.Blocks.{process_of}
use Rattle.pict_desk.specs.Known.{value_in}
use Rattle.pict_desk.proofs.Making.{keeps_all, all_append, all_back}
use Rattle.pict_turns.specs.Views.{IsBlock}
use Rattle.pict_network.specs.Network.{Item, Packet, Network}
use Rattle.pict_network.specs.Events.{Moved, items_in, items_at, behind, delivery_of, delivery_at, processes_of}
use Rattle.pict_network.specs.SiteView.{list_for, view_at}
use Rattle.pict_network.proofs.Elsewhere.{get_elsewhere}
use Rattle.pict_network.proofs.Moving.{there, each}
use Rattle.pict_network.proofs.Unions.{get_again, some_same}
use Rattle.pict_sites.specs.Passing.{HoldsTheSame, PassesOn, OnlyLooks}
use Rattle.pict_sites.specs.Views.{heap_in, count_channels, view_of_queues, processes_in, StandFor, IsOwn, AreSites}
use Rattle.pict_sites.specs.declared.sites.Sites.{Sites}
use Rattle.pict_sites.proofs.Lists.{set_cases}
use Rattle.pict_sites.proofs.Seen.{view_like}
use Rattle.pict_sites.proofs.Stores.{site_by, site_stays, site_gains, view_stays, view_with, processes_stay, processes_gain, blocks_here}

-- ---- lists

all_front : {X : Type 0} (P : X → Type 0) (xs ys : List X) → AllByRecursion P (xs ++ ys) → AllByRecursion P xs
all_front P [] ys a = tt
all_front P (x ∷ xs) ys a = (a.0, all_front P xs ys a.1)

all_take : {X : Type 0} (P : X → Type 0) (j : ℕ) (xs : List X) → AllByRecursion P xs → AllByRecursion P (take j xs)
all_take P zero xs a = tt
all_take P (suc j) [] a = tt
all_take P (suc j) (x ∷ xs) a = (a.0, all_take P j xs a.1)

all_drop : {X : Type 0} (P : X → Type 0) (j : ℕ) (xs : List X) → AllByRecursion P xs → AllByRecursion P (drop j xs)
all_drop P zero xs a = a
all_drop P (suc j) [] a = tt
all_drop P (suc j) (x ∷ xs) a = all_drop P j xs a.1

item_behind : {X : Type 0} (xs ys : List X) (x : X) → slice_get (xs ++ x ∷ ys) (length xs) ≡ Some x
item_behind [] ys x = refl
item_behind (z ∷ xs) ys x = item_behind xs ys x

without_item : {X : Type 0} (xs ys : List X) (x : X) → without (length xs) (xs ++ x ∷ ys) ≡ xs ++ ys
without_item [] ys x = refl
without_item (z ∷ xs) ys x = let e : length (z ∷ xs) + 1 ≡ suc (length xs + 1) = omega arith in ap (λ k. (z ∷ take (length xs) (xs ++ x ∷ ys)) ++ drop k (z ∷ (xs ++ x ∷ ys))) e ∙ ap (λ zs. z ∷ zs) (without_item xs ys x)

removed : {X : Type 0} (xs : List X) (j : ℕ) → remove xs j ≡ without j xs
removed xs j = let e : suc j ≡ j + 1 = omega arith in ap (λ k. take j xs ++ drop k xs) e

length-remove : {X : Type 0} (xs : List X) (j : ℕ) → j < length xs → length (remove xs j) + 1 ≡ length xs
length-remove [] j low = absurd (omega (arith, low))
length-remove (x ∷ xs) zero low = omega arith
length-remove (x ∷ xs) (suc j) low = let e = length-remove xs j (omega (arith, low)) in omega (arith, e)

-- ---- a packet that stays

module _ (core : Process) (n m : Sites) (sites : AreSites core n) (g : ℕ) (q new : QueuesState) (at : slice_get n.queues.items g ≡ Some q) (queues : m.queues.items ≡ slice_set n.queues.items g new)
    (looks : OnlyLooks n.store m.store) (homes : m.homes.items ≡ n.homes.items) where
  keeps : KeepsWords (heap_in n) (heap_in m)
  keeps = subst (KeepsWords (heap_in n)) (sym looks.heap) (keeps_all (heap_in n))

  many : length m.queues.items ≡ length n.queues.items
  many = ap length queues ∙ length-set n.queues.items g new

  pub stayed_stand : HoldsTheSame n.post m.post → HoldsTheSame q new → m.to.items ≡ n.to.items → (N : Network) → StandFor core n N → StandFor core m N
  stayed_stand post same to N st = record {
    count = many ∙ st.count;
    sites = λ i p is. elim (set_cases n.queues.items g i p new (ap (λ (qs : List QueuesState). slice_get qs i) (sym queues) ∙ is)) [
      | inl here ↦
          ap (view_of_queues core (heap_in m)) here.1 ∙ view_stays core n.store.desk m.store.desk q (sites.sites g q at).0 keeps new same.contents same.queues ∙ st.sites g q at
          ∙ ap (λ (k : ℕ). view_at k N) (sym here.0)
      | inr apart ↦ view_stays core n.store.desk m.store.desk p (sites.sites i p apart.1).0 keeps p (λ queue. refl) refl ∙ st.sites i p apart.1
    ];
    packets = processes_stay core n.store.desk m.store.desk n.post sites.post keeps m.post (post.contents 0) ∙ st.packets;
    to = to ∙ st.to;
    homes = homes ∙ st.homes;
  }

  -- ---- a packet that arrives

  module _ (front back : List (List ℕ)) (words : List ℕ) (j : ℕ) (place : length front ≡ j) (passes : PassesOn n.post m.post q new front back words) (g_is : slice_get n.to.items j ≡ Some g)
      (to : m.to.items ≡ remove n.to.items j) (low : j < length n.to.items) where
    whole : AllByRecursion (IsBlock core (heap_in m)) (front ++ words ∷ back)
    whole = subst (AllByRecursion (IsBlock core (heap_in m))) passes.was (blocks_here core n.store.desk m.store.desk n.post sites.post keeps)

    block : IsBlock core (heap_in m) words
    block = (all_back (IsBlock core (heap_in m)) front (words ∷ back) whole).0

    others_there : AllByRecursion (IsBlock core (heap_in m)) (front ++ back)
    others_there = all_append (IsBlock core (heap_in m)) front back (all_front (IsBlock core (heap_in m)) front (words ∷ back) whole) (all_back (IsBlock core (heap_in m)) front (words ∷ back) whole).1

    own_channels : (p : QueuesState) (k : ℕ) → length p.queues ≡ k → k ≡ count_channels n + 1 → length p.queues ≡ count_channels m + 1
    own_channels p k e f = let h = ap length homes in omega (arith, e, f, h)

    pub arrived_sites : AreSites core m
    arrived_sites = record {
      idle = looks.turn;
      sites = λ i p is. elim (set_cases n.queues.items g i p new (ap (λ (qs : List QueuesState). slice_get qs i) (sym queues) ∙ is)) [
        | inl here ↦
            let o = sites.sites g q at in
            subst (IsOwn core m) (sym here.1)
            (site_gains core n.store.desk m.store.desk q o.0 keeps new words passes.gains block looks.pairs looks.levels, own_channels new (length q.queues) passes.gains.queues o.1)
        | inr apart ↦
            let o = sites.sites i p apart.1 in
            (site_stays core n.store.desk m.store.desk p o.0 keeps p (λ queue. refl) (omega arith) looks.pairs looks.levels, own_channels p (length p.queues) refl o.1)
      ];
      post = site_by core n.store.desk m.store.desk n.post sites.post keeps m.post (front ++ back) passes.is others_there passes.others (let e = passes.queues in omega (arith, e)) looks.pairs looks.levels;
      directions = record {
        to =
            let a = length-remove n.to.items j low in
            let b = ap length to in
            let c = ap length passes.was in
            let d = length-append front (words ∷ back) in
            let e = ap length passes.is in
            let f = length-append front back in
            let h = sites.directions.to in
            omega (arith, a, b, c, d, e, f, h);
        destinations = subst (λ (k : ℕ). AllByRecursion (λ t. t < k) m.to.items) (sym many)
            (subst (AllByRecursion (λ t. t < length n.queues.items)) (sym to)
            (all_append (λ t. t < length n.queues.items) (take j n.to.items) (drop (suc j) n.to.items) (all_take _ j n.to.items sites.directions.destinations) (all_drop _ (suc j) n.to.items sites.directions.destinations)));
        homes = subst (λ (k : ℕ). AllByRecursion (λ h. h < k) m.homes.items) (sym many) (subst (AllByRecursion (λ h. h < length n.queues.items)) (sym homes) sites.directions.homes);
        few = let few = sites.directions.few in let e = many in omega (arith, few, e);
      };
    }

    module _ (N : Network) (st : StandFor core n N) where
      packet_low : j < length N.packets
      packet_low = let e = ap length st.to in let l = length-map N.packets (λ (p : Packet). p.to) in omega (arith, e, l, low)

      abbrev packet : Packet
      packet = (there N.packets j packet_low).0

      packet_there : slice_get N.packets j ≡ Some packet
      packet_there = (there N.packets j packet_low).1

      goes_to : packet.to ≡ g
      goes_to =
          some_same packet.to g
          (sym (ap (option_map (λ (p : Packet). p.to)) packet_there) ∙ sym (slice_get-map (λ (p : Packet). p.to) N.packets j) ∙ ap (λ (ts : List ℕ). slice_get ts j) (sym st.to) ∙ g_is)

      words_there : slice_get (contents n.post 0) j ≡ Some words
      words_there = ap (λ (ws : List (List ℕ)). slice_get ws j) passes.was ∙ ap (slice_get (front ++ words ∷ back)) (sym place) ∙ item_behind front back words

      is_process : process_of core (value_in (heap_in n)) words ≡ packet.item.process
      is_process =
          some_same (process_of core (value_in (heap_in n)) words) packet.item.process
          (sym (ap (option_map (process_of core (value_in (heap_in n)))) words_there) ∙ sym (slice_get-map (process_of core (value_in (heap_in n))) (contents n.post 0) j)
          ∙ ap (λ (ps : List Process). slice_get ps j) st.packets ∙ slice_get-map (λ (p : Packet). p.item.process) N.packets j ∙ ap (option_map (λ (p : Packet). p.item.process)) packet_there)

      abbrev left : Network
      left = record N { packets = without j N.packets }

      abbrev M : Network
      M = behind packet.to packet.item left

      moves : delivery_at N j ≡ Moved M
      moves = ap (delivery_of N j) packet_there

      low_site : g < length N.sites
      low_site = let e = st.count in let l = each (λ t. t < length n.queues.items) n.to.items j g sites.directions.destinations g_is in omega (arith, e, l)

      items_there : slice_get N.sites g ≡ Some (items_at g N)
      items_there = let x = there N.sites g low_site in x.1 ∙ ap Some (ap items_in (sym x.1))

      here_view : view_at g M ≡ record (view_at g N) { ready = (view_at g N).ready ++ packet.item.process ∷ [] }
      here_view =
          ap (λ (k : ℕ). view_at g (behind k packet.item left)) goes_to
          ∙ ap (λ o. record { ready = processes_of (items_in o); channels = map (list_for g) N.channels }) (get_again N.sites g (items_at g N) (items_at g N ++ packet.item ∷ []) items_there)
          ∙ ap (λ ps. record { ready = ps; channels = map (list_for g) N.channels }) (map-append (λ (x : Item). x.process) (items_at g N) (packet.item ∷ []))

      other_view : (i : ℕ) → i ≢ g → view_at i M ≡ view_at i N
      other_view i apart =
          ap (λ (k : ℕ). view_at i (behind k packet.item left)) goes_to
          ∙ view_like i N (behind g packet.item left) (get_elsewhere N.sites g i (items_at g N ++ packet.item ∷ []) apart) refl

      new_view : view_of_queues core (heap_in m) new ≡ view_at g M
      new_view =
          view_with core n.store.desk m.store.desk q (sites.sites g q at).0 keeps new passes.gains.others passes.gains.queues
          ∙ ap (λ (ps : List Process). record (view_of_queues core (heap_in n) q) { ready = ps })
          (processes_gain core n.store.desk m.store.desk q (sites.sites g q at).0 keeps new words passes.gains.last
          ∙ ap (λ (h : HeapState). processes_in core (heap_in n) q ++ process_of core (value_in h) words ∷ []) looks.heap ∙ ap (λ (p : Process). processes_in core (heap_in n) q ++ p ∷ []) is_process)
          ∙ ap (λ (v : View). record v { ready = v.ready ++ packet.item.process ∷ [] }) (st.sites g q at) ∙ sym here_view

      left_packets : processes_in core (heap_in m) m.post ≡ map (λ (p : Packet). p.item.process) (without j N.packets)
      left_packets =
          let f = process_of core (value_in (heap_in n)) in
          ap (λ (h : HeapState). processes_in core h m.post) looks.heap ∙ ap (map f) (passes.is ∙ sym (without_item front back words) ∙ ap (λ (ws : List (List ℕ)). without (length front) ws) (sym passes.was) ∙ ap (λ (k : ℕ). without k (contents n.post 0)) place)
          ∙ map_without f j (contents n.post 0) ∙ ap (without j) st.packets ∙ sym (map_without (λ (p : Packet). p.item.process) j N.packets)

      pub arrived : (K : Network) × (delivery_at N j ≡ Moved K) × StandFor core m K
      arrived = (
        M,
        moves,
        record {
          count = many ∙ st.count ∙ sym (length-set N.sites packet.to (items_at packet.to N ++ packet.item ∷ []));
          sites = λ i p is. elim (set_cases n.queues.items g i p new (ap (λ (qs : List QueuesState). slice_get qs i) (sym queues) ∙ is)) [
            | inl here ↦ ap (view_of_queues core (heap_in m)) here.1 ∙ new_view ∙ ap (λ (k : ℕ). view_at k M) (sym here.0)
            | inr apart ↦
                view_stays core n.store.desk m.store.desk p (sites.sites i p apart.1).0 keeps p (λ queue. refl) refl ∙ st.sites i p apart.1 ∙ sym (other_view i apart.0)
          ];
          packets = left_packets;
          to = to ∙ removed n.to.items j ∙ ap (without j) st.to ∙ sym (map_without (λ (p : Packet). p.to) j N.packets);
          homes = homes ∙ st.homes;
        },
      )
