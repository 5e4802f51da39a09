-- Events keep what holds of networks.
use Rattle.std.proofs.Common.{ℕ, zero, suc, ◌≡◌, ◌≤◌, ◌<◌, ◌+◌, Bool, true, false, nat_eq, nat_lt, cond, ◌⊎◌, inl, inr, List, [], ◌∷◌, ◌++◌, map, length, refl, sym, ap, ◌∙◌, subst, Option, Some, None, option_map, slice_get, slice_set, arith}
use Rattle.std.specs.Prelude.{◌%◌}
use Rattle.std.specs.List.{AllByRecursion}
use Rattle.std.proofs.Math.Nat.{mod-lt}
use Rattle.std.proofs.lemmas.Option.{slice_get_within}
use Rattle.std.proofs.lemmas.List.{length-set}
use Rattle.pict_core.specs.Term.{Val, Process, Var, Chan, Int, Char, Boolean, Text, PrimitiveVal, Record, Zero, Par, New, Out, In, If}
use Rattle.pict_core.specs.Closed.{IsUnder}
use Rattle.pict_core.specs.Configuration.{Mark, Parked, Entry, StampsRise, AreClosed, IsConfiguration}
use Rattle.pict_core.specs.Step.{Label, Quiet, Comm, reads, sends}
use Rattle.pict_core.specs.Deed.{Deed, Ends, Keeps, Forks, Opens, Parks, Serves, Takes, Stops, Misfits}
use Rattle.pict_core.proofs.Stamps.{rise_from}
use Rattle.pict_core.proofs.Kept.{free_steps_keep}
use Rattle.pict_view.specs.Placed.{without}
use Rattle.pict_view.proofs.Lists.{all_pushed, all_without}
use Rattle.pict_network.specs.Network.{Item, Packet, Home, Network, entry, entries_of, put, by_stamp, union}
use Rattle.pict_network.specs.Events.{Happening, Moved, Stepped, Stopped, Misshapen, NoEvent, Event, Act, Delivery, at_site, behind, sent, stamped, fresh, woken, turned, parked_at, parks, served, took, at_channel, place, goes_or_acts, deed_in, home_at, home_of, act_of, delivery_of, happening}
use Rattle.pict_network.specs.Invariant.{Apart, AreApart, Below, ItemsRise, ItemsRead, ItemsSend, IsParked, IsNetwork}
use Rattle.pict_network.specs.Laws.{least_choice, IsNetworkAfter, EventsKeepNetworks}
use Rattle.pict_network.proofs.Puts.{unequal_below, unequal_above, tests, is_less, is_no_less, put_first, put_later, all_append, all_front, all_rest, is_below}
use Rattle.pict_network.proofs.Unions.{some_same, ready_of, under_way, parked_of}
use Rattle.pict_network.proofs.Moving.{moves_keep_unions}
use Rattle.pict_network.proofs.Partners.{true_false, sends_no_reads}
use Rattle.pict_network.proofs.Suiting.{First, Suits, known}
use Rattle.pict_network.proofs.Acting.{below_more, process_under}
use Rattle.pict_network.proofs.Freed.{unions_are_configurations, HappensFreely, event_free}

-- homes and destinations are among so many sites, and what is parked is of one kind and in order
record IsTidy (sites : ℕ) (N : Network) : Type 0 where
  many : length N.sites ≡ sites
  homes : (c : ℕ) (h : Home) → slice_get N.channels c ≡ Some h → (h.site < sites) × IsParked c h
  destinations : AllByRecursion (λ (p : Packet). p.to < sites) N.packets

-- ---- back from the union

rise_apart : (t low n : ℕ) (es : List Entry) → t < low → StampsRise low es n → Apart t es
rise_apart t low n [] l r = tt
rise_apart t low n (e ∷ es) l r = (unequal_below t e.stamp (omega (arith, l, r.0)), rise_apart t (e.stamp + 1) n es (omega (arith, l, r.0)) r.1)

rise_end : (low n : ℕ) (es : List Entry) → StampsRise low es n → low ≤ n
rise_end low n [] r = r
rise_end low n (e ∷ es) r = let h = rise_end (e.stamp + 1) n es r.1 in omega (arith, h, r.0)

record Pulled (low n : ℕ) (e : Entry) (es : List Entry) : Type 0 where
  above : low ≤ e.stamp
  below : e.stamp < n
  apart : Apart e.stamp es
  rest : StampsRise low es n

pulled : (low n : ℕ) (e : Entry) (es : List Entry) → StampsRise low (put e es) n → Pulled low n e es
pulled low n e [] r = record { above = r.0; below = omega (arith, r.1); apart = tt; rest = omega (arith, r.0, r.1) }
pulled low n e (f ∷ fs) r = elim (tests (nat_lt e.stamp f.stamp)) [
  | inl k ↦
      let h = is_less e.stamp f.stamp k in
      let q = subst (λ es. StampsRise low es n) (put_first e f fs h) r in
      let z = rise_end (e.stamp + 1) n (f ∷ fs) q.1 in
      record { above = q.0; below = omega (arith, z); apart = rise_apart e.stamp (e.stamp + 1) n (f ∷ fs) (omega arith) q.1; rest = rise_from (e.stamp + 1) low (f ∷ fs) n (omega (arith, q.0)) q.1 }
  | inr k ↦
      let h = is_no_less e.stamp f.stamp k in
      let q = subst (λ es. StampsRise low es n) (put_later e f fs h) r in
      let p = pulled (f.stamp + 1) n e fs q.1 in
      record { above = omega (arith, q.0, p.above); below = p.below; apart = (unequal_above e.stamp f.stamp (omega (arith, p.above)), p.apart); rest = (q.0, p.rest) }
]

-- what is put among others is apart from a stamp: so are both
apart_unput : (t : ℕ) (e : Entry) (es : List Entry) → Apart t (put e es) → (nat_eq t e.stamp ≡ false) × Apart t es
apart_unput t e [] h = (h.0, tt)
apart_unput t e (f ∷ fs) h = elim (tests (nat_lt e.stamp f.stamp)) [
  | inl k ↦ let q = subst (Apart t) (put_first e f fs (is_less e.stamp f.stamp k)) h in (q.0, q.1)
  | inr k ↦ let q = subst (Apart t) (put_later e f fs (is_no_less e.stamp f.stamp k)) h in let r = apart_unput t e fs q.1 in (r.0, (q.0, r.1))
]

apart_unsorted : (t : ℕ) (es : List Entry) → Apart t (by_stamp es) → Apart t es
apart_unsorted t [] h = tt
apart_unsorted t (e ∷ es) h = let q = apart_unput t e (by_stamp es) h in (q.0, apart_unsorted t es q.1)

closed_unput : (n : ℕ) (e : Entry) (es : List Entry) → AreClosed n (put e es) → IsUnder 0 n e.process × AreClosed n es
closed_unput n e [] h = (h.0, tt)
closed_unput n e (f ∷ fs) h = elim (tests (nat_lt e.stamp f.stamp)) [
  | inl k ↦ let q = subst (AreClosed n) (put_first e f fs (is_less e.stamp f.stamp k)) h in (q.0, q.1)
  | inr k ↦ let q = subst (AreClosed n) (put_later e f fs (is_no_less e.stamp f.stamp k)) h in let r = closed_unput n e fs q.1 in (r.0, (q.0, r.1))
]

apart_back : (n : ℕ) (es : List Entry) → StampsRise 0 (by_stamp es) n → AreApart es × Below n es
apart_back n [] r = (tt, tt)
apart_back n (e ∷ es) r =
    let p = pulled 0 n e (by_stamp es) r in
    let q = apart_back n es p.rest in
    ((apart_unsorted e.stamp es p.apart, q.0), (p.below, q.1))

closed_back : (n : ℕ) (es : List Entry) → AreClosed n (by_stamp es) → AreClosed n es
closed_back n [] h = tt
closed_back n (e ∷ es) h = let q = closed_unput n e (by_stamp es) h in (q.0, closed_back n es q.1)

network_again : (K : ℕ) (M : Network) → IsTidy K M → IsConfiguration (union M) → IsNetwork M
network_again K M t is =
    let a = apart_back M.next_stamp (entries_of M) is.stamps in
    record {
      apart = a.0;
      below = a.1;
      closed = closed_back (length M.channels) (entries_of M) is.closed;
      homes = λ c h k. let p = t.homes c h k in (subst (λ n. h.site < n) (sym t.many) p.0, p.1);
      destinations = subst (λ n. AllByRecursion (λ (p : Packet). p.to < n) M.packets) (sym t.many) t.destinations;
    }

-- ---- parts that stay tidy

set_is : {X : Type 0} (xs : List X) (i j : ℕ) (x y : X) → slice_get (slice_set xs i x) j ≡ Some y → ((i ≡ j) × (y ≡ x)) ⊎ (slice_get xs j ≡ Some y)
set_is [] i j x y h = cc
set_is (z ∷ zs) zero zero x y h = inl (refl, sym (some_same x y h))
set_is (z ∷ zs) zero (suc j) x y h = inr h
set_is (z ∷ zs) (suc i) zero x y h = inr h
set_is (z ∷ zs) (suc i) (suc j) x y h = elim (set_is zs i j x y h) [ inl k ↦ inl (ap suc k.0, k.1) | inr k ↦ inr k ]

more_is : {X : Type 0} (xs : List X) (x : X) (j : ℕ) (y : X) → slice_get (xs ++ x ∷ []) j ≡ Some y → (y ≡ x) ⊎ (slice_get xs j ≡ Some y)
more_is [] x zero y h = inl (sym (some_same x y h))
more_is [] x (suc j) y h = cc
more_is (z ∷ zs) x zero y h = inr h
more_is (z ∷ zs) x (suc j) y h = more_is zs x j y h

module _ (K : ℕ) where
  tidy_site : (s : ℕ) (items : List Item) (N : Network) → IsTidy K N → IsTidy K (at_site s items N)
  tidy_site s items N t = record { many = length-set N.sites s items ∙ t.many; homes = t.homes; destinations = t.destinations }

  tidy_stamped : (N : Network) → IsTidy K N → IsTidy K (stamped N)
  tidy_stamped N t = record { many = t.many; homes = t.homes; destinations = t.destinations }

  tidy_sent : (to : ℕ) (x : Item) (N : Network) → to < K → IsTidy K N → IsTidy K (sent to x N)
  tidy_sent to x N l t = record { many = t.many; homes = t.homes; destinations = all_append (λ (p : Packet). p.to < K) N.packets (record { to = to; item = x } ∷ []) t.destinations (l, tt) }

  tidy_parked : (c : ℕ) (h : Home) (items : List Item) (N : Network) → h.site < K → IsParked c (record h { parked = items }) → IsTidy K N → IsTidy K (parked_at c h items N)
  tidy_parked c h items N l p t = record {
    many = t.many;
    homes = λ i g k. elim (set_is N.channels c i (record h { parked = items }) g k) [
      | inl e ↦ subst (λ (z : Home). (z.site < K) × IsParked i z) (sym e.1) (l, subst (λ n. IsParked n (record h { parked = items })) e.0 p)
      | inr e ↦ t.homes i g e
    ];
    destinations = t.destinations;
  }

  tidy_new : (s : ℕ) (N : Network) → s < K → IsTidy K N → IsTidy K (record N { channels = N.channels ++ record { site = s; parked = [] } ∷ [] })
  tidy_new s N l t = record {
    many = t.many;
    homes = λ i g k. elim (more_is N.channels (record { site = s; parked = [] }) i g k) [
      | inl e ↦ subst (λ (z : Home). (z.site < K) × IsParked i z) (sym e) (l, record { one_kind = inl tt; rise = tt })
      | inr e ↦ t.homes i g e
    ];
    destinations = t.destinations;
  }

  tidy_woken : (s : ℕ) (p : Process) (N : Network) → IsTidy K N → IsTidy K (woken s p N)
  tidy_woken s p N t = tidy_stamped (behind s (fresh N p) N) (tidy_site s _ N t)

-- ---- what is parked

pub rise_more : (mark : Mark) (xs : List Item) (x : Item) → ItemsRise xs → Below x.stamp (map (entry mark) xs) → ItemsRise (xs ++ x ∷ [])
rise_more mark [] x r b = tt
rise_more mark (y ∷ []) x r b = (b.0, tt)
rise_more mark (y ∷ z ∷ ys) x r b = (r.0, rise_more mark (z ∷ ys) x r.1 b.1)

pub rise_tail : (x : Item) (xs : List Item) → ItemsRise (x ∷ xs) → ItemsRise xs
rise_tail x [] r = tt
rise_tail x (y ∷ ys) r = r.1

below_home : (n : ℕ) (homes : List Home) (c : ℕ) (h : Home) → slice_get homes c ≡ Some h → Below n (parked_of homes) → Below n (map (entry Parked) h.parked)
below_home n [] c h k b = cc
below_home n (q ∷ qs) zero h k b = subst (λ (z : Home). Below n (map (entry Parked) z.parked)) (some_same q h k) (all_front (is_below n) (map (entry Parked) q.parked) (parked_of qs) b)
below_home n (q ∷ qs) (suc c) h k b = below_home n qs c h k (all_rest (is_below n) (map (entry Parked) q.parked) (parked_of qs) b)

-- the home of a process is among the homes
module _ (homes : List Home) (K : ℕ) (below : (c : ℕ) (h : Home) → slice_get homes c ≡ Some h → h.site < K) where
  there_below : (c : ℕ) (o : Option Home) → slice_get homes c ≡ o → (g : ℕ) → option_map (λ (h : Home). h.site) o ≡ Some g → g < K
  there_below c None k g e = cc
  there_below c (Some h) k g e = subst (λ n. n < K) (some_same h.site g e) (below c h k)

  channel_below : (v : Val) (g : ℕ) → home_at homes v ≡ Some g → g < K
  channel_below (Var z) g e = cc
  channel_below (Chan c) g e = there_below c (slice_get homes c) refl g e
  channel_below (Int z) g e = cc
  channel_below (Char z) g e = cc
  channel_below (Boolean z) g e = cc
  channel_below (Text z) g e = cc
  channel_below (PrimitiveVal z) g e = cc
  channel_below (Record z w) g e = cc

  pub home_below : (p : Process) (g : ℕ) → home_of homes p ≡ Some g → g < K
  home_below Zero g e = cc
  home_below (Par p q) g e = cc
  home_below (New p) g e = cc
  home_below (Out chan message at) g e = channel_below chan g e
  home_below (In chan r pattern body) g e = channel_below chan g e
  home_below (If test p q) g e = cc

abbrev Tidily : ℕ → Happening → Type 0
Tidily K (Moved M) = IsTidy K M
Tidily K (Stepped M label) = IsTidy K M
Tidily K (Stopped at) = Unit {0}
Tidily K Misshapen = Unit {0}
Tidily K NoEvent = Unit {0}

module _ (N : Network) (is : IsNetwork N) (s : ℕ) (x : Item) (rest : List Item) (here : s < length N.sites) (next_room : (s + 1) % length N.sites < length N.sites) where
  abbrev K : ℕ
  K = length N.sites

  tidy_N : IsTidy K N
  tidy_N = record { many = refl; homes = is.homes; destinations = is.destinations }

  abbrev M : Network
  M = at_site s rest N

  tidy_M : IsTidy K M
  tidy_M = tidy_site K s rest N tidy_N

  abbrev turn : Process → Network
  turn p = turned s x p rest N

  tidy_turned : (p : Process) → IsTidy K (turn p)
  tidy_turned p = tidy_site K s (record x { process = p } ∷ rest) N tidy_N

  forked_tidy : (p q : Process) (b : Bool) → IsTidy K (cond b (woken s q (turn p)) (stamped (sent ((s + 1) % length (turn p).sites) (fresh (turn p) q) (turn p))))
  forked_tidy p q true = tidy_woken K s q (turn p) (tidy_turned p)
  forked_tidy p q false = tidy_stamped K _ (tidy_sent K ((s + 1) % length (turn p).sites) (fresh (turn p) q) (turn p) (subst (λ n. (s + 1) % n < K) (sym (tidy_turned p).many) next_room) (tidy_turned p))

  module _ (c : ℕ) (h : Home) (k : slice_get N.channels c ≡ Some h) where
    kept : IsParked c h
    kept = (is.homes c h k).1

    site : h.site < K
    site = (is.homes c h k).0

    stamps : Below N.next_stamp (map (entry Parked) h.parked)
    stamps = below_home N.next_stamp N.channels c h k (all_rest (is_below N.next_stamp) (under_way N.packets) (parked_of N.channels) (all_rest (is_below N.next_stamp) (ready_of N.sites) (under_way N.packets ++ parked_of N.channels) is.below))

    tail : (u : Item) (others : List Item) → h.parked ≡ u ∷ others → IsParked c (record h { parked = others })
    tail u others e = record {
      one_kind = elim (kept.one_kind) [
        | inl a ↦ inl (subst (ItemsRead c) e a).1
        | inr a ↦ inr (subst (ItemsSend c) e a).1
      ];
      rise = rise_tail u others (subst ItemsRise e kept.rise);
    }

    longer : (p : Process) → ((reads c p ≡ true) × ItemsRead c h.parked) ⊎ ((sends c p ≡ true) × ItemsSend c h.parked) → IsParked c (record h { parked = h.parked ++ fresh M p ∷ [] })
    longer p (inl a) = record { one_kind = inl (all_pushed (λ (y : Item). reads c y.process ≡ true) h.parked (fresh M p) a.1 a.0); rise = rise_more Parked h.parked (fresh M p) kept.rise stamps }
    longer p (inr a) = record { one_kind = inr (all_pushed (λ (y : Item). sends c y.process ≡ true) h.parked (fresh M p) a.1 a.0); rise = rise_more Parked h.parked (fresh M p) kept.rise stamps }

    parks_tidy : (p : Process) → ((reads c p ≡ true) × ItemsRead c h.parked) ⊎ ((sends c p ≡ true) × ItemsSend c h.parked) → IsTidy K (parks c h h.parked p M)
    parks_tidy p q = tidy_stamped K _ (tidy_parked K c h (h.parked ++ fresh M p ∷ []) M site (longer p q) tidy_M)

    all_readers : (u : Item) (others : List Item) → h.parked ≡ u ∷ others → reads c u.process ≡ true → ItemsRead c others
    all_readers u others e a = elim (kept.one_kind) [
      | inl l ↦ (subst (ItemsRead c) e l).1
      | inr l ↦ absurd (true_false (reads c u.process) a (sends_no_reads c c u.process (subst (ItemsSend c) e l).0))
    ]

    served_tidy : (u : Item) (others : List Item) → h.parked ≡ u ∷ others → (r : Bool) (reader p : Process) → u.process ≡ reader → reads c reader ≡ true → IsTidy K (served r c h others reader (woken s p M))
    served_tidy u others e true reader p f a =
        let all = all_readers u others e (ap (reads c) f ∙ a) in
        let b = below_more N.next_stamp (map (entry Parked) others) (subst (λ xs. Below N.next_stamp (map (entry Parked) xs)) e stamps).1 in
        tidy_stamped K _ (tidy_parked K c h (others ++ fresh (woken s p M) reader ∷ []) (woken s p M) site
        (record { one_kind = inl (all_pushed (λ (y : Item). reads c y.process ≡ true) others (fresh (woken s p M) reader) all a); rise = rise_more Parked others (fresh (woken s p M) reader) (tail u others e).rise b })
        (tidy_woken K s p M tidy_M))
    served_tidy u others e false reader p f a = tidy_parked K c h others (woken s p M) site (tail u others e) (tidy_woken K s p M tidy_M)

    taken_tidy : (u : Item) (others : List Item) → h.parked ≡ u ∷ others → (b : Bool) (p : Process) → IsTidy K (woken s p (parked_at c h others (took b s rest N)))
    taken_tidy u others f true p = tidy_woken K s p (parked_at c h others N) (tidy_parked K c h others N site (tail u others f) tidy_N)
    taken_tidy u others f false p = tidy_woken K s p (parked_at c h others M) (tidy_parked K c h others M site (tail u others f) tidy_M)

  serves_tidy : (r c : ℕ) (v : Val) (b : Bool) (reader body : Process) → (f : First N x.process c r) → f.partner.process ≡ reader → reads c reader ≡ true → Tidily K (place N s x rest (Serves c v b reader body))
  serves_tidy r c v b reader body f g a =
      subst (λ o. Tidily K (at_channel (λ h. Stepped (served b c h (without 0 h.parked) reader (woken s body M)) (Comm c v)) o)) (sym f.there)
      (subst (λ z. IsTidy K (served b c f.home z reader (woken s body M))) (sym (ap (without 0) f.parked)) (served_tidy c f.home f.there f.partner f.others f.parked b reader body g a))

  takes_tidy : (r c : ℕ) (v : Val) (b : Bool) (body : Process) → First N x.process c r → Tidily K (place N s x rest (Takes c v b body))
  takes_tidy r c v b body f =
      subst (λ o. Tidily K (at_channel (λ h. Stepped (woken s body (parked_at c h (without 0 h.parked) (took b s rest N))) (Comm c v)) o)) (sym f.there)
      (subst (λ z. IsTidy K (woken s body (parked_at c f.home z (took b s rest N)))) (sym (ap (without 0) f.parked)) (taken_tidy c f.home f.there f.partner f.others f.parked b body))

  place_tidy : (r : ℕ) (d : Deed) → Suits N x.process r d → Tidily K (place N s x rest d)
  place_tidy r (Ends label) f = tidy_M
  place_tidy r (Keeps p label) f = tidy_turned p
  place_tidy r (Forks p q) f = forked_tidy p q (nat_eq (length (turn p).sites) 1)
  place_tidy r (Opens p) f = tidy_new K s (turn p) here (tidy_turned p)
  place_tidy r (Parks c p) f =
      subst (λ o. Tidily K (at_channel (λ h. Stepped (parks c h h.parked p M) Quiet) o)) (sym f.there) (parks_tidy c f.home f.there p f.fits)
  place_tidy r (Serves c v b reader body) f = serves_tidy r c v b reader body f.0 f.1 f.2
  place_tidy r (Takes c v b body) f = takes_tidy r c v b body f
  place_tidy r (Stops place) f = tt
  place_tidy r Misfits f = tt

  -- a home of a process is a site
  home_room : (home : ℕ) → home_of N.channels x.process ≡ Some home → home < K
  home_room home e = home_below N.channels K (λ c h k. (is.homes c h k).0) x.process home e

  tested : (b : Bool) (h k : Happening) → Tidily K h → Tidily K k → Tidily K (cond b h k)
  tested true h k a b = a
  tested false h k a b = b

  goes_tidy : (local : Happening) → Tidily K local → (home : Option ℕ) → home_of N.channels x.process ≡ home → Tidily K (goes_or_acts s x M local home)
  goes_tidy local a None e = a
  goes_tidy local a (Some g) e = tested (nat_eq g s) local (Moved (sent g x M)) a (tidy_sent K g x M (home_room g e) tidy_M)

-- ---- events

room_for : (n s : ℕ) → s < n → (s + 1) % n < n
room_for n s h = mod-lt (s + 1) (omega (arith, h))

act_tidy : (N : Network) → IsNetwork N → (s : ℕ) (o : Option (List Item)) → slice_get N.sites s ≡ o → Tidily (length N.sites) (act_of N s o)
act_tidy N is s None h = tt
act_tidy N is s (Some []) h = tt
act_tidy N is s (Some (x ∷ rest)) h =
    let l = slice_get_within N.sites s (x ∷ rest) h in
    let room = room_for (length N.sites) s l in
    let k = known N is x.process (process_under N s x rest is h) in
    goes_tidy N is s x rest l room (place N s x rest (deed_in N x.process))
    (subst (λ d. Tidily (length N.sites) (place N s x rest d)) k.same (place_tidy N is s x rest l room _ _ k.suits)) (home_of N.channels x.process) refl

delivery_tidy : (N : Network) → IsNetwork N → (j : ℕ) (o : Option Packet) → Tidily (length N.sites) (delivery_of N j o)
delivery_tidy N is j None = tt
delivery_tidy N is j (Some p) =
    tidy_site (length N.sites) p.to _ (record N { packets = without j N.packets })
    (record {
      many = refl;
      homes = is.homes;
      destinations = all_without (λ (q : Packet). q.to < length N.sites) j N.packets is.destinations;
    })

event_tidy : (N : Network) → IsNetwork N → (event : Event) → Tidily (length N.sites) (happening N event)
event_tidy N is (Act s) = act_tidy N is s (slice_get N.sites s) refl
event_tidy N is (Delivery j) = delivery_tidy N is j (slice_get N.packets j)

-- ---- steps are free, and so keep configurations

step_kept : (N : Network) → IsNetwork N → (event : Event) (M : Network) (label : Label) → happening N event ≡ Stepped M label → IsConfiguration (union M)
step_kept N is event M label e =
    let f = subst (HappensFreely N) e (event_free N is event) in
    free_steps_keep (union N) (least_choice N f.0) (union M) label (unions_are_configurations N is) f.2

kept_by : (N : Network) → IsNetwork N → (event : Event) (o : Happening) → happening N event ≡ o → IsNetworkAfter o
kept_by N is event (Moved M) e =
    network_again (length N.sites) M (subst (Tidily (length N.sites)) e (event_tidy N is event))
    (subst IsConfiguration (sym (moves_keep_unions N M event is e)) (unions_are_configurations N is))
kept_by N is event (Stepped M label) e =
    network_again (length N.sites) M (subst (Tidily (length N.sites)) e (event_tidy N is event)) (step_kept N is event M label e)
kept_by N is event (Stopped at) e = tt
kept_by N is event Misshapen e = tt
kept_by N is event NoEvent e = tt

pub events_keep_networks : EventsKeepNetworks
events_keep_networks N event is = kept_by N is event (happening N event) refl
