-- One site steps the oldest first.
use Rattle.std.proofs.Common.{ℕ, zero, suc, ◌≡◌, ◌≢◌, ◌<◌, ◌+◌, Bool, true, false, nat_eq, cond, List, [], ◌∷◌, ◌++◌, map, length, refl, sym, ap, ◌∙◌, subst, Option, Some, None, slice_get, slice_set, arith}
use Rattle.std.specs.Prelude.{◌%◌}
use Rattle.rand_pcg.specs.Lcg.{Lcg}
use Rattle.pict_core.specs.Term.{Process}
use Rattle.pict_core.specs.Closed.{IsClosed}
use Rattle.pict_core.specs.Configuration.{Ready, Parked, Entry, opening}
use Rattle.pict_core.specs.Step.{Label, StepOutcome, Steps, Traps, Wrong, Finished, least, is_ready, is_partner, act, next}
use Rattle.pict_core.specs.Run as core
use Rattle.pict_core.specs.Run.{End, Done, FuelSpent, Trap, Reaches, shown}
use Rattle.pict_core.specs.Deed.{Deed, Ends, Keeps, Forks, Opens, Parks, Serves, Takes, Stops, Misfits}
use Rattle.pict_core.proofs.Nexts.{next_acts, next_finished}
use Rattle.pict_view.specs.Placed.{without}
use Rattle.pict_seed.specs.Stream.{generator, chosen}
use Rattle.pict_network.specs.Network.{Item, Packet, Home, Network, entry, entries_of, by_stamp, union, opening_network}
use Rattle.pict_network.specs.Events.{Happening, Moved, Stepped, Stopped, Misshapen, NoEvent, Act, at_site, items_in, sent, fresh, stamped, woken, turned, parked_at, served, took, at_channel, place, deed_in, home_of, goes_or_acts, act_of, act_at, acts_from, deliveries_from, happening_of}
use Rattle.pict_network.specs.Invariant.{Below, ItemsRise, IsNetwork}
use Rattle.pict_network.specs.Runs as runs
use Rattle.pict_network.specs.Runs.{Chooses, at_start, by_move, by_step, SeedRuns, next_happening}
use Rattle.pict_network.specs.Laws.{Agrees, IsAlone, GoesNext, OneSiteIsOldestFirst, OneSiteRunsOldestFirst}
use Rattle.pict_network.specs.SiteView.{IsViewed, IsMachineStep, OneSiteIsTheMachine}
use Rattle.pict_network.proofs.Viewing.{one_viewed}
use Rattle.pict_network.proofs.Puts.{NonePasses, PassAbove, least_put, above_by_stamp, least_of_none, all_append, all_front, is_below, fails, passes_above}
use Rattle.pict_network.proofs.Partners.{at_most, above_items}
use Rattle.pict_network.proofs.Unions.{ready_of, under_way, parked_of}
use Rattle.pict_network.proofs.Acting.{act_agrees}
use Rattle.pict_network.proofs.Freed.{unions_are_configurations, openings_are_networks}
use Rattle.pict_network.proofs.Keeping.{rise_more, rise_tail, home_below}
use Rattle.pict_network.proofs.Running.{kept}

-- ---- the oldest of the site is the oldest of all

not_true : false ≡ true → ⊥
not_true h = cc

above_parked : (t : ℕ) (items : List Item) → PassAbove t is_ready (map (entry Parked) items)
above_parked t [] = tt
above_parked t (y ∷ items) = ((λ k. absurd (not_true k)), above_parked t items)

above_homes : (t : ℕ) (homes : List Home) → PassAbove t is_ready (parked_of homes)
above_homes t [] = tt
above_homes t (q ∷ qs) = all_append (passes_above t is_ready) (map (entry Parked) q.parked) (parked_of qs) (above_parked t q.parked) (above_homes t qs)

none_parked : (items : List Item) → NonePasses is_ready (map (entry Parked) items)
none_parked [] = tt
none_parked (y ∷ items) = (refl, none_parked items)

none_homes : (homes : List Home) → NonePasses is_ready (parked_of homes)
none_homes [] = tt
none_homes (q ∷ qs) = all_append (fails is_ready) (map (entry Parked) q.parked) (parked_of qs) (none_parked q.parked) (none_homes qs)

module _ (N : Network) (items : List Item) (sites : N.sites ≡ items ∷ []) (packets : N.packets ≡ []) where
  abbrev others : List Item → List Entry
  others items = (map (entry Ready) items ++ []) ++ parked_of N.channels

  entries_are : entries_of N ≡ others items
  entries_are = ap (λ z. ready_of z ++ (under_way N.packets ++ parked_of N.channels)) sites ∙ ap (λ z. ready_of (items ∷ []) ++ (under_way z ++ parked_of N.channels)) packets

oldest : (N : Network) (x : Item) (rest : List Item) → N.sites ≡ (x ∷ rest) ∷ [] → N.packets ≡ [] → ItemsRise (x ∷ rest) → least is_ready (by_stamp (entries_of N)) ≡ Some (entry Ready x)
oldest N x rest h k r =
    let more : List Entry = (map (entry Ready) rest ++ []) ++ parked_of N.channels in
    ap (λ z. least is_ready (by_stamp z)) (entries_are N (x ∷ rest) h k)
    ∙ least_put is_ready (entry Ready x) (by_stamp more) refl
    (above_by_stamp x.stamp is_ready more (all_append (passes_above x.stamp is_ready) (map (entry Ready) rest ++ []) (parked_of N.channels) (all_append (passes_above x.stamp is_ready) (map (entry Ready) rest) [] (above_items is_ready Ready x.stamp x rest (at_most x.stamp) r) tt) (above_homes x.stamp N.channels)))

none_ready : (N : Network) → N.sites ≡ [] ∷ [] → N.packets ≡ [] → least is_ready (by_stamp (entries_of N)) ≡ None
none_ready N h k = ap (λ z. least is_ready (by_stamp z)) (entries_are N [] h k) ∙ least_of_none is_ready (parked_of N.channels) (none_homes N.channels)

-- ---- the site stays alone

abbrev StaysAlone : Happening → Type 0
StaysAlone (Moved M) = ⊥
StaysAlone (Stepped M label) = IsAlone M
StaysAlone (Stopped at) = Unit {0}
StaysAlone Misshapen = Unit {0}
StaysAlone NoEvent = Unit {0}

channel_alone : (go : Home → Happening) → ((h : Home) → StaysAlone (go h)) → (o : Option Home) → StaysAlone (at_channel go o)
channel_alone go f None = tt
channel_alone go f (Some h) = f h

turned_rise : (x : Item) (p : Process) (rest : List Item) → ItemsRise (x ∷ rest) → ItemsRise (record x { process = p } ∷ rest)
turned_rise x p [] r = tt
turned_rise x p (y ∷ rest) r = r

module _ (N : Network) (x : Item) (rest : List Item) (below : Below N.next_stamp (map (entry Ready) (x ∷ rest))) (sites : N.sites ≡ (x ∷ rest) ∷ []) (packets : N.packets ≡ []) (rise : ItemsRise (x ∷ rest)) where
  abbrev M : Network
  M = at_site 0 rest N

  set_to : (items : List Item) → slice_set N.sites 0 items ≡ items ∷ []
  set_to items = ap (λ z. slice_set z 0 items) sites

  rise_rest : ItemsRise rest
  rise_rest = rise_tail x rest rise

  woken_to : (K : Network) (items : List Item) (p : Process) → K.sites ≡ items ∷ [] → (woken 0 p K).sites ≡ (items ++ fresh K p ∷ []) ∷ []
  woken_to K items p h = ap (λ z. slice_set z 0 (items_in (slice_get z 0) ++ fresh K p ∷ [])) h

  forked_alone : (p q : Process) (b : Bool) → b ≡ true → IsAlone (cond b (woken 0 q (turned 0 x p rest N)) (stamped (sent ((0 + 1) % length (turned 0 x p rest N).sites) (fresh (turned 0 x p rest N) q) (turned 0 x p rest N))))
  forked_alone p q true e =
      let K : Network = turned 0 x p rest N in
      record {
        items = (record x { process = p } ∷ rest) ++ fresh K q ∷ [];
        sites = woken_to K (record x { process = p } ∷ rest) q (set_to (record x { process = p } ∷ rest));
        packets = packets;
        rise = rise_more Ready (record x { process = p } ∷ rest) (fresh K q) (turned_rise x p rest rise) below;
      }
  forked_alone p q false e = cc

  served_alone : (b : Bool) (c : ℕ) (h : Home) (others : List Item) (reader body : Process) → IsAlone (served b c h others reader (woken 0 body M))
  served_alone true c h others reader body = record { items = rest ++ fresh M body ∷ []; sites = woken_to M rest body (set_to rest); packets = packets; rise = rise_more Ready rest (fresh M body) rise_rest below.1 }
  served_alone false c h others reader body = record { items = rest ++ fresh M body ∷ []; sites = woken_to M rest body (set_to rest); packets = packets; rise = rise_more Ready rest (fresh M body) rise_rest below.1 }

  took_alone : (b : Bool) (c : ℕ) (h : Home) (others : List Item) (body : Process) → IsAlone (woken 0 body (parked_at c h others (took b 0 rest N)))
  took_alone true c h others body =
      let K : Network = parked_at c h others N in
      record { items = (x ∷ rest) ++ fresh K body ∷ []; sites = woken_to K (x ∷ rest) body sites; packets = packets; rise = rise_more Ready (x ∷ rest) (fresh K body) rise below }
  took_alone false c h others body =
      let K : Network = parked_at c h others M in
      record { items = rest ++ fresh K body ∷ []; sites = woken_to K rest body (set_to rest); packets = packets; rise = rise_more Ready rest (fresh K body) rise_rest below.1 }

  one_site : (items : List Item) → nat_eq (length (slice_set N.sites 0 items)) 1 ≡ true
  one_site items = ap (λ (z : List (List Item)). nat_eq (length z) 1) (set_to items)

  place_alone : (d : Deed) → StaysAlone (place N 0 x rest d)
  place_alone (Ends label) = record { items = rest; sites = set_to rest; packets = packets; rise = rise_rest }
  place_alone (Keeps p label) = record { items = record x { process = p } ∷ rest; sites = set_to (record x { process = p } ∷ rest); packets = packets; rise = turned_rise x p rest rise }
  place_alone (Forks p q) = forked_alone p q (nat_eq (length (turned 0 x p rest N).sites) 1) (one_site (record x { process = p } ∷ rest))
  place_alone (Opens p) = record { items = record x { process = p } ∷ rest; sites = set_to (record x { process = p } ∷ rest); packets = packets; rise = turned_rise x p rest rise }
  place_alone (Parks c p) = channel_alone _ (λ h. record { items = rest; sites = set_to rest; packets = packets; rise = rise_rest }) (slice_get N.channels c)
  place_alone (Serves c v b reader body) = channel_alone _ (λ h. served_alone b c h (without 0 h.parked) reader body) (slice_get N.channels c)
  place_alone (Takes c v b body) = channel_alone _ (λ h. took_alone b c h (without 0 h.parked) body) (slice_get N.channels c)
  place_alone (Stops at) = tt
  place_alone Misfits = tt

  tested : (g : ℕ) → g < 1 → (o : Happening) (K : Network) → StaysAlone o → StaysAlone (cond (nat_eq g 0) o (Moved K))
  tested zero l o K a = a
  tested (suc g) l o K a = absurd (omega (arith, l))

  -- each home is the only site
  home_alone : (below : (c : ℕ) (h : Home) → slice_get N.channels c ≡ Some h → h.site < 1) (o : Happening) → StaysAlone o → (home : Option ℕ) → home_of N.channels x.process ≡ home → StaysAlone (goes_or_acts 0 x M o home)
  home_alone below o a None e = a
  home_alone below o a (Some g) e = tested g (home_below N.channels 1 below x.process g e) o (sent g x M) a

-- ---- acts

goes_next : (N : Network) (o : Happening) (outcome : StepOutcome) → next (union N) ≡ outcome → Agrees outcome o → StaysAlone o → GoesNext N o
goes_next N (Moved M) outcome e a k = k
goes_next N (Stepped M label) outcome e a k = (e ∙ a, k)
goes_next N (Stopped at) outcome e a k = e ∙ a
goes_next N Misshapen outcome e a k = e ∙ a
goes_next N NoEvent outcome e a k = absurd a

acts_next : (N : Network) → IsNetwork N → (items : List Item) → N.sites ≡ items ∷ [] → N.packets ≡ [] → ItemsRise items → GoesNext N (act_at N 0)
acts_next N is [] sites packets rise = subst (λ z. GoesNext N (act_of N 0 (slice_get z 0))) (sym sites) (next_finished (union N) (none_ready N sites packets))
acts_next N is (x ∷ rest) sites packets rise =
    let there : slice_get N.sites 0 ≡ Some (x ∷ rest) = ap (λ z. slice_get z 0) sites in
    let below : Below N.next_stamp (map (entry Ready) (x ∷ rest)) =
    all_front (is_below N.next_stamp) (map (entry Ready) (x ∷ rest)) [] (all_front (is_below N.next_stamp) (map (entry Ready) (x ∷ rest) ++ []) (parked_of N.channels) (subst (Below N.next_stamp) (entries_are N (x ∷ rest) sites packets) is.below)) in
    let homes : (c : ℕ) (h : Home) → slice_get N.channels c ≡ Some h → h.site < 1 = (λ c h k. subst (λ (z : List (List Item)). h.site < length z) sites (is.homes c h k).0) in
    let alone : StaysAlone (act_of N 0 (Some (x ∷ rest))) =
    home_alone N x rest below sites packets rise homes (place N 0 x rest (deed_in N x.process)) (place_alone N x rest below sites packets rise (deed_in N x.process)) (home_of N.channels x.process) refl in
    goes_next N (act_at N 0) (act (union N) x.stamp (least (is_partner x.process) (by_stamp (entries_of N))) x.process)
    (next_acts (union N) (unions_are_configurations N is) (entry Ready x) (oldest N x rest sites packets rise))
    (act_agrees N 0 x rest is there) (subst (λ o. StaysAlone (act_of N 0 o)) (sym there) alone)

pub one_site_is_oldest_first : OneSiteIsOldestFirst
one_site_is_oldest_first N is a = acts_next N is a.items a.sites a.packets a.rise

no_move_of : (N : Network) (o : Happening) → GoesNext N o → IsViewed 0 N o → IsMachineStep N o
no_move_of N (Moved M) a v = a
no_move_of N (Stepped M label) a v = v
no_move_of N (Stopped at) a v = v
no_move_of N Misshapen a v = v
no_move_of N NoEvent a v = v

pub one_site_is_the_machine : OneSiteIsTheMachine
one_site_is_the_machine N is a =
    no_move_of N (act_at N 0) (one_site_is_oldest_first N is a)
    (one_viewed N (ap (λ (z : List (List Item)). nat_eq (length z) 1) a.sites) 0 (slice_get N.sites 0) refl)

-- ---- runs

-- what happens next, by what is ready at the sites and under way
abbrev next_of : Network → Lcg → List (List Item) → List Packet → Happening
next_of N g sites packets = happening_of N (slice_get (acts_from 0 sites ++ deliveries_from 0 packets) (chosen (length (acts_from 0 sites ++ deliveries_from 0 packets)) g).0)

next_alone : (N : Network) (g : Lcg) (items : List Item) → N.sites ≡ items ∷ [] → next_of N g (items ∷ []) [] ≡ act_at N 0
unfolding chosen
next_alone N g [] sites = sym (ap (λ z. act_of N 0 (slice_get z 0)) sites)
next_alone N g (x ∷ rest) sites = refl

pub next_is_act : (N : Network) (g : Lcg) → IsAlone N → next_happening N g ≡ act_at N 0
next_is_act N g a = ap (λ z. next_of N g z N.packets) a.sites ∙ ap (next_of N g (a.items ∷ [])) a.packets ∙ next_alone N g a.items a.sites

record RanNext (p : Process) (count steps : ℕ) (labels : List (ℕ × Label)) (M : Network) : Type 0 where
  is : IsNetwork M
  alone : IsAlone M
  each : count ≡ steps
  reached : Reaches count (opening p) labels (union M)

next_one : (n : ℕ) → suc n ≡ n + 1
next_one n = omega arith

stepped : (p : Process) (count steps : ℕ) (labels : List (ℕ × Label)) (M K : Network) (h : Lcg) (label : Label) → RanNext p count steps labels M → next_happening M h ≡ Stepped K label → RanNext p (count + 1) (steps + 1) (labels ++ shown (steps + 1) label) K
stepped p count steps labels M K h label r e =
    let acts : act_at M 0 ≡ Stepped K label = sym (next_is_act M h r.alone) ∙ e in
    let goes : GoesNext M (Stepped K label) = subst (GoesNext M) acts (one_site_is_oldest_first M r.is r.alone) in
    let there : labels ++ shown (steps + 1) label ≡ labels ++ shown (suc count) label = ap (λ n. labels ++ shown n label) (omega (arith, r.each)) in
    let reached : Reaches (suc count) (opening p) (labels ++ shown (steps + 1) label) (union K) = (union M, labels, label, r.reached, goes.0, there) in
    record {
      is = kept M K (Act 0) (Stepped K label) r.is acts;
      alone = goes.1;
      each = ap (λ n. n + 1) r.each;
      reached = subst (λ n. Reaches n (opening p) (labels ++ shown (steps + 1) label) (union K)) (next_one count) reached;
    }

no_move : (M K : Network) (h : Lcg) → IsNetwork M → IsAlone M → next_happening M h ≡ Moved K → ⊥
no_move M K h is a e = subst (GoesNext M) (sym (next_is_act M h a) ∙ e) (one_site_is_oldest_first M is a)

module _ (p : Process) (g : Lcg) (u : IsClosed p) where
  ran_next : (count steps : ℕ) (labels : List (ℕ × Label)) (M : Network) (h : Lcg) → Chooses (opening_network 0 p) g count steps labels M h → RanNext p count steps labels M
  ran_next count steps labels M h at_start =
      let o = openings_are_networks 0 p u in
      record { is = o.0; alone = record { items = record { stamp = 0; process = p } ∷ []; sites = refl; packets = refl; rise = tt }; each = refl; reached = (refl, refl) }
  ran_next count steps labels M h (by_move {count = n} {M = L} {h = k} r e) = let f = ran_next n steps labels L k r in absurd (no_move L M k f.is f.alone e)
  ran_next count steps labels M h (by_step {count = n} {steps = m} {labels = ls} {M = L} {h = k} {label = label} r e) = stepped p n m ls L M k label (ran_next n m ls L k r) e

not_finished : (N : Network) (o : Happening) → GoesNext N o → o ≢ NoEvent → next (union N) ≢ Finished
not_finished N (Moved M) a n e = absurd a
not_finished N (Stepped M label) a n e = let f : Steps (union M) label ≡ Finished = sym a.0 ∙ e in cc
not_finished N (Stopped at) a n e = let f : Traps at ≡ Finished = sym a ∙ e in cc
not_finished N Misshapen a n e = let f : Wrong ≡ Finished = sym a ∙ e in cc
not_finished N NoEvent a n e = n refl

ends_as : (N : Network) (fuel count : ℕ) (o : Happening) → GoesNext N o → (end : End) → runs.EndsAfter fuel count o end → core.EndsAfter fuel count (next (union N)) end
ends_as N fuel count o a Done e = (e.0, subst (GoesNext N) e.1 a)
ends_as N fuel count o a FuelSpent e = (e.0, not_finished N o a e.1)
ends_as N fuel count o a (Trap at) e = (e.0, subst (GoesNext N) e.1 a)
ends_as N fuel count o a core.Misshapen e = (e.0, subst (GoesNext N) e.1 a)

pub one_site_runs_oldest_first : OneSiteRunsOldestFirst
one_site_runs_oldest_first p seed fuel end labels r u =
    let f = ran_next p (generator seed) u r.count r.steps labels r.last r.after r.chooses in
    let goes : GoesNext r.last (next_happening r.last r.after) = subst (GoesNext r.last) (sym (next_is_act r.last r.after f.alone)) (one_site_is_oldest_first r.last f.is f.alone) in
    (record { steps = r.count; last = union r.last; reached = f.reached; ends = ends_as r.last fuel r.count (next_happening r.last r.after) goes end r.ends }, refl, f.each, refl)
