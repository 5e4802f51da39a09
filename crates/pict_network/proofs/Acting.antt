-- What happens at a site is what its first process does in the union.
use Rattle.std.proofs.Common.{ℕ, ◌≡◌, ◌<◌, ◌+◌, Bool, true, false, not, nat_eq, cond, List, [], ◌∷◌, ◌++◌, map, filter, length, refl, sym, ap, ◌∙◌, subst, Option, Some, None, option_map, slice_get, arith}
use Rattle.std.specs.Prelude.{◌%◌}
use Rattle.std.proofs.lemmas.List.{append-nil, length-set, length_push}
use Rattle.pict_core.specs.Term.{Process}
use Rattle.pict_core.specs.Closed.{IsUnder}
use Rattle.pict_core.specs.Configuration.{Mark, Ready, Parked, Entry, Configuration, AreClosed}
use Rattle.pict_core.specs.Step as step
use Rattle.pict_core.specs.Step.{Label, Quiet, Comm, StepOutcome, Steps, Traps, Wrong, gone, kept, added, with_process, with_channel, least, is_partner, act}
use Rattle.pict_core.specs.Deed.{Deed, Ends, Keeps, Forks, Opens, Parks, Serves, Takes, Stops, Misfits, deed}
use Rattle.pict_core.specs.Placing as core
use Rattle.pict_core.specs.Placing.{stamp_or_none}
use Rattle.pict_core.proofs.Deeds.{acts_are_placed}
use Rattle.pict_view.specs.Placed.{without}
use Rattle.pict_network.specs.Network.{Item, Home, Network, entry, entries_of, by_stamp, union}
use Rattle.pict_network.specs.Events.{Happening, Moved, Stepped, at_site, sent, stamped, fresh, forked, woken, turned, with_home, parked_at, parks, served, took, at_channel, place, goes_or_acts, deed_in, home_of, act_of, act_at}
use Rattle.pict_network.specs.Invariant.{Apart, AreApart, Below, IsNetwork}
use Rattle.pict_network.specs.Laws.{Agrees}
use Rattle.pict_network.proofs.Puts.{unequal_above, put_last, gone_put, kept_put, below_by_stamp, apart_by_stamp, all_append, all_front, all_rest, is_other, is_below}
use Rattle.pict_network.proofs.Unions.{set_same, get_again, ready_of, under_way, parked_of, Inserts, apart_of, inserted, at_a_site, at_a_channel, as_last_packet}
use Rattle.pict_network.proofs.Moving.{first_of, last_of}
use Rattle.pict_network.proofs.Suiting.{First, Suits, Known, process_of, known}

-- ---- below the next stamp

below_without : (n : ℕ) (x : Entry) (N M : Network) → Inserts x N M → Below n (entries_of N) → (x.stamp < n) × Below n (entries_of M)
below_without n x N M i h =
    let b = subst (Below n) i.is h in
    let r = all_rest (is_below n) i.front (x ∷ i.back) b in
    (r.0, subst (Below n) (sym i.without) (all_append (is_below n) i.front i.back (all_front (is_below n) i.front (x ∷ i.back) b) r.1))

below_with : (n : ℕ) (x : Entry) (N M : Network) → Inserts x N M → x.stamp < n → Below n (entries_of M) → Below n (entries_of N)
below_with n x N M i l h =
    let b = subst (Below n) i.without h in
    subst (Below n) (sym i.is) (all_append (is_below n) i.front (x ∷ i.back) (all_front (is_below n) i.front i.back b) (l, all_rest (is_below n) i.front i.back b))

apart_next : (n : ℕ) (es : List Entry) → Below n es → Apart n es
apart_next n [] h = tt
apart_next n (e ∷ es) h = (unequal_above n e.stamp h.0, apart_next n es h.1)

are_apart_without_there : (xs : List Entry) (x : Entry) (ys : List Entry) → AreApart (xs ++ x ∷ ys) → AreApart (xs ++ ys)
are_apart_without_there [] x ys h = h.1
are_apart_without_there (z ∷ xs) x ys h =
    (all_append (is_other z.stamp) xs ys (all_front (is_other z.stamp) xs (x ∷ ys) h.0) ((all_rest (is_other z.stamp) xs (x ∷ ys) h.0).1), are_apart_without_there xs x ys h.1)

are_apart_without : (x : Entry) (N M : Network) → Inserts x N M → AreApart (entries_of N) → AreApart (entries_of M)
are_apart_without x N M i h = subst AreApart (sym i.without) (are_apart_without_there i.front x i.back (subst AreApart i.is h))

-- ---- what steps do to unions

module _ (e : Entry) (N M : Network) (i : Inserts e N M) (apart : Apart e.stamp (entries_of M)) where
  gone_union : N.next_stamp ≡ M.next_stamp → length N.channels ≡ length M.channels → gone e.stamp (union N) ≡ union M
  gone_union h k =
      ap (λ es. record { channels = length N.channels; next_stamp = N.next_stamp; entries = filter (λ (u : Entry). not (nat_eq e.stamp u.stamp)) es }) (inserted e N M i apart)
      ∙ ap (λ es. record { channels = length N.channels; next_stamp = N.next_stamp; entries = es }) (gone_put e (by_stamp (entries_of M)) (apart_by_stamp e.stamp (entries_of M) apart))
      ∙ ap (λ n. record { channels = length N.channels; next_stamp = n; entries = by_stamp (entries_of M) }) h
      ∙ ap (λ n. record { channels = n; next_stamp = M.next_stamp; entries = by_stamp (entries_of M) }) k

  kept_entries : (p : Process) (K : Network) → Inserts (record e { process = p }) K M → map (with_process e.stamp p) (by_stamp (entries_of N)) ≡ by_stamp (entries_of K)
  kept_entries p K j =
      ap (map (with_process e.stamp p)) (inserted e N M i apart) ∙ kept_put e p (by_stamp (entries_of M)) (apart_by_stamp e.stamp (entries_of M) apart)
      ∙ sym (inserted (record e { process = p }) K M j apart)

-- a process with the next stamp
added_union : (mark : Mark) (p : Process) (K L : Network) → Inserts (record { stamp = K.next_stamp; mark = mark; process = p }) L K → Below K.next_stamp (entries_of K) → L.next_stamp ≡ K.next_stamp + 1 → length L.channels ≡ length K.channels
    → added mark p (union K) ≡ union L
added_union mark p K L i b h k =
    let e : Entry = record { stamp = K.next_stamp; mark = mark; process = p } in
    ap (λ es. record { channels = length K.channels; next_stamp = K.next_stamp + 1; entries = es })
    (sym (inserted e L K i (apart_next K.next_stamp (entries_of K) b) ∙ put_last e (by_stamp (entries_of K)) (below_by_stamp K.next_stamp (entries_of K) b)))
    ∙ ap (λ n. record { channels = length K.channels; next_stamp = n; entries = by_stamp (entries_of L) }) (sym h)
    ∙ ap (λ n. record { channels = n; next_stamp = L.next_stamp; entries = by_stamp (entries_of L) }) (sym k)

steps_to : (C D : Configuration) (label : Label) → C ≡ D → Steps C label ≡ Steps D label
steps_to C D label h = ap (λ X. Steps X label) h

-- a process wakes at site s
woken_union : (K : Network) (s : ℕ) (items : List Item) (p : Process) → slice_get K.sites s ≡ Some items → Below K.next_stamp (entries_of K) → added Ready p (union K) ≡ union (woken s p K)
woken_union K s items p h b = let i = last_of K s items (fresh K p) h in added_union Ready p K (woken s p K) (record { front = i.front; back = i.back; is = i.is; without = i.without }) b refl refl

-- one goes behind those that are parked at c
parked_union : (K : Network) (c : ℕ) (h old : Home) (items : List Item) (p : Process) → slice_get K.channels c ≡ Some old → Below K.next_stamp (entries_of (parked_at c h items K)) → added Parked p (union (parked_at c h items K)) ≡ union (parks c h items p K)
parked_union K c h old items p k b =
    let i = at_a_channel K c h old items [] (fresh K p) k in
    added_union Parked p (parked_at c h items K) (parks c h items p K) (record { front = i.front; back = i.back; is = i.is; without = ap (λ z. entries_of (parked_at c h z K)) (sym (append-nil items)) ∙ i.without }) b refl
    (length-set K.channels c (record { site = h.site; parked = items ++ fresh K p ∷ [] }) ∙ sym (length-set K.channels c (record { site = h.site; parked = items })))

home_again : (K : Network) (c : ℕ) (h : Home) (items : List Item) → slice_get K.channels c ≡ Some h → h.parked ≡ items → parked_at c h items K ≡ K
home_again K c h items k e = ap (λ z. parked_at c h z K) (sym e) ∙ ap (λ z. record K { channels = z }) (set_same K.channels c h k)

next_above : (n : ℕ) → n < n + 1
next_above n = omega arith

pub below_more : (n : ℕ) (es : List Entry) → Below n es → Below (n + 1) es
below_more n [] h = tt
below_more n (e ∷ es) h = (omega (arith, h.0), below_more n es h.1)

none_parked_at : (homes : List Home) (s : ℕ) → parked_of (homes ++ record { site = s; parked = [] } ∷ []) ≡ parked_of homes
none_parked_at [] s = refl
none_parked_at (q ∷ qs) s = ap (λ z. map (entry Parked) q.parked ++ z) (none_parked_at qs s)

closed_there : (n : ℕ) (xs : List Entry) (x : Entry) (ys : List Entry) → AreClosed n (xs ++ x ∷ ys) → IsUnder 0 n x.process
closed_there n [] x ys h = h.0
closed_there n (z ∷ xs) x ys h = closed_there n xs x ys h.1

-- ---- an act

module _ (N : Network) (s : ℕ) (x : Item) (rest : List Item) (is : IsNetwork N) (at : slice_get N.sites s ≡ Some (x ∷ rest)) where
  abbrev M : Network
  M = at_site s rest N

  first : Inserts (entry Ready x) N M
  first = first_of N s x rest at

  apart : Apart x.stamp (entries_of M)
  apart = apart_of (entry Ready x) N M first is.apart

  below : Below N.next_stamp (entries_of M)
  below = (below_without N.next_stamp (entry Ready x) N M first is.below).1

  own_below : x.stamp < N.next_stamp
  own_below = (below_without N.next_stamp (entry Ready x) N M first is.below).0

  items_there : slice_get M.sites s ≡ Some rest
  items_there = get_again N.sites s (x ∷ rest) rest at

  gone_is : gone x.stamp (union N) ≡ union M
  gone_is = gone_union (entry Ready x) N M first apart refl refl

  -- with another process in its turn
  abbrev turn : Process → Network
  turn p = turned s x p rest N

  turned_in : (p : Process) → Inserts (entry Ready (record x { process = p })) (turn p) M
  turned_in p = at_a_site N s (x ∷ rest) [] rest (record x { process = p }) at

  kept_is : (p : Process) → kept x.stamp p (union N) ≡ union (turn p)
  kept_is p = ap (λ es. record { channels = length N.channels; next_stamp = N.next_stamp; entries = es }) (kept_entries (entry Ready x) N M first apart p (turn p) (turned_in p))

  turned_below : (p : Process) → Below N.next_stamp (entries_of (turn p))
  turned_below p = below_with N.next_stamp (entry Ready (record x { process = p })) (turn p) M (turned_in p) own_below below

  turned_there : (p : Process) → slice_get (turn p).sites s ≡ Some (record x { process = p } ∷ rest)
  turned_there p = get_again N.sites s (x ∷ rest) (record x { process = p } ∷ rest) at

  forked_by : (p q : Process) (b : Bool) → added Ready q (union (turn p)) ≡ union (cond b (woken s q (turn p)) (stamped (sent ((s + 1) % length (turn p).sites) (fresh (turn p) q) (turn p))))
  forked_by p q true = woken_union (turn p) s (record x { process = p } ∷ rest) q (turned_there p) (turned_below p)
  forked_by p q false =
      let i = as_last_packet (turn p) ((s + 1) % length (turn p).sites) (fresh (turn p) q) in
      added_union Ready q (turn p) (stamped (sent ((s + 1) % length (turn p).sites) (fresh (turn p) q) (turn p))) (record { front = i.front; back = i.back; is = i.is; without = i.without }) (turned_below p) refl refl

  par_is : (p q : Process) → added Ready q (kept x.stamp p (union N)) ≡ union (forked s q (turn p))
  par_is p q = ap (added Ready q) (kept_is p) ∙ forked_by p q (nat_eq (length (turn p).sites) 1)

  new_is : (p : Process) → kept x.stamp p (with_channel (union N)) ≡ union (with_home s (turn p))
  new_is p =
      ap (λ es. record { channels = length N.channels + 1; next_stamp = N.next_stamp; entries = es })
      (kept_entries (entry Ready x) N M first apart p (turn p) (turned_in p) ∙ ap (λ es. by_stamp (ready_of (turn p).sites ++ (under_way N.packets ++ es))) (sym (none_parked_at N.channels s)))
      ∙ ap (λ n. record { channels = n; next_stamp = N.next_stamp; entries = by_stamp (entries_of (with_home s (turn p))) }) (sym (length_push N.channels (record { site = s; parked = [] })))

  apart_M : AreApart (entries_of M)
  apart_M = are_apart_without (entry Ready x) N M first is.apart

  -- ---- at a channel

  module _ (c : ℕ) (h : Home) (k : slice_get N.channels c ≡ Some h) where
    -- it parks
    park_is : (p : Process) → added Parked p (gone x.stamp (union N)) ≡ union (parks c h h.parked p M)
    park_is p =
        ap (added Parked p) (gone_is ∙ ap union (sym (home_again M c h h.parked k refl)))
        ∙ parked_union M c h h h.parked p k (subst (λ K. Below N.next_stamp (entries_of K)) (sym (home_again M c h h.parked k refl)) below)

    -- the first that is parked is taken, out of N or of M
    module _ (u : Item) (others : List Item) (parked_is : h.parked ≡ u ∷ others) (K : Network) (there : slice_get K.channels c ≡ Some h) (apart_K : AreApart (entries_of K)) (below_K : Below K.next_stamp (entries_of K)) where
      without_u : Inserts (entry Parked u) K (parked_at c h others K)
      without_u = subst (λ L. Inserts (entry Parked u) L (parked_at c h others K)) (home_again K c h (u ∷ others) there parked_is) (at_a_channel K c h h [] others u there)

      taken_is : gone u.stamp (union K) ≡ union (parked_at c h others K)
      taken_is = gone_union (entry Parked u) K (parked_at c h others K) without_u (apart_of (entry Parked u) K (parked_at c h others K) without_u apart_K) refl (sym (length-set K.channels c (record h { parked = others })))

      taken_below : Below K.next_stamp (entries_of (parked_at c h others K))
      taken_below = (below_without K.next_stamp (entry Parked u) K (parked_at c h others K) without_u below_K).1

      wakes : (items : List Item) (p : Process) → slice_get K.sites s ≡ Some items → added Ready p (gone u.stamp (union K)) ≡ union (woken s p (parked_at c h others K))
      wakes items p a = ap (added Ready p) taken_is ∙ woken_union (parked_at c h others K) s items p a taken_below

      woken_below : (items : List Item) (p : Process) → slice_get K.sites s ≡ Some items → Below (K.next_stamp + 1) (entries_of (woken s p (parked_at c h others K)))
      woken_below items p a =
          let i = last_of (parked_at c h others K) s items (fresh K p) a in
          below_with (K.next_stamp + 1) (entry Ready (fresh K p)) (woken s p (parked_at c h others K)) (parked_at c h others K) (record { front = i.front; back = i.back; is = i.is; without = i.without }) (next_above K.next_stamp) (below_more K.next_stamp (entries_of (parked_at c h others K)) taken_below)

    -- a reader that served
    served_is : (u : Item) (others : List Item) → h.parked ≡ u ∷ others → (r : Bool) (reader p : Process) → step.served r reader (added Ready p (gone u.stamp (gone x.stamp (union N)))) ≡ union (served r c h others reader (woken s p M))
    served_is u others e true reader p =
        ap (λ C. added Parked reader (added Ready p (gone u.stamp C))) gone_is ∙ ap (added Parked reader) (wakes u others e M k apart_M below rest p items_there)
        ∙ parked_union (woken s p M) c h h others reader k (woken_below u others e M k apart_M below rest p items_there)
    served_is u others e false reader p = ap (λ C. added Ready p (gone u.stamp C)) gone_is ∙ wakes u others e M k apart_M below rest p items_there

    -- a reader that received
    took_is : (u : Item) (others : List Item) → h.parked ≡ u ∷ others → (b : Bool) (p : Process) → added Ready p (gone u.stamp (step.took b x.stamp (union N))) ≡ union (woken s p (parked_at c h others (took b s rest N)))
    took_is u others f true p = wakes u others f N k is.apart is.below (x ∷ rest) p at
    took_is u others f false p = ap (λ C. added Ready p (gone u.stamp C)) gone_is ∙ wakes u others f M k apart_M below rest p items_there

  -- ---- the deeds

  serves_agrees : (r c : ℕ) (v : _) (b : Bool) (reader body : Process) → First N x.process c r → Agrees (core.place (union N) x.stamp r (Serves c v b reader body)) (place N s x rest (Serves c v b reader body))
  serves_agrees r c v b reader body f =
      subst (λ o. Agrees (core.place (union N) x.stamp r (Serves c v b reader body)) (at_channel (λ h. Stepped (served b c h (without 0 h.parked) reader (woken s body M)) (Comm c v)) o)) (sym f.there)
      (steps_to _ _ (Comm c v)
      (ap (λ t. step.served b reader (added Ready body (gone t (gone x.stamp (union N))))) (sym f.stamp)
      ∙ served_is c f.home f.there f.partner f.others f.parked b reader body
      ∙ ap (λ z. union (served b c f.home z reader (woken s body M))) (sym (ap (without 0) f.parked))))

  takes_agrees : (r c : ℕ) (v : _) (b : Bool) (body : Process) → First N x.process c r → Agrees (core.place (union N) x.stamp r (Takes c v b body)) (place N s x rest (Takes c v b body))
  takes_agrees r c v b body f =
      subst (λ o. Agrees (core.place (union N) x.stamp r (Takes c v b body)) (at_channel (λ h. Stepped (woken s body (parked_at c h (without 0 h.parked) (took b s rest N))) (Comm c v)) o)) (sym f.there)
      (steps_to _ _ (Comm c v)
      (ap (λ t. added Ready body (gone t (step.took b x.stamp (union N)))) (sym f.stamp)
      ∙ took_is c f.home f.there f.partner f.others f.parked b body
      ∙ ap (λ z. union (woken s body (parked_at c f.home z (took b s rest N)))) (sym (ap (without 0) f.parked))))

  placed_agrees : (r : ℕ) (d : Deed) → Suits N x.process r d → Agrees (core.place (union N) x.stamp r d) (place N s x rest d)
  placed_agrees r (Ends label) f = steps_to (gone x.stamp (union N)) (union M) label gone_is
  placed_agrees r (Keeps p label) f = steps_to (kept x.stamp p (union N)) (union (turn p)) label (kept_is p)
  placed_agrees r (Forks p q) f = steps_to (added Ready q (kept x.stamp p (union N))) (union (forked s q (turn p))) Quiet (par_is p q)
  placed_agrees r (Opens p) f = steps_to (kept x.stamp p (with_channel (union N))) (union (with_home s (turn p))) Quiet (new_is p)
  placed_agrees r (Parks c p) f =
      subst (λ o. Agrees (Steps (added Parked p (gone x.stamp (union N))) Quiet) (at_channel (λ h. Stepped (parks c h h.parked p M) Quiet) o)) (sym f.there)
      (steps_to (added Parked p (gone x.stamp (union N))) (union (parks c f.home f.home.parked p M)) Quiet (park_is c f.home f.there p))
  placed_agrees r (Serves c v b reader body) f = serves_agrees r c v b reader body f.0
  placed_agrees r (Takes c v b body) f = takes_agrees r c v b body f
  placed_agrees r (Stops place) f = refl
  placed_agrees r Misfits f = refl

  -- ---- at its home, or on its way there

  tested_home : (b : Bool) (o : StepOutcome) (local : Happening) (K : Network) → Agrees o local → Agrees o (cond b local (Moved K))
  tested_home true o local K a = a
  tested_home false o local K a = tt

  home_agrees : (o : StepOutcome) (local : Happening) (home : Option ℕ) → Agrees o local → Agrees o (goes_or_acts s x M local home)
  home_agrees o local None a = a
  home_agrees o local (Some g) a = tested_home (nat_eq g s) o local (sent g x M) a

  pub process_under : IsUnder 0 (length N.channels) x.process
  process_under = closed_there (length N.channels) first.front (entry Ready x) first.back (subst (AreClosed (length N.channels)) first.is is.closed)

  -- what its first process does, with its least partner
  pub first_agrees : Agrees (act (union N) x.stamp (least (is_partner x.process) (by_stamp (entries_of N))) x.process) (act_of N s (Some (x ∷ rest)))
  first_agrees =
      let o : Option Entry = least (is_partner x.process) (by_stamp (entries_of N)) in
      let h : Known N x.process o = known N is x.process process_under in
      let d : Deed = deed (length N.channels) (option_map process_of o) x.process in
      let a : Agrees (core.place (union N) x.stamp (stamp_or_none o) d) (place N s x rest d) = placed_agrees (stamp_or_none o) d h.suits in
      let b : Agrees (act (union N) x.stamp o x.process) (place N s x rest d) = subst (λ z. Agrees z (place N s x rest d)) (sym (acts_are_placed (union N) x.stamp o x.process)) a in
      home_agrees (act (union N) x.stamp o x.process) (place N s x rest (deed_in N x.process)) (home_of N.channels x.process)
      (subst (λ z. Agrees (act (union N) x.stamp o x.process) (place N s x rest z)) h.same b)

  pub act_agrees : Agrees (act (union N) x.stamp (least (is_partner x.process) (by_stamp (entries_of N))) x.process) (act_at N s)
  act_agrees = subst (λ o. Agrees (act (union N) x.stamp (least (is_partner x.process) (by_stamp (entries_of N))) x.process) (act_of N s o)) (sym at) first_agrees
