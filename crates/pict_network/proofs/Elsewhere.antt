-- What a deed that is placed at its site changes at other sites, on the way, and of homes: nothing, but for a channel that it
-- opens. It moves nothing.
use Rattle.std.proofs.Common.{ℕ, zero, suc, ◌≡◌, ◌≢◌, ◌+◌, Bool, true, false, nat_eq, cond, ◌⊎◌, List, [], ◌∷◌, ◌++◌, map, length, refl, sym, ap, ◌∙◌, subst, Option, Some, None, option_map, slice_get, slice_set, arith}
use Rattle.std.specs.Prelude.{◌%◌}
use Rattle.std.proofs.lemmas.List.{map-append, map-set, length-set, append-nil}
use Rattle.std.proofs.lemmas.Option.{slice_get-map}
use Rattle.std.proofs.lemmas.Bool.Decides.{nat_tests}
use Rattle.pict_syntax.specs.declared.span.Span.{Span}
use Rattle.pict_core.specs.Term.{Val, Pat, Process, Var, Chan, Int, Char, Boolean, Text, PrimitiveVal, Record, Zero, Par, New, Out, In, If}
use Rattle.pict_core.specs.Matching.{match_value}
use Rattle.pict_core.specs.Primitives.{Effect, Leaves, Nothing, Answer, Trap, effect_of}
use Rattle.pict_core.specs.Step.{Label, printing}
use Rattle.pict_core.specs.Deed.{Deed, Ends, Keeps, Forks, Opens, Parks, Serves, Takes, Stops, Misfits, leaves, performs, serves, offers, takes, asks, chooses, deed}
use Rattle.pict_view.specs.Placed.{partner_at}
use Rattle.pict_network.specs.Network.{Item, Home, Network}
use Rattle.pict_network.specs.Events.{Happening, Moved, Stepped, Stopped, Misshapen, NoEvent, at_site, items_at, sent, fresh, stamped, behind, woken, turned, forked, with_home, parked_at, parks, served, took, at_channel, place, processes_of, lists_of, deed_in, home_of}
use Rattle.pict_network.specs.SiteView.{list_for, IsNoFork, IsNoOpening}
use Rattle.pict_network.proofs.Unions.{set_same, some_same}
use Rattle.pict_network.proofs.Viewing.{none_here, IsHere, site_of, Local, Here, is_here}

-- ---- lists

pub get_elsewhere : {X : Type 0} (xs : List X) (i j : ℕ) (y : X) → j ≢ i → slice_get (slice_set xs i y) j ≡ slice_get xs j
get_elsewhere [] i j y h = refl
get_elsewhere (x ∷ xs) zero zero y h = absurd (h refl)
get_elsewhere (x ∷ xs) zero (suc j) y h = refl
get_elsewhere (x ∷ xs) (suc i) zero y h = refl
get_elsewhere (x ∷ xs) (suc i) (suc j) y h = get_elsewhere xs i j y (λ e. h (ap suc e))

-- what is put where the same is changes nothing
pub set_mapped : {X Y : Type 0} (f : X → Y) (xs : List X) (i : ℕ) (x y : X) → slice_get xs i ≡ Some x → f y ≡ f x → map f (slice_set xs i y) ≡ map f xs
set_mapped f xs i x y h e =
    map-set f xs i y ∙ ap (slice_set (map f xs) i) e ∙ set_same (map f xs) i (f x) (slice_get-map f xs i ∙ ap (option_map f) h)

away : (g s t : ℕ) → nat_eq g s ≡ true → t ≢ s → nat_eq g t ≡ false
away g s t h apart = grind (arith, nat_tests)

-- ---- nothing changes elsewhere

-- M has what N has but at site s
pub record Still (s : ℕ) (N M : Network) : Type 0 where
  pub sites : (t : ℕ) → t ≢ s → slice_get M.sites t ≡ slice_get N.sites t
  pub count : length M.sites ≡ length N.sites
  pub packets : M.packets ≡ N.packets
  pub lists : (t : ℕ) → t ≢ s → map (list_for t) M.channels ≡ map (list_for t) N.channels
  pub homes : map site_of M.channels ≡ map site_of N.channels

still_then : (s : ℕ) (N M K : Network) → Still s N M → Still s M K → Still s N K
still_then s N M K a b = record {
  sites = λ t apart. b.sites t apart ∙ a.sites t apart;
  count = b.count ∙ a.count;
  packets = b.packets ∙ a.packets;
  lists = λ t apart. b.lists t apart ∙ a.lists t apart;
  homes = b.homes ∙ a.homes;
}

still_here : (s : ℕ) (N : Network) → Still s N N
still_here s N = record { sites = λ t apart. refl; count = refl; packets = refl; lists = λ t apart. refl; homes = refl }

still_stamped : (s : ℕ) (N M : Network) → Still s N M → Still s N (stamped M)
still_stamped s N M a = record { sites = a.sites; count = a.count; packets = a.packets; lists = a.lists; homes = a.homes }

still_at_site : (s : ℕ) (N : Network) (items : List Item) → Still s N (at_site s items N)
still_at_site s N items = record {
  sites = λ t apart. get_elsewhere N.sites s t items apart;
  count = length-set N.sites s items;
  packets = refl;
  lists = λ t apart. refl;
  homes = refl;
}

still_woken : (s : ℕ) (N : Network) (p : Process) → Still s N (woken s p N)
still_woken s N p = still_stamped s N (behind s (fresh N p) N) (still_at_site s N (items_at s N ++ fresh N p ∷ []))

module _ (s : ℕ) (N : Network) (c : ℕ) (h : Home) (at : slice_get N.channels c ≡ Some h) (here : nat_eq h.site s ≡ true) where
  none_there : (t : ℕ) → t ≢ s → (items : List Item) → list_for t (record h { parked = items }) ≡ []
  none_there t apart items = ap (λ b. cond b (processes_of items) []) (away h.site s t here apart)

  still_parked : (items : List Item) → Still s N (parked_at c h items N)
  still_parked items = record {
    sites = λ t apart. refl;
    count = refl;
    packets = refl;
    lists = λ t apart. set_mapped (list_for t) N.channels c h (record h { parked = items }) at (none_there t apart items ∙ sym (none_there t apart h.parked));
    homes = set_mapped site_of N.channels c h (record h { parked = items }) at refl;
  }

  still_parks : (items : List Item) (p : Process) → Still s N (parks c h items p N)
  still_parks items p = still_stamped s N (parked_at c h (items ++ fresh N p ∷ []) N) (still_parked (items ++ fresh N p ∷ []))

  still_served : (r : Bool) (items : List Item) (reader : Process) → Still s N (served r c h items reader N)
  still_served true items reader = still_parks items reader
  still_served false items reader = still_parked items

still_took : (s : ℕ) (N : Network) (r : Bool) (rest : List Item) → Still s N (took r s rest N)
still_took s N true rest = still_here s N
still_took s N false rest = still_at_site s N rest

-- ---- what is placed

-- M has what N has but at site s, and these channels more
pub record Elsewhere (s : ℕ) (more : List Home) (N M : Network) : Type 0 where
  pub sites : (t : ℕ) → t ≢ s → slice_get M.sites t ≡ slice_get N.sites t
  pub count : length M.sites ≡ length N.sites
  pub packets : M.packets ≡ N.packets
  pub lists : (t : ℕ) → t ≢ s → map (list_for t) M.channels ≡ map (list_for t) N.channels ++ map (list_for t) more
  pub homes : map site_of M.channels ≡ map site_of N.channels ++ map site_of more

still_elsewhere : (s : ℕ) (N M : Network) → Still s N M → Elsewhere s [] N M
still_elsewhere s N M a = record {
  sites = a.sites;
  count = a.count;
  packets = a.packets;
  lists = λ t apart. a.lists t apart ∙ sym (append-nil (map (list_for t) N.channels));
  homes = a.homes ∙ sym (append-nil (map site_of N.channels));
}

opens_elsewhere : (s : ℕ) (N : Network) (items : List Item) → Elsewhere s (record { site = s; parked = [] } ∷ []) N (with_home s (at_site s items N))
opens_elsewhere s N items = record {
  sites = λ t apart. get_elsewhere N.sites s t items apart;
  count = length-set N.sites s items;
  packets = refl;
  lists = λ t apart. map-append (list_for t) N.channels (record { site = s; parked = [] } ∷ []);
  homes = map-append site_of N.channels (record { site = s; parked = [] } ∷ []);
}

-- the channels that a deed opens at site s
abbrev pub more_of : ℕ → Deed → List Home
more_of s (Opens p) = record { site = s; parked = [] } ∷ []
more_of s _ = []

abbrev pub IsElsewhere : ℕ → List Home → Network → Happening → Type 0
IsElsewhere s more N (Moved M) = ⊥
IsElsewhere s more N (Stepped M label) = Elsewhere s more N M
IsElsewhere s more N (Stopped at) = Unit {0}
IsElsewhere s more N Misshapen = Unit {0}
IsElsewhere s more N NoEvent = Unit {0}

module _ (N : Network) (s : ℕ) (x : Item) (rest : List Item) where
  abbrev left : Network
  left = at_site s rest N

  abbrev turn : Process → Network
  turn p = turned s x p rest N

  channel_elsewhere : (go : Home → Happening) (o : Option Home) → IsHere s (option_map site_of o) → ((h : Home) → o ≡ Some h → nat_eq h.site s ≡ true → IsElsewhere s [] N (go h)) → IsElsewhere s [] N (at_channel go o)
  channel_elsewhere go None a f = tt
  channel_elsewhere go (Some h) a f = f h refl a

  fork_elsewhere : (p q : Process) (b : Bool) → b ≡ true → Elsewhere s [] N (cond b (woken s q (turn p)) (stamped (sent ((s + 1) % length (turn p).sites) (fresh (turn p) q) (turn p))))
  fork_elsewhere p q true e =
      still_elsewhere s N (woken s q (turn p)) (still_then s N (turn p) (woken s q (turn p)) (still_at_site s N (record x { process = p } ∷ rest)) (still_woken s (turn p) q))
  fork_elsewhere p q false e = cc

  place_elsewhere : (d : Deed) → Local N s d → IsElsewhere s (more_of s d) N (place N s x rest d)
  place_elsewhere (Ends label) a = still_elsewhere s N left (still_at_site s N rest)
  place_elsewhere (Keeps p label) a = still_elsewhere s N (turn p) (still_at_site s N (record x { process = p } ∷ rest))
  place_elsewhere (Forks p q) a = fork_elsewhere p q (nat_eq (length (turn p).sites) 1) (ap (λ n. nat_eq n 1) (length-set N.sites s (record x { process = p } ∷ rest)) ∙ a)
  place_elsewhere (Opens p) a = opens_elsewhere s N (record x { process = p } ∷ rest)
  place_elsewhere (Parks c p) a =
      channel_elsewhere _ (slice_get N.channels c) a
      (λ h at here. still_elsewhere s N (parks c h h.parked p left) (still_then s N left (parks c h h.parked p left) (still_at_site s N rest) (still_parks s left c h at here h.parked p)))
  place_elsewhere (Serves c v r reader body) a =
      channel_elsewhere _ (slice_get N.channels c) a
      (λ h at here.
      let K : Network = woken s body left in
      let to_K = still_then s N left K (still_at_site s N rest) (still_woken s left body) in
      still_elsewhere s N _ (still_then s N K _ to_K (still_served s K c h at here r _ reader)))
  place_elsewhere (Takes c v r body) a =
      channel_elsewhere _ (slice_get N.channels c) a
      (λ h at here.
      let K : Network = took r s rest N in
      let at_K : slice_get K.channels c ≡ Some h = ap (λ z. slice_get z c) (took_channels r) ∙ at in
      let to_K = still_took s N r rest in
      let L : Network = parked_at c h _ K in
      still_elsewhere s N (woken s body L) (still_then s N L (woken s body L) (still_then s N K L to_K (still_parked s K c h at_K here _)) (still_woken s L body)))
    where
      took_channels : (b : Bool) → (took b s rest N).channels ≡ N.channels
      took_channels true = refl
      took_channels false = refl
  place_elsewhere (Stops at) a = tt
  place_elsewhere Misfits a = tt

  -- what a process does at its site changes nothing elsewhere, but for a channel that it opens
  pub place_here : (p : Process) → IsNoFork p ⊎ (nat_eq (length N.sites) 1 ≡ true) → IsHere s (home_of N.channels p) → IsElsewhere s (more_of s (deed_in N p)) N (place N s x rest (deed_in N p))
  place_here p fork a = place_elsewhere (deed_in N p) (is_here N s p fork a).local

-- ---- a process that opens no channel

module _ (s : ℕ) where
  abbrev OpensNone : Deed → Type 0
  OpensNone d = more_of s d ≡ []

  leaves_none : (at : Span) (label : Label) (l : Leaves) → OpensNone (leaves at label l)
  leaves_none at label Nothing = refl
  leaves_none at label (Answer k a) = refl
  leaves_none at label Trap = refl

  performs_none : (at : Span) (o : Option Effect) → OpensNone (performs at o)
  performs_none at None = refl
  performs_none at (Some e) = leaves_none at (printing e.printed) e.leaves

  serves_none : (c : ℕ) (v : Val) (r : Bool) (reader body : Process) (o : Option (List Val)) → OpensNone (serves c v r reader body o)
  serves_none c v r reader body None = refl
  serves_none c v r reader body (Some bound) = refl

  offers_none : (c : ℕ) (v : Val) (p : Process) (o : Option Process) → OpensNone (offers c v p o)
  offers_none c v p None = refl
  offers_none c v p (Some Zero) = refl
  offers_none c v p (Some (Par q k)) = refl
  offers_none c v p (Some (New q)) = refl
  offers_none c v p (Some (Out w u at)) = refl
  offers_none c v p (Some (In chan r pattern body)) = serves_none c v r (In chan r pattern body) body (match_value pattern v)
  offers_none c v p (Some (If w q k)) = refl

  takes_none : (c : ℕ) (v : Val) (r : Bool) (body : Process) (o : Option (List Val)) → OpensNone (takes c v r body o)
  takes_none c v r body None = refl
  takes_none c v r body (Some bound) = refl

  asks_none : (c : ℕ) (r : Bool) (pattern : Pat) (body p : Process) (o : Option Process) → OpensNone (asks c r pattern body p o)
  asks_none c r pattern body p None = refl
  asks_none c r pattern body p (Some Zero) = refl
  asks_none c r pattern body p (Some (Par q k)) = refl
  asks_none c r pattern body p (Some (New q)) = refl
  asks_none c r pattern body p (Some (Out chan message at)) = takes_none c message r body (match_value pattern message)
  asks_none c r pattern body p (Some (In w b l q)) = refl
  asks_none c r pattern body p (Some (If w q k)) = refl

  branch_none : (b : Bool) (q k : Process) (label : Label) → OpensNone (cond b (Keeps q label) (Keeps k label))
  branch_none true q k label = refl
  branch_none false q k label = refl

  chooses_none : (v : Val) (q k : Process) → OpensNone (chooses v q k)
  chooses_none (Boolean b) q k = branch_none b q k _
  chooses_none (Var z) q k = refl
  chooses_none (Chan z) q k = refl
  chooses_none (Int z) q k = refl
  chooses_none (Char z) q k = refl
  chooses_none (Text z) q k = refl
  chooses_none (PrimitiveVal z) q k = refl
  chooses_none (Record z w) q k = refl

  out_none : (n : ℕ) (partner : Option Process) (chan message : Val) (at : Span) → OpensNone (deed n partner (Out chan message at))
  out_none n partner (Var v) message at = refl
  out_none n partner (Chan c) message at = offers_none c message (Out (Chan c) message at) partner
  out_none n partner (Int v) message at = refl
  out_none n partner (Char v) message at = refl
  out_none n partner (Boolean v) message at = refl
  out_none n partner (Text v) message at = refl
  out_none n partner (PrimitiveVal f) message at = performs_none at (effect_of f message)
  out_none n partner (Record v w) message at = refl

  in_none : (n : ℕ) (partner : Option Process) (chan : Val) (r : Bool) (pattern : Pat) (body : Process) → OpensNone (deed n partner (In chan r pattern body))
  in_none n partner (Var v) r pattern body = refl
  in_none n partner (Chan c) r pattern body = asks_none c r pattern body (In (Chan c) r pattern body) partner
  in_none n partner (Int v) r pattern body = refl
  in_none n partner (Char v) r pattern body = refl
  in_none n partner (Boolean v) r pattern body = refl
  in_none n partner (Text v) r pattern body = refl
  in_none n partner (PrimitiveVal f) r pattern body = refl
  in_none n partner (Record v w) r pattern body = refl

  none_opened : (n : ℕ) (partner : Option Process) (p : Process) → IsNoOpening p → OpensNone (deed n partner p)
  none_opened n partner Zero a = refl
  none_opened n partner (Par p q) a = refl
  none_opened n partner (New p) a = absurd a
  none_opened n partner (Out chan message at) a = out_none n partner chan message at
  none_opened n partner (In chan r pattern body) a = in_none n partner chan r pattern body
  none_opened n partner (If test p q) a = chooses_none test p q

  pub no_opening : (N : Network) (p : Process) → IsNoOpening p → more_of s (deed_in N p) ≡ []
  no_opening N p a = none_opened (length N.channels) (partner_at 0 (lists_of N) p) p a
