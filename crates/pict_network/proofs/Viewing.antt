-- An act at a site is a step of the site's view.
use Rattle.std.proofs.Common.{ℕ, ◌≡◌, ◌+◌, Bool, true, false, nat_eq, cond, ◌⊎◌, inl, inr, List, [], ◌∷◌, ◌++◌, map, length, refl, sym, ap, ◌∙◌, subst, Option, Some, None, option_map, slice_get, slice_set}
use Rattle.std.specs.Prelude.{◌%◌}
use Rattle.std.specs.Option.{unwrap_or}
use Rattle.std.proofs.lemmas.List.{map-append, map-set, length-map, length-set, append-nil}
use Rattle.std.proofs.lemmas.Option.{slice_get-map}
use Rattle.pict_syntax.specs.declared.span.Span.{Span}
use Rattle.pict_core.specs.Term.{Val, Pat, Process, Var, Chan, Int, Char, Boolean, Text, PrimitiveVal, Record, Zero, Par, New, Out, In, If}
use Rattle.pict_core.specs.Matching.{match_value}
use Rattle.pict_core.specs.Primitives.{Effect, Leaves, Nothing, Answer, Trap, effect_of}
use Rattle.pict_core.specs.Step.{Label, Quiet, Comm, printing}
use Rattle.pict_core.specs.Deed.{Deed, Ends, Keeps, Forks, Opens, Parks, Serves, Takes, Stops, Misfits, leaves, performs, serves, offers, takes, asks, chooses, deed}
use Rattle.pict_view.specs.View.{View, list_at}
use Rattle.pict_view.specs.Moved as view
use Rattle.pict_view.specs.Moved.{if_replicated}
use Rattle.pict_view.specs.Placed as views
use Rattle.pict_view.specs.Placed.{without, if_input, if_output, partner_at, next_view}
use Rattle.pict_view.proofs.Lists.{map_without}
use Rattle.pict_network.specs.Network.{Item, Home, Network}
use Rattle.pict_network.specs.Events.{Happening, Moved, Stepped, Stopped, Misshapen, NoEvent, at_site, items_in, items_at, sent, fresh, stamped, woken, turned, with_home, parked_at, parks, served, took, at_channel, place, processes_of, lists_of, deed_in, home_at, home_of, goes_or_acts, act_of}
use Rattle.pict_network.specs.SiteView.{list_for, view_at, IsViewed, IsNoFork, ActsAreViewed}
use Rattle.pict_network.proofs.Unions.{get_again}

pub none_here : (b : Bool) → cond b (processes_of []) [] ≡ []
none_here true = refl
none_here false = refl

abbrev process_of : Item → Process
process_of x = x.process

-- ---- what happens, beside what becomes of the view

abbrev Beside : ℕ → view.Moved View → Happening → Type 0
Beside s o (Moved M) = Unit {0}
Beside s o (Stepped M label) = o ≡ view.Moves (view_at s M) label
Beside s o (Stopped at) = o ≡ view.Stops at
Beside s o Misshapen = o ≡ view.Misshapen
Beside s o NoEvent = o ≡ view.Over

-- a home, if there is one, is this site
abbrev pub IsHere : ℕ → Option ℕ → Type 0
IsHere s None = Unit {0}
IsHere s (Some g) = nat_eq g s ≡ true

abbrev pub site_of : Home → ℕ
site_of h = h.site

-- of a deed that is placed at its site alone
abbrev pub Local : Network → ℕ → Deed → Type 0
Local N s (Ends label) = Unit {0}
Local N s (Keeps q label) = Unit {0}
Local N s (Forks q k) = nat_eq (length N.sites) 1 ≡ true
Local N s (Opens q) = Unit {0}
Local N s (Parks c q) = IsHere s (option_map site_of (slice_get N.channels c))
Local N s (Serves c v replicated reader body) = IsHere s (option_map site_of (slice_get N.channels c))
Local N s (Takes c v replicated body) = IsHere s (option_map site_of (slice_get N.channels c))
Local N s (Stops at) = Unit {0}
Local N s Misfits = Unit {0}

-- ---- deeds

module _ (N : Network) (s : ℕ) (x : Item) (rest : List Item) (at : slice_get N.sites s ≡ Some (x ∷ rest)) where
  abbrev M : Network
  M = at_site s rest N

  abbrev ready : List Process
  ready = processes_of rest

  abbrev lists : List (List Process)
  lists = map (list_for s) N.channels

  rest_there : slice_get M.sites s ≡ Some rest
  rest_there = get_again N.sites s (x ∷ rest) rest at

  turned_there : (p : Process) → slice_get (turned s x p rest N).sites s ≡ Some (record x { process = p } ∷ rest)
  turned_there p = get_again N.sites s (x ∷ rest) (record x { process = p } ∷ rest) at

  woken_there : (K : Network) (items : List Item) (p : Process) → slice_get K.sites s ≡ Some items → slice_get (woken s p K).sites s ≡ Some (items ++ fresh K p ∷ [])
  woken_there K items p h = get_again K.sites s items (items_at s K ++ fresh K p ∷ []) h ∙ ap (λ o. Some (items_in o ++ fresh K p ∷ [])) h

  -- the view of a network afterwards
  seen : (K : Network) (items : List Item) (processes : List Process) (parked : List (List Process)) (label : Label) → slice_get K.sites s ≡ Some items → processes ≡ processes_of items → parked ≡ map (list_for s) K.channels
      → views.moves processes parked label ≡ view.Moves (view_at s K) label
  seen K items processes parked label h e f =
      ap (λ z. views.moves z parked label) e ∙ ap (λ z. views.moves (processes_of items) z label) f
      ∙ ap (λ o. views.moves (processes_of (items_in o)) (map (list_for s) K.channels) label) (sym h)

  one_behind : (items : List Item) (y : Item) → processes_of items ++ y.process ∷ [] ≡ processes_of (items ++ y ∷ [])
  one_behind items y = sym (map-append process_of items (y ∷ []))

  -- ---- at a channel of this site

  module _ (c : ℕ) (h : Home) (here : nat_eq h.site s ≡ true) where
    list_here : (items : List Item) → list_for s (record h { parked = items }) ≡ processes_of items
    list_here items = ap (λ b. cond b (processes_of items) []) here

    set_here : (items : List Item) (processes : List Process) → processes ≡ processes_of items → slice_set lists c processes ≡ map (list_for s) (slice_set N.channels c (record h { parked = items }))
    set_here items processes e = ap (slice_set lists c) (e ∙ sym (list_here items)) ∙ sym (map-set (list_for s) N.channels c (record h { parked = items }))

    others_here : without 0 (list_for s h) ≡ processes_of (without 0 h.parked)
    others_here = ap (without 0) (list_here h.parked) ∙ sym (map_without process_of 0 h.parked)

    parks_seen : (p : Process) → views.moves ready (slice_set lists c (list_for s h ++ p ∷ [])) Quiet ≡ view.Moves (view_at s (parks c h h.parked p M)) Quiet
    parks_seen p =
        seen (parks c h h.parked p M) rest ready (slice_set lists c (list_for s h ++ p ∷ [])) Quiet rest_there refl
        (set_here (h.parked ++ fresh M p ∷ []) (list_for s h ++ p ∷ []) (ap (λ z. z ++ p ∷ []) (list_here h.parked) ∙ one_behind h.parked (fresh M p)))

    served_seen : (r : Bool) (reader body : Process) (label : Label) → views.moves (ready ++ body ∷ []) (slice_set lists c (without 0 (list_for s h) ++ if_replicated r reader)) label ≡ view.Moves (view_at s (served r c h (without 0 h.parked) reader (woken s body M))) label
    served_seen true reader body label =
        let K : Network = woken s body M in
        seen (served true c h (without 0 h.parked) reader K) (rest ++ fresh M body ∷ []) (ready ++ body ∷ []) (slice_set lists c (without 0 (list_for s h) ++ reader ∷ [])) label (woken_there M rest body rest_there) (one_behind rest (fresh M body))
        (set_here (without 0 h.parked ++ fresh K reader ∷ []) (without 0 (list_for s h) ++ reader ∷ []) (ap (λ z. z ++ reader ∷ []) others_here ∙ one_behind (without 0 h.parked) (fresh K reader)))
    served_seen false reader body label =
        let K : Network = woken s body M in
        seen (served false c h (without 0 h.parked) reader K) (rest ++ fresh M body ∷ []) (ready ++ body ∷ []) (slice_set lists c (without 0 (list_for s h) ++ [])) label (woken_there M rest body rest_there) (one_behind rest (fresh M body))
        (set_here (without 0 h.parked) (without 0 (list_for s h) ++ []) (append-nil (without 0 (list_for s h)) ∙ others_here))

    took_seen : (r : Bool) (body : Process) (label : Label) → views.moves (views.ready_after 0 r (x.process ∷ ready) ++ body ∷ []) (slice_set lists c (without 0 (list_for s h))) label ≡ view.Moves (view_at s (woken s body (parked_at c h (without 0 h.parked) (took r s rest N)))) label
    took_seen true body label =
        let K : Network = parked_at c h (without 0 h.parked) N in
        seen (woken s body K) ((x ∷ rest) ++ fresh K body ∷ []) ((x.process ∷ ready) ++ body ∷ []) (slice_set lists c (without 0 (list_for s h))) label (woken_there K (x ∷ rest) body at) (one_behind (x ∷ rest) (fresh K body))
        (set_here (without 0 h.parked) (without 0 (list_for s h)) others_here)
    took_seen false body label =
        let K : Network = parked_at c h (without 0 h.parked) M in
        seen (woken s body K) (rest ++ fresh K body ∷ []) (ready ++ body ∷ []) (slice_set lists c (without 0 (list_for s h))) label (woken_there K rest body rest_there) (one_behind rest (fresh K body))
        (set_here (without 0 h.parked) (without 0 (list_for s h)) others_here)

  -- where the channel is this site's, or isn't there
  at_list_here : (inside : List Process → view.Moved View) (go : Home → Happening) → ((h : Home) → nat_eq h.site s ≡ true → Beside s (inside (list_for s h)) (go h)) → (o : Option Home) → IsHere s (option_map site_of o)
      → Beside s (views.at_list inside (option_map (list_for s) o)) (at_channel go o)
  at_list_here inside go f None a = refl
  at_list_here inside go f (Some h) a = f h a

  at_list_beside : (c : ℕ) (inside : List Process → view.Moved View) (go : Home → Happening) → ((h : Home) → nat_eq h.site s ≡ true → Beside s (inside (list_for s h)) (go h)) → IsHere s (option_map site_of (slice_get N.channels c))
      → Beside s (views.at_list inside (slice_get lists c)) (at_channel go (slice_get N.channels c))
  at_list_beside c inside go f a =
      subst (λ o. Beside s (views.at_list inside o) (at_channel go (slice_get N.channels c))) (sym (slice_get-map (list_for s) N.channels c)) (at_list_here inside go f (slice_get N.channels c) a)

  forked_seen : (p q : Process) (b : Bool) → b ≡ true → views.moves ((p ∷ ready) ++ q ∷ []) lists Quiet ≡ view.Moves (view_at s (cond b (woken s q (turned s x p rest N)) (stamped (sent ((s + 1) % length (turned s x p rest N).sites) (fresh (turned s x p rest N) q) (turned s x p rest N))))) Quiet
  forked_seen p q true e =
      let K : Network = turned s x p rest N in
      seen (woken s q K) ((record x { process = p } ∷ rest) ++ fresh K q ∷ []) ((p ∷ ready) ++ q ∷ []) lists Quiet (woken_there K (record x { process = p } ∷ rest) q (turned_there p)) (one_behind (record x { process = p } ∷ rest) (fresh K q)) refl
  forked_seen p q false e = cc

  place_beside : (d : Deed) → Local N s d → Beside s (views.place_at 0 0 (x.process ∷ ready) lists d) (place N s x rest d)
  place_beside (Ends label) a = seen M rest ready lists label rest_there refl refl
  place_beside (Keeps p label) a = seen (turned s x p rest N) (record x { process = p } ∷ rest) (p ∷ ready) lists label (turned_there p) refl refl
  place_beside (Forks p q) a = forked_seen p q (nat_eq (length (turned s x p rest N).sites) 1) (ap (λ n. nat_eq n 1) (length-set N.sites s (record x { process = p } ∷ rest)) ∙ a)
  place_beside (Opens p) a =
      seen (with_home s (turned s x p rest N)) (record x { process = p } ∷ rest) (p ∷ ready) (lists ++ [] ∷ []) Quiet (turned_there p) refl
      (ap (λ z. lists ++ z ∷ []) (sym (none_here (nat_eq s s))) ∙ sym (map-append (list_for s) N.channels (record { site = s; parked = [] } ∷ [])))
  place_beside (Parks c p) a = at_list_beside c _ _ (λ h e. parks_seen c h e p) a
  place_beside (Serves c v r reader body) a = at_list_beside c _ _ (λ h e. served_seen c h e r reader body (Comm c v)) a
  place_beside (Takes c v r body) a = at_list_beside c _ _ (λ h e. took_seen c h e r body (Comm c v)) a
  place_beside (Stops place) a = refl
  place_beside Misfits a = refl

-- ---- the deed is the view's, and is placed here

module _ (N : Network) (s : ℕ) where
  branch_local : (b : Bool) (q k : Process) (label : Label) → Local N s (cond b (Keeps q label) (Keeps k label))
  branch_local true q k label = tt
  branch_local false q k label = tt

  chooses_local : (v : Val) (q k : Process) → Local N s (chooses v q k)
  chooses_local (Var z) q k = tt
  chooses_local (Chan z) q k = tt
  chooses_local (Int z) q k = tt
  chooses_local (Char z) q k = tt
  chooses_local (Boolean b) q k = branch_local b q k _
  chooses_local (Text z) q k = tt
  chooses_local (PrimitiveVal z) q k = tt
  chooses_local (Record z w) q k = tt

  leaves_local : (at : Span) (label : Label) (l : Leaves) → Local N s (leaves at label l)
  leaves_local at label Nothing = tt
  leaves_local at label (Answer k a) = tt
  leaves_local at label Trap = tt

  performs_local : (at : Span) (o : Option Effect) → Local N s (performs at o)
  performs_local at None = tt
  performs_local at (Some e) = leaves_local at (printing e.printed) e.leaves

  module _ (c : ℕ) (here : IsHere s (option_map site_of (slice_get N.channels c))) where
    serves_local : (v : Val) (r : Bool) (reader body : Process) (o : Option (List Val)) → Local N s (serves c v r reader body o)
    serves_local v r reader body None = tt
    serves_local v r reader body (Some bound) = here

    offers_local : (v : Val) (p : Process) (o : Option Process) → Local N s (offers c v p o)
    offers_local v p None = here
    offers_local v p (Some Zero) = tt
    offers_local v p (Some (Par q k)) = tt
    offers_local v p (Some (New q)) = tt
    offers_local v p (Some (Out w u at)) = tt
    offers_local v p (Some (In chan r pattern body)) = serves_local v r (In chan r pattern body) body (match_value pattern v)
    offers_local v p (Some (If w q k)) = tt

    takes_local : (v : Val) (r : Bool) (body : Process) (o : Option (List Val)) → Local N s (takes c v r body o)
    takes_local v r body None = tt
    takes_local v r body (Some bound) = here

    asks_local : (r : Bool) (pattern : Pat) (body p : Process) (o : Option Process) → Local N s (asks c r pattern body p o)
    asks_local r pattern body p None = here
    asks_local r pattern body p (Some Zero) = tt
    asks_local r pattern body p (Some (Par q k)) = tt
    asks_local r pattern body p (Some (New q)) = tt
    asks_local r pattern body p (Some (Out chan message at)) = takes_local message r body (match_value pattern message)
    asks_local r pattern body p (Some (In w b l q)) = tt
    asks_local r pattern body p (Some (If w q k)) = tt

    -- the list of the channel is the site's
    same_list : (o : Option Home) → IsHere s (option_map site_of o) → unwrap_or (option_map (list_for s) o) [] ≡ unwrap_or (option_map (λ (h : Home). processes_of h.parked) o) []
    same_list None a = refl
    same_list (Some h) a = ap (λ b. cond b (processes_of h.parked) []) a

    list_is : list_at c (map (list_for s) N.channels) ≡ list_at c (lists_of N)
    list_is =
        ap (λ (o : Option (List Process)). unwrap_or o []) (slice_get-map (list_for s) N.channels c) ∙ same_list (slice_get N.channels c) here
        ∙ sym (ap (λ (o : Option (List Process)). unwrap_or o []) (slice_get-map (λ (h : Home). processes_of h.parked) N.channels c))

  -- what is placed here, and the same in the view
  pub record Here (p : Process) : Type 0 where
    pub same : deed (length (map (list_for s) N.channels)) (partner_at 0 (map (list_for s) N.channels) p) p ≡ deed_in N p
    pub local : Local N s (deed_in N p)

  out_here : (chan message : Val) (at : Span) → IsHere s (home_at N.channels chan) → Here (Out chan message at)
  out_here (Var v) message at a = record { same = refl; local = tt }
  out_here (Chan c) message at a = record {
    same = ap (λ l. offers c message (Out (Chan c) message at) (if_input (slice_get l 0))) (list_is c a);
    local = offers_local c a message (Out (Chan c) message at) (partner_at 0 (lists_of N) (Out (Chan c) message at));
  }
  out_here (Int v) message at a = record { same = refl; local = tt }
  out_here (Char v) message at a = record { same = refl; local = tt }
  out_here (Boolean v) message at a = record { same = refl; local = tt }
  out_here (Text v) message at a = record { same = refl; local = tt }
  out_here (PrimitiveVal f) message at a = record { same = refl; local = performs_local at (effect_of f message) }
  out_here (Record v w) message at a = record { same = refl; local = tt }

  in_here : (chan : Val) (r : Bool) (pattern : Pat) (body : Process) → IsHere s (home_at N.channels chan) → Here (In chan r pattern body)
  in_here (Var v) r pattern body a = record { same = refl; local = tt }
  in_here (Chan c) r pattern body a = record {
    same = ap (λ l. asks c r pattern body (In (Chan c) r pattern body) (if_output (slice_get l 0))) (list_is c a);
    local = asks_local c a r pattern body (In (Chan c) r pattern body) (partner_at 0 (lists_of N) (In (Chan c) r pattern body));
  }
  in_here (Int v) r pattern body a = record { same = refl; local = tt }
  in_here (Char v) r pattern body a = record { same = refl; local = tt }
  in_here (Boolean v) r pattern body a = record { same = refl; local = tt }
  in_here (Text v) r pattern body a = record { same = refl; local = tt }
  in_here (PrimitiveVal f) r pattern body a = record { same = refl; local = tt }
  in_here (Record v w) r pattern body a = record { same = refl; local = tt }

  par_local : (p q : Process) → IsNoFork (Par p q) ⊎ (nat_eq (length N.sites) 1 ≡ true) → nat_eq (length N.sites) 1 ≡ true
  par_local p q (inl a) = absurd a
  par_local p q (inr a) = a

  pub is_here : (p : Process) → IsNoFork p ⊎ (nat_eq (length N.sites) 1 ≡ true) → IsHere s (home_of N.channels p) → Here p
  is_here Zero f a = record { same = refl; local = tt }
  is_here (Par p q) f a = record { same = refl; local = par_local p q f }
  is_here (New p) f a = record { same = ap (λ n. deed n None (New p)) (length-map N.channels (list_for s)); local = tt }
  is_here (If test p q) f a = record { same = refl; local = chooses_local test p q }
  is_here (Out chan message at) f a = out_here chan message at a
  is_here (In chan r pattern body) f a = in_here chan r pattern body a

-- ---- acts

module _ (N : Network) (s : ℕ) (x : Item) (rest : List Item) (at : slice_get N.sites s ≡ Some (x ∷ rest)) (fork : IsNoFork x.process ⊎ (nat_eq (length N.sites) 1 ≡ true)) where
  abbrev channels : List (List Process)
  channels = map (list_for s) N.channels

  abbrev after : view.Moved View
  after = views.place_at 0 0 (processes_of (x ∷ rest)) channels (deed (length channels) (partner_at 0 channels x.process) x.process)

  whole_view : next_view (view_at s N) ≡ after
  whole_view = ap (λ o. views.act_at 0 0 (processes_of (items_in o)) channels (slice_get (processes_of (items_in o)) 0)) at

  acts_here : IsHere s (home_of N.channels x.process) → Beside s after (place N s x rest (deed_in N x.process))
  acts_here a =
      let h : Here N s x.process = is_here N s x.process fork a in
      subst (λ d. Beside s (views.place_at 0 0 (processes_of (x ∷ rest)) channels d) (place N s x rest (deed_in N x.process))) (sym h.same)
      (place_beside N s x rest at (deed_in N x.process) h.local)

  tested : (b : Bool) (local : Happening) (K : Network) → (b ≡ true → Beside s after local) → Beside s after (cond b local (Moved K))
  tested true local K f = f refl
  tested false local K f = tt

  goes_here : (local : Happening) (home : Option ℕ) → (IsHere s home → Beside s after local) → Beside s after (goes_or_acts s x (at_site s rest N) local home)
  goes_here local None f = f tt
  goes_here local (Some g) f = tested (nat_eq g s) local (sent g x (at_site s rest N)) f

  act_beside : Beside s after (act_of N s (Some (x ∷ rest)))
  act_beside = goes_here (place N s x rest (deed_in N x.process)) (home_of N.channels x.process) acts_here

as_is : (s : ℕ) (N : Network) (o : view.Moved View) → next_view (view_at s N) ≡ o → (h : Happening) → Beside s o h → IsViewed s N h
as_is s N o e (Moved M) b = tt
as_is s N o e (Stepped M label) b = e ∙ b
as_is s N o e (Stopped at) b = e ∙ b
as_is s N o e Misshapen b = e ∙ b
as_is s N o e NoEvent b = e ∙ b

pub act_viewed : (N : Network) (s : ℕ) (x : Item) (rest : List Item) → slice_get N.sites s ≡ Some (x ∷ rest) → IsNoFork x.process ⊎ (nat_eq (length N.sites) 1 ≡ true) → IsViewed s N (act_of N s (Some (x ∷ rest)))
act_viewed N s x rest at fork = as_is s N (after N s x rest at fork) (whole_view N s x rest at fork) (act_of N s (Some (x ∷ rest))) (act_beside N s x rest at fork)

pub acts_are_viewed : ActsAreViewed
acts_are_viewed N s x rest at a = subst (λ o. IsViewed s N (act_of N s o)) (sym at) (act_viewed N s x rest at (inl a))

nothing_viewed : (N : Network) (s : ℕ) (o : Option (List Item)) → slice_get N.sites s ≡ o → items_in o ≡ [] → next_view (view_at s N) ≡ view.Over
nothing_viewed N s o h e = ap (λ items. views.act_at 0 0 (processes_of items) (map (list_for s) N.channels) (slice_get (processes_of items) 0)) (ap items_in h ∙ e)

pub one_viewed : (N : Network) → nat_eq (length N.sites) 1 ≡ true → (s : ℕ) (o : Option (List Item)) → slice_get N.sites s ≡ o → IsViewed s N (act_of N s o)
one_viewed N a s None h = nothing_viewed N s None h refl
one_viewed N a s (Some []) h = nothing_viewed N s (Some []) h refl
one_viewed N a s (Some (x ∷ rest)) h = act_viewed N s x rest h (inr a)
