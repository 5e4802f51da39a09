-- What happens to a network of lists, by what is seen of the site that acts.
use Rattle.std.proofs.Common.{ℕ, ◌≡◌, ◌≢◌, ◌+◌, Bool, true, false, nat_eq, cond, ◌⊎◌, List, [], ◌∷◌, ◌++◌, map, length, refl, sym, ap, ◌∙◌, subst, Option, Some, None, slice_get}
use Rattle.std.specs.Prelude.{◌%◌}
use Rattle.std.proofs.lemmas.List.{length-set, append-nil}
use Rattle.std.proofs.lemmas.Option.{slice_get-map}
use Rattle.pict_syntax.specs.declared.span.Span.{Span}
use Rattle.pict_core.specs.Term.{Val, Process, Var, Chan, Int, Char, Boolean, Text, PrimitiveVal, Record, Zero, Par, New, Out, In, If}
use Rattle.pict_core.specs.Step.{Label, Quiet}
use Rattle.pict_view.specs.View.{View}
use Rattle.pict_view.specs.Moved as view
use Rattle.pict_view.specs.Placed.{next_view}
use Rattle.pict_network.specs.Network.{Item, Home, Network}
use Rattle.pict_network.specs.Events.{Happening, Moved, Stepped, Stopped, Misshapen, NoEvent, at_site, items_in, sent, fresh, stamped, woken, turned, place, processes_of, deed_in, home_of, goes_or_acts, act_of, act_at}
use Rattle.pict_network.specs.SiteView.{list_for, view_at, IsViewed, IsNoFork}
use Rattle.pict_network.proofs.Unions.{get_again}
use Rattle.pict_network.proofs.Viewing.{none_here, IsHere, site_of, act_viewed}
use Rattle.pict_network.proofs.Elsewhere.{get_elsewhere, Elsewhere, more_of, IsElsewhere, place_here}
use Rattle.pict_sites.specs.Standing.{channel_at, other_home, home_in}

-- ---- homes

out_home : (homes : List Home) (chan message : Val) (at : Span) → home_of homes (Out chan message at) ≡ home_in (map site_of homes) (channel_at (Out chan message at))
out_home homes (Var v) message at = refl
out_home homes (Chan c) message at = sym (slice_get-map site_of homes c)
out_home homes (Int v) message at = refl
out_home homes (Char v) message at = refl
out_home homes (Boolean v) message at = refl
out_home homes (Text v) message at = refl
out_home homes (PrimitiveVal v) message at = refl
out_home homes (Record v w) message at = refl

pub home_same : (homes : List Home) (p : Process) → home_of homes p ≡ home_in (map site_of homes) (channel_at p)
home_same homes Zero = refl
home_same homes (Par p q) = refl
home_same homes (New p) = refl
home_same homes (If test p q) = refl
home_same homes (Out chan message at) = out_home homes chan message at
home_same homes (In (Var v) r pattern body) = refl
home_same homes (In (Chan c) r pattern body) = sym (slice_get-map site_of homes c)
home_same homes (In (Int v) r pattern body) = refl
home_same homes (In (Char v) r pattern body) = refl
home_same homes (In (Boolean v) r pattern body) = refl
home_same homes (In (Text v) r pattern body) = refl
home_same homes (In (PrimitiveVal v) r pattern body) = refl
home_same homes (In (Record v w) r pattern body) = refl

here_by : (s h : ℕ) (b : Bool) → nat_eq h s ≡ b → cond b None (Some h) ≡ None → nat_eq h s ≡ true
here_by s h true e none = e
here_by s h false e none = cc

pub here_of : (s : ℕ) (o : Option ℕ) → other_home s o ≡ None → IsHere s o
here_of s None none = tt
here_of s (Some h) none = here_by s h (nat_eq h s) refl none

away_by : (s h g : ℕ) (b : Bool) → nat_eq h s ≡ b → cond b None (Some h) ≡ Some g → (h ≡ g) × (nat_eq g s ≡ false)
away_by s h g true e is = cc
away_by s h g false e is = let same : h ≡ g = cc in (same, ap (λ n. nat_eq n s) (sym same) ∙ e)

pub away_of : (s g : ℕ) (o : Option ℕ) → other_home s o ≡ Some g → (o ≡ Some g) × (nat_eq g s ≡ false)
away_of s g None is = cc
away_of s g (Some h) is = let a = away_by s h g (nat_eq h s) refl is in (ap Some a.0, a.1)

-- ---- who acts

-- this process is the first of the site, before these
pub record Turn (s : ℕ) (N : Network) (p : Process) (rest : List Process) : Type 0 where
  pub first : Item
  pub others : List Item
  pub at : slice_get N.sites s ≡ Some (first ∷ others)
  pub is : first.process ≡ p
  pub are : processes_of others ≡ rest

turn_in : (s : ℕ) (N : Network) (o : Option (List Item)) → slice_get N.sites s ≡ o → (p : Process) (rest : List Process) → p ∷ rest ≡ processes_of (items_in o) → Turn s N p rest
turn_in s N None h p rest e = cc
turn_in s N (Some []) h p rest e = cc
turn_in s N (Some (x ∷ xs)) h p rest e = record {
  first = x;
  others = xs;
  at = h;
  is = let same : x.process ≡ p = cc in same;
  are = let same : processes_of xs ≡ rest = cc in same;
}

pub turn_of : (s : ℕ) (N : Network) (p : Process) (rest : List Process) → p ∷ rest ≡ (view_at s N).ready → Turn s N p rest
turn_of s N p rest e = turn_in s N (slice_get N.sites s) refl p rest e

-- ---- what is seen of sites

pub view_like : (t : ℕ) (N M : Network) → slice_get M.sites t ≡ slice_get N.sites t → map (list_for t) M.channels ≡ map (list_for t) N.channels → view_at t M ≡ view_at t N
view_like t N M sites lists =
    ap (λ o. record { ready = processes_of (items_in o); channels = map (list_for t) M.channels }) sites ∙ ap (λ cs. record { ready = (view_at t N).ready; channels = cs }) lists

module _ (s : ℕ) (N : Network) (p : Process) (rest : List Process) (turn : Turn s N p rest) where
  abbrev pub left : Network
  left = at_site s turn.others N

  -- without who acts
  pub left_view : view_at s left ≡ record (view_at s N) { ready = rest }
  left_view =
      ap (λ o. record { ready = processes_of (items_in o); channels = map (list_for s) N.channels }) (get_again N.sites s (turn.first ∷ turn.others) turn.others turn.at)
      ∙ ap (λ ps. record { ready = ps; channels = map (list_for s) N.channels }) turn.are

  pub other_view : (t : ℕ) (items : List Item) → t ≢ s → view_at t (at_site s items N) ≡ view_at t N
  other_view t items apart = view_like t N (at_site s items N) (get_elsewhere N.sites s t items apart) refl

  act_is : (h : Happening) → act_of N s (Some (turn.first ∷ turn.others)) ≡ h → act_at N s ≡ h
  act_is h e = ap (act_of N s) turn.at ∙ e

  home_is : home_of N.channels turn.first.process ≡ home_of N.channels p
  home_is = ap (home_of N.channels) turn.is

  -- ---- who stands at a channel of another site moves

  pub act_goes : (g : ℕ) → home_of N.channels p ≡ Some g → nat_eq g s ≡ false → act_at N s ≡ Moved (sent g turn.first left)
  act_goes g home away =
      act_is (Moved (sent g turn.first left))
      (ap (goes_or_acts s turn.first left (place N s turn.first turn.others (deed_in N turn.first.process))) (home_is ∙ home)
      ∙ ap (λ b. cond b (place N s turn.first turn.others (deed_in N turn.first.process)) (Moved (sent g turn.first left))) away)

  -- ---- all else acts there

  goes_here : (o : Option ℕ) (here : Happening) → IsHere s o → goes_or_acts s turn.first left here o ≡ here
  goes_here None here a = refl
  goes_here (Some g) here a = ap (λ b. cond b here (Moved (sent g turn.first left))) a

  pub act_stays : IsHere s (home_of N.channels p) → act_at N s ≡ place N s turn.first turn.others (deed_in N turn.first.process)
  act_stays a =
      act_is (place N s turn.first turn.others (deed_in N turn.first.process))
      (goes_here (home_of N.channels turn.first.process) (place N s turn.first turn.others (deed_in N turn.first.process)) (subst (IsHere s) (sym home_is) a))

  module _ (fork : IsNoFork p ⊎ (nat_eq (length N.sites) 1 ≡ true)) (here : IsHere s (home_of N.channels p)) where
    abbrev placed : Happening
    placed = place N s turn.first turn.others (deed_in N turn.first.process)

    fork_first : IsNoFork turn.first.process ⊎ (nat_eq (length N.sites) 1 ≡ true)
    fork_first = subst (λ q. IsNoFork q ⊎ (nat_eq (length N.sites) 1 ≡ true)) (sym turn.is) fork

    viewed : IsViewed s N placed
    viewed =
        subst (IsViewed s N) (goes_here (home_of N.channels turn.first.process) placed (subst (IsHere s) (sym home_is) here))
        (act_viewed N s turn.first turn.others turn.at fork_first)

    abbrev more : List Home
    more = more_of s (deed_in N turn.first.process)

    elsewhere : IsElsewhere s more N placed
    elsewhere = place_here N s turn.first turn.others turn.first.process fork_first (subst (IsHere s) (sym home_is) here)

    -- a step of the site's view is what happens
    pub record Steps (v : View) (label : Label) : Type 0 where
      pub after : Network
      pub happens : act_at N s ≡ Stepped after label
      pub view_is : v ≡ view_at s after
      pub rest_is : Elsewhere s more N after

    steps_by : (h : Happening) → act_at N s ≡ h → IsViewed s N h → IsElsewhere s more N h → (v : View) (label : Label) → next_view (view_at s N) ≡ view.Moves v label → Steps v label
    steps_by (Moved M) h a e v label is = absurd e
    steps_by (Stepped M l) h a e v label is =
        let same : view.Moves v label ≡ view.Moves (view_at s M) l = sym is ∙ a in
        let one : v ≡ view_at s M = cc in
        let other : l ≡ label = cc in
        record { after = M; happens = h ∙ ap (Stepped M) other; view_is = one; rest_is = e }
    steps_by (Stopped at) h a e v label is = let same = sym is ∙ a in cc
    steps_by Misshapen h a e v label is = let same = sym is ∙ a in cc
    steps_by NoEvent h a e v label is = let same = sym is ∙ a in cc

    pub act_steps : (v : View) (label : Label) → next_view (view_at s N) ≡ view.Moves v label → Steps v label
    act_steps v label is = steps_by placed (act_stays here) viewed elsewhere v label is

    stops_by : (h : Happening) → act_at N s ≡ h → IsViewed s N h → IsElsewhere s more N h → (at : Span) → next_view (view_at s N) ≡ view.Stops at → act_at N s ≡ Stopped at
    stops_by (Moved M) h a e at is = absurd e
    stops_by (Stepped M l) h a e at is = let same = sym is ∙ a in cc
    stops_by (Stopped there) h a e at is = let same : view.Stops there ≡ view.Stops at = sym a ∙ is in let one : there ≡ at = cc in h ∙ ap Stopped one
    stops_by Misshapen h a e at is = let same = sym is ∙ a in cc
    stops_by NoEvent h a e at is = let same = sym is ∙ a in cc

    pub act_stops : (at : Span) → next_view (view_at s N) ≡ view.Stops at → act_at N s ≡ Stopped at
    act_stops at is = stops_by placed (act_stays here) viewed elsewhere at is

    right_by : (h : Happening) → act_at N s ≡ h → IsViewed s N h → IsElsewhere s more N h → act_at N s ≢ Misshapen → next_view (view_at s N) ≢ view.Misshapen
    right_by (Moved M) h a e right wrong = absurd e
    right_by (Stepped M l) h a e right wrong = let same = sym wrong ∙ a in cc
    right_by (Stopped there) h a e right wrong = let same = sym wrong ∙ a in cc
    right_by Misshapen h a e right wrong = right h
    right_by NoEvent h a e right wrong = let same = sym wrong ∙ a in cc

    -- the step is right where what happens is
    pub act_right : act_at N s ≢ Misshapen → next_view (view_at s N) ≢ view.Misshapen
    act_right right = right_by placed (act_stays here) viewed elsewhere right

  -- a fork among several sites
  module _ (l r : Process) (is : p ≡ Par l r) (several : nat_eq (length N.sites) 1 ≡ false) where
    abbrev held : Network
    held = turned s turn.first l turn.others N

    abbrev pub forked_to : Network
    forked_to = stamped (sent ((s + 1) % length held.sites) (fresh held r) held)

    par_is : turn.first.process ≡ Par l r
    par_is = turn.is ∙ is

    forked_by : (b : Bool) → b ≡ false → cond b (woken s r held) forked_to ≡ forked_to
    forked_by true e = cc
    forked_by false e = refl

    pub act_forks : act_at N s ≡ Stepped forked_to Quiet
    act_forks =
        act_stays (subst (λ q. IsHere s (home_of N.channels q)) (sym is) tt)
        ∙ ap (λ q. place N s turn.first turn.others (deed_in N q)) par_is
        ∙ ap (λ M. Stepped M Quiet) (forked_by (nat_eq (length held.sites) 1) (ap (λ n. nat_eq n 1) (length-set N.sites s (record turn.first { process = l } ∷ turn.others)) ∙ several))

    pub held_many : length held.sites ≡ length N.sites
    held_many = length-set N.sites s (record turn.first { process = l } ∷ turn.others)

    pub forked_view : view_at s forked_to ≡ record (view_at s N) { ready = l ∷ rest }
    forked_view =
        ap (λ o. record { ready = processes_of (items_in o); channels = map (list_for s) N.channels }) (get_again N.sites s (turn.first ∷ turn.others) (record turn.first { process = l } ∷ turn.others) turn.at)
        ∙ ap (λ ps. record { ready = l ∷ ps; channels = map (list_for s) N.channels }) turn.are

    pub forked_other : (t : ℕ) → t ≢ s → view_at t forked_to ≡ view_at t N
    forked_other t apart = view_like t N forked_to (get_elsewhere N.sites s t (record turn.first { process = l } ∷ turn.others) apart) refl

  -- a restriction
  pub opens_one : (q : Process) → p ≡ New q → more_of s (deed_in N turn.first.process) ≡ record { site = s; parked = [] } ∷ []
  opens_one q is = ap (λ x. more_of s (deed_in N x)) (turn.is ∙ is)

  -- a process that opens none opens none
  pub none_more : more_of s (deed_in N p) ≡ [] → more_of s (deed_in N turn.first.process) ≡ []
  none_more e = ap (λ q. more_of s (deed_in N q)) turn.is ∙ e

-- ---- others, after a step

-- without a channel more
pub same_elsewhere : (s : ℕ) (N M : Network) → Elsewhere s [] N M → (t : ℕ) → t ≢ s → view_at t M ≡ view_at t N
same_elsewhere s N M e t apart = view_like t N M (e.sites t apart) (e.lists t apart ∙ append-nil (map (list_for t) N.channels))

-- with one
pub grown_elsewhere : (s : ℕ) (N M : Network) → Elsewhere s (record { site = s; parked = [] } ∷ []) N M → (t : ℕ) → t ≢ s → view_at t M ≡ record (view_at t N) { channels = (view_at t N).channels ++ [] ∷ [] }
grown_elsewhere s N M e t apart =
    ap (λ o. record { ready = processes_of (items_in o); channels = map (list_for t) M.channels }) (e.sites t apart)
    ∙ ap (λ cs. record { ready = (view_at t N).ready; channels = cs }) (e.lists t apart ∙ ap (λ (ps : List Process). map (list_for t) N.channels ++ ps ∷ []) (none_here (nat_eq s t)))
