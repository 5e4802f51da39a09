-- The union is a configuration, and an act is a free step of it.
use Rattle.std.proofs.Common.{ℕ, zero, suc, ◌≡◌, ◌≤◌, ◌<◌, ◌+◌, Bool, true, false, nat_eq, nat_lt, cond, inl, inr, List, [], ◌∷◌, ◌++◌, length, refl, sym, ap, ◌∙◌, subst, Option, Some, None, option_map, option_and_then, slice_get, arith}
use Rattle.std.proofs.lemmas.Bool.Decides.{nat_tests}
use Rattle.pict_core.specs.Term.{Process}
use Rattle.pict_core.specs.Closed.{IsUnder}
use Rattle.pict_core.specs.Configuration.{Ready, Entry, StampsRise, AreClosed}
use Rattle.pict_core.specs.Step.{least, entry_at, is_partner, act, act_entry, IsChoice, NamesPartner, Free, IsWrong, free_step}
use Rattle.pict_core.proofs.Stamps.{least_stands, least_passes}
use Rattle.pict_network.specs.Network.{Item, Packet, Network, entry, entries_of, put, by_stamp, union, idle, opening_network}
use Rattle.pict_network.specs.Events.{Happening, Moved, Stepped, Stopped, Misshapen, NoEvent, Event, Act, Delivery, at_site, act_of, act_at, delivery_of, happening}
use Rattle.pict_network.specs.Invariant.{Apart, AreApart, Below, IsNetwork}
use Rattle.pict_network.specs.Laws.{Agrees, least_choice, UnionsAreConfigurations, OpeningsAreNetworks, ActsAreFree}
use Rattle.pict_network.proofs.Puts.{tests, is_less, is_no_less, put_first, put_later, found_put, apart_by_stamp}
use Rattle.pict_network.proofs.Unions.{ready_of, inserted, apart_of}
use Rattle.pict_network.proofs.Moving.{first_of}
use Rattle.pict_network.proofs.Acting.{act_agrees}

after_it : (a b : ℕ) → nat_eq a b ≡ false → b ≤ a → b + 1 ≤ a
after_it a b h k = grind (arith, nat_tests)

rise_put : (low n : ℕ) (e : Entry) (es : List Entry) → low ≤ e.stamp → e.stamp < n → Apart e.stamp es → StampsRise low es n → StampsRise low (put e es) n
rise_put low n e [] l b a r = (l, omega (arith, b))
rise_put low n e (f ∷ fs) l b a r = elim (tests (nat_lt e.stamp f.stamp)) [
  | inl k ↦ let h = is_less e.stamp f.stamp k in subst (λ es. StampsRise low es n) (sym (put_first e f fs h)) (l, (omega (arith, h), r.1))
  | inr k ↦ let h = is_no_less e.stamp f.stamp k in subst (λ es. StampsRise low es n) (sym (put_later e f fs h)) (r.0, rise_put (f.stamp + 1) n e fs (after_it e.stamp f.stamp a.0 h) b a.1 r.1)
]

least_number : (n : ℕ) → 0 ≤ n
least_number n = omega arith

rise_by_stamp : (n : ℕ) (es : List Entry) → AreApart es → Below n es → StampsRise 0 (by_stamp es) n
rise_by_stamp n [] a b = least_number n
rise_by_stamp n (e ∷ es) a b = rise_put 0 n e (by_stamp es) (least_number e.stamp) b.0 (apart_by_stamp e.stamp es a.0) (rise_by_stamp n es a.1 b.1)

chosen_closed : (n : ℕ) (b : Bool) (xs ys : List Entry) → AreClosed n xs → AreClosed n ys → AreClosed n (cond b xs ys)
chosen_closed n true xs ys h k = h
chosen_closed n false xs ys h k = k

closed_put : (n : ℕ) (e : Entry) (es : List Entry) → IsUnder 0 n e.process → AreClosed n es → AreClosed n (put e es)
closed_put n e [] h k = (h, tt)
closed_put n e (f ∷ fs) h k = chosen_closed n (nat_lt e.stamp f.stamp) (e ∷ f ∷ fs) (f ∷ put e fs) (h, k) (k.0, closed_put n e fs h k.1)

closed_by_stamp : (n : ℕ) (es : List Entry) → AreClosed n es → AreClosed n (by_stamp es)
closed_by_stamp n [] h = tt
closed_by_stamp n (e ∷ es) h = closed_put n e (by_stamp es) h.0 (closed_by_stamp n es h.1)

pub unions_are_configurations : UnionsAreConfigurations
unions_are_configurations N is = record { stamps = rise_by_stamp N.next_stamp (entries_of N) is.apart is.below; closed = closed_by_stamp (length N.channels) (entries_of N) is.closed }

-- ---- before any event

none_idle : (n : ℕ) → ready_of (idle n) ≡ []
none_idle zero = refl
none_idle (suc n) = none_idle n

entries_there : (others : ℕ) (p : Process) → entries_of (opening_network others p) ≡ record { stamp = 0; mark = Ready; process = p } ∷ []
entries_there others p = ap (λ es. record { stamp = 0; mark = Ready; process = p } ∷ (es ++ [])) (none_idle others)

pub openings_are_networks : OpeningsAreNetworks
openings_are_networks others p u = (
  record {
    apart = subst AreApart (sym (entries_there others p)) (tt, tt);
    below = subst (Below 1) (sym (entries_there others p)) (omega arith, tt);
    closed = subst (AreClosed 0) (sym (entries_there others p)) (u, tt);
    homes = λ c h k. cc k;
    destinations = tt;
  },
  ap (λ es. record { channels = 0; next_stamp = 1; entries = by_stamp es }) (entries_there others p),
)

-- ---- free steps

abbrev stamp_of : Entry → ℕ
stamp_of u = u.stamp

module _ (N : Network) (s : ℕ) (x : Item) (rest : List Item) (is : IsNetwork N) (at : slice_get N.sites s ≡ Some (x ∷ rest)) where
  abbrev es : List Entry
  es = by_stamp (entries_of N)

  found : entry_at x.stamp es ≡ Some (entry Ready x)
  found =
      let i = first_of N s x rest at in
      let a = apart_of (entry Ready x) N (at_site s rest N) i is.apart in
      ap (entry_at x.stamp) (inserted (entry Ready x) N (at_site s rest N) i a) ∙ found_put (entry Ready x) (by_stamp (entries_of (at_site s rest N))) (apart_by_stamp x.stamp (entries_of (at_site s rest N)) a)

  partner_found : (o : Option Entry) → least (is_partner x.process) es ≡ o → option_and_then (λ r. entry_at r es) (option_map stamp_of o) ≡ o
  partner_found None h = refl
  partner_found (Some u) h = least_stands (is_partner x.process) 0 es N.next_stamp u ((unions_are_configurations N is).stamps) h

  names : (o : Option Entry) → least (is_partner x.process) es ≡ o → NamesPartner es x.process (option_map stamp_of o)
  names None h = h
  names (Some u) h = (u, least_stands (is_partner x.process) 0 es N.next_stamp u ((unions_are_configurations N is).stamps) h, least_passes (is_partner x.process) es u h)

  is_choice : IsChoice (union N) (least_choice N x)
  is_choice = record { actor = entry Ready x; stands = found; ready = refl; partner = names (least (is_partner x.process) es) refl }

  pub free_is : free_step (union N) (least_choice N x) ≡ act (union N) x.stamp (least (is_partner x.process) es) x.process
  free_is =
      ap (λ a. act_entry (union N) a (option_and_then (λ r. entry_at r es) (least_choice N x).partner)) found
      ∙ ap (act_entry (union N) (Some (entry Ready x))) (partner_found (least (is_partner x.process) es) refl)

pub acts_are_free : ActsAreFree
acts_are_free N s x rest is at = (is_choice N s x rest is at, subst (λ o. Agrees o (act_at N s)) (sym (free_is N s x rest is at)) (act_agrees N s x rest is at))

-- a step is free, with its least partner, and what is wrong is a wrong choice
abbrev pub HappensFreely : Network → Happening → Type 0
HappensFreely N (Moved M) = Unit {0}
HappensFreely N (Stepped M label) = (x : Item) × (entry_at x.stamp (union N).entries ≡ Some (entry Ready x)) × Free (union N) (least_choice N x) (union M) label
HappensFreely N (Stopped at) = Unit {0}
HappensFreely N Misshapen = IsWrong (union N)
HappensFreely N NoEvent = Unit {0}

happens_freely : (N : Network) (x : Item) → entry_at x.stamp (union N).entries ≡ Some (entry Ready x) → IsChoice (union N) (least_choice N x) → (o : Happening) → Agrees (free_step (union N) (least_choice N x)) o → HappensFreely N o
happens_freely N x f c (Moved M) a = tt
happens_freely N x f c (Stepped M label) a = (x, f, record { chosen = c; steps = a })
happens_freely N x f c (Stopped at) a = tt
happens_freely N x f c Misshapen a = record { choice = least_choice N x; chosen = c; wrong = a }
happens_freely N x f c NoEvent a = tt

act_free : (N : Network) → IsNetwork N → (s : ℕ) (o : Option (List Item)) → slice_get N.sites s ≡ o → HappensFreely N (act_of N s o)
act_free N is s None h = tt
act_free N is s (Some []) h = tt
act_free N is s (Some (x ∷ rest)) h =
    let a = acts_are_free N s x rest is h in
    subst (λ o. HappensFreely N (act_of N s o)) h (happens_freely N x (found N s x rest is h) a.0 (act_at N s) a.1)

delivery_free : (N : Network) (j : ℕ) (o : Option Packet) → HappensFreely N (delivery_of N j o)
delivery_free N j None = tt
delivery_free N j (Some p) = tt

pub event_free : (N : Network) → IsNetwork N → (event : Event) → HappensFreely N (happening N event)
event_free N is (Act s) = act_free N is s (slice_get N.sites s) refl
event_free N is (Delivery j) = delivery_free N j (slice_get N.packets j)
