-- What is possible happens.
use Rattle.std.proofs.Common.{ℕ, suc, ◌≡◌, ◌≤◌, ◌+◌, Bool, true, false, nat_eq, cond, List, [], ◌∷◌, length, refl, sym, ap, ◌∙◌, subst, Option, Some, None, slice_get, arith}
use Rattle.std.specs.List.{AllByRecursion}
use Rattle.rand_pcg.specs.Lcg.{Lcg}
use Rattle.pict_core.specs.Deed.{Deed, Ends, Keeps, Forks, Opens, Parks, Serves, Takes, Stops, Misfits}
use Rattle.pict_seed.specs.Stream.{chosen}
use Rattle.pict_seed.proofs.Choosing.{chosen_below}
use Rattle.pict_network.specs.Network.{Item, Packet, Home, Network}
use Rattle.pict_network.specs.Events.{Happening, Moved, Stepped, Stopped, Misshapen, NoEvent, Event, at_site, sent, at_channel, place, deed_in, home_of, goes_or_acts, act_of, delivery_of, acts_from, deliveries_from, events, happening, happening_of}
use Rattle.pict_network.specs.Laws.{NextIsPossible}
use Rattle.pict_network.proofs.Puts.{all_append}
use Rattle.pict_network.proofs.Moving.{there, each}

abbrev Happens : Happening → Type 0
Happens (Moved M) = Unit {0}
Happens (Stepped M label) = Unit {0}
Happens (Stopped at) = Unit {0}
Happens Misshapen = Unit {0}
Happens NoEvent = ⊥

channel_happens : (go : Home → Happening) → ((h : Home) → Happens (go h)) → (o : Option Home) → Happens (at_channel go o)
channel_happens go f None = tt
channel_happens go f (Some h) = f h

place_happens : (N : Network) (s : ℕ) (x : Item) (rest : List Item) (d : Deed) → Happens (place N s x rest d)
place_happens N s x rest (Ends label) = tt
place_happens N s x rest (Keeps p label) = tt
place_happens N s x rest (Forks p q) = tt
place_happens N s x rest (Opens p) = tt
place_happens N s x rest (Parks c p) = channel_happens _ (λ h. tt) (slice_get N.channels c)
place_happens N s x rest (Serves c v b reader body) = channel_happens _ (λ h. tt) (slice_get N.channels c)
place_happens N s x rest (Takes c v b body) = channel_happens _ (λ h. tt) (slice_get N.channels c)
place_happens N s x rest (Stops at) = tt
place_happens N s x rest Misfits = tt

tested : (b : Bool) (h : Happening) (K : Network) → Happens h → Happens (cond b h (Moved K))
tested true h K a = a
tested false h K a = tt

goes_happens : (s : ℕ) (x : Item) (M : Network) (h : Happening) → Happens h → (home : Option ℕ) → Happens (goes_or_acts s x M h home)
goes_happens s x M h a None = a
goes_happens s x M h a (Some g) = tested (nat_eq g s) h (sent g x M) a

act_happens : (N : Network) (s : ℕ) (x : Item) (rest : List Item) → slice_get N.sites s ≡ Some (x ∷ rest) → Happens (act_of N s (slice_get N.sites s))
act_happens N s x rest h =
    subst (λ o. Happens (act_of N s o)) (sym h)
    (goes_happens s x (at_site s rest N) (place N s x rest (deed_in N x.process)) (place_happens N s x rest (deed_in N x.process)) (home_of N.channels x.process))

delivery_happens : (N : Network) (j : ℕ) (p : Packet) → slice_get N.packets j ≡ Some p → Happens (delivery_of N j (slice_get N.packets j))
delivery_happens N j p h = subst (λ o. Happens (delivery_of N j o)) (sym h) tt

abbrev AllHappen : Network → List Event → Type 0
AllHappen N es = AllByRecursion (λ e. Happens (happening N e)) es

none_more : (s : ℕ) → s + 0 ≡ s
none_more s = omega arith

next_place : (s j : ℕ) → (s + 1) + j ≡ s + suc j
next_place s j = omega arith

acts_happen : (N : Network) (s : ℕ) (sites : List (List Item)) → ((j : ℕ) → slice_get N.sites (s + j) ≡ slice_get sites j) → AllHappen N (acts_from s sites)
acts_happen N s [] h = tt
acts_happen N s ([] ∷ sites) h = acts_happen N (s + 1) sites (λ j. ap (slice_get N.sites) (next_place s j) ∙ h (suc j))
acts_happen N s ((x ∷ rest) ∷ sites) h = (act_happens N s x rest (ap (slice_get N.sites) (sym (none_more s)) ∙ h 0), acts_happen N (s + 1) sites (λ j. ap (slice_get N.sites) (next_place s j) ∙ h (suc j)))

deliveries_happen : (N : Network) (s : ℕ) (packets : List Packet) → ((j : ℕ) → slice_get N.packets (s + j) ≡ slice_get packets j) → AllHappen N (deliveries_from s packets)
deliveries_happen N s [] h = tt
deliveries_happen N s (p ∷ packets) h = (delivery_happens N s p (ap (slice_get N.packets) (sym (none_more s)) ∙ h 0), deliveries_happen N (s + 1) packets (λ j. ap (slice_get N.packets) (next_place s j) ∙ h (suc j)))

zero_more : (j : ℕ) → 0 + j ≡ j
zero_more j = omega arith

events_happen : (N : Network) → AllHappen N (events N)
events_happen N =
    all_append (λ e. Happens (happening N e)) (acts_from 0 N.sites) (deliveries_from 0 N.packets) (acts_happen N 0 N.sites (λ j. ap (slice_get N.sites) (zero_more j)))
    (deliveries_happen N 0 N.packets (λ j. ap (slice_get N.packets) (zero_more j)))

-- what is chosen of these events
abbrev chosen_of : Network → Lcg → List Event → Happening
chosen_of N g es = happening_of N (slice_get es (chosen (length es) g).0)

some_length : (event : Event) (es : List Event) → 1 ≤ length (event ∷ es)
some_length event es = omega arith

chosen_happens : (N : Network) (g : Lcg) (es : List Event) → AllHappen N es → chosen_of N g es ≡ NoEvent → es ≡ []
chosen_happens N g [] a e = refl
chosen_happens N g (event ∷ es) a e =
    let f = there (event ∷ es) (chosen (length (event ∷ es)) g).0 (chosen_below (length (event ∷ es)) g (some_length event es)) in
    let h : Happens (happening N f.0) = each (λ z. Happens (happening N z)) (event ∷ es) (chosen (length (event ∷ es)) g).0 f.0 a f.1 in
    let k : happening N f.0 ≡ NoEvent = ap (happening_of N) (sym f.1) ∙ e in
    absurd (subst Happens k h)

nothing_chosen : (N : Network) (g : Lcg) (es : List Event) → es ≡ [] → chosen_of N g es ≡ NoEvent
nothing_chosen N g es e = ap (chosen_of N g) e

pub next_is_possible : NextIsPossible
next_is_possible N g = (chosen_happens N g (events N) (events_happen N), nothing_chosen N g (events N))
