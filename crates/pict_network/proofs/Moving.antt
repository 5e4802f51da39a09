-- What moves leaves the union as it is.
use Rattle.std.proofs.Common.{ℕ, zero, suc, ◌≡◌, ◌<◌, Bool, true, false, nat_eq, cond, List, [], ◌∷◌, ◌++◌, length, refl, sym, ap, ◌∙◌, subst, Option, Some, None, slice_get, arith}
use Rattle.std.specs.List.{AllByRecursion}
use Rattle.std.proofs.lemmas.List.{append-nil}
use Rattle.pict_core.specs.Configuration.{Ready}
use Rattle.pict_core.specs.Deed.{Deed, Ends, Keeps, Forks, Opens, Parks, Serves, Takes, Stops, Misfits}
use Rattle.pict_view.specs.Placed.{without}
use Rattle.pict_network.specs.Network.{Item, Packet, Home, Network, entry, entries_of, by_stamp, union}
use Rattle.pict_network.specs.Events.{Happening, Moved, Stepped, Stopped, Misshapen, NoEvent, Act, Delivery, at_site, items_in, behind, sent, at_channel, place, goes_or_acts, deed_in, home_of, act_of, delivery_of}
use Rattle.pict_network.specs.Invariant.{AreApart, IsNetwork}
use Rattle.pict_network.specs.Laws.{MovesKeepUnions}
use Rattle.pict_network.proofs.Unions.{some_same, set_same, Inserts, apart_of, inserted, at_a_site, as_last_packet, as_packet}

-- it moves this item away, or doesn't move at all
abbrev pub Sends : Network → Item → Happening → Type 0
Sends M x (Moved N) = (to : ℕ) × (N ≡ sent to x M)
Sends M x (Stepped N label) = Unit {0}
Sends M x (Stopped at) = Unit {0}
Sends M x Misshapen = Unit {0}
Sends M x NoEvent = Unit {0}

module _ (M : Network) (x : Item) where
  channel_sends : (go : Home → Happening) → ((h : Home) → Sends M x (go h)) → (o : Option Home) → Sends M x (at_channel go o)
  channel_sends go h None = tt
  channel_sends go h (Some g) = h g

  place_sends : (N : Network) (s : ℕ) (rest : List Item) (d : Deed) → Sends M x (place N s x rest d)
  place_sends N s rest (Ends label) = tt
  place_sends N s rest (Keeps p label) = tt
  place_sends N s rest (Forks p q) = tt
  place_sends N s rest (Opens p) = tt
  place_sends N s rest (Parks c p) = channel_sends _ (λ h. tt) (slice_get N.channels c)
  place_sends N s rest (Serves c v b reader body) = channel_sends _ (λ h. tt) (slice_get N.channels c)
  place_sends N s rest (Takes c v b body) = channel_sends _ (λ h. tt) (slice_get N.channels c)
  place_sends N s rest (Stops at) = tt
  place_sends N s rest Misfits = tt

  tested : (b : Bool) (h k : Happening) → Sends M x h → Sends M x k → Sends M x (cond b h k)
  tested true h k a b = a
  tested false h k a b = b

  home_sends : (s : ℕ) (local : Happening) → Sends M x local → (home : Option ℕ) → Sends M x (goes_or_acts s x M local home)
  home_sends s local a None = a
  home_sends s local a (Some g) = tested (nat_eq g s) local (Moved (sent g x M)) a (g, refl)

-- ---- unions

abbrev moved_to : Network → Happening → Network
moved_to N (Moved M) = M
moved_to N _ = N

the_moved : (M K : Network) → Moved M ≡ Moved K → M ≡ K
the_moved M K h = ap (moved_to M) h

same_union : (N M : Network) → N.next_stamp ≡ M.next_stamp → length N.channels ≡ length M.channels → by_stamp (entries_of N) ≡ by_stamp (entries_of M) → union N ≡ union M
same_union N M h k e =
    ap (λ z. record { channels = length N.channels; next_stamp = z; entries = by_stamp (entries_of N) }) h
    ∙ ap (λ z. record { channels = z; next_stamp = M.next_stamp; entries = by_stamp (entries_of N) }) k
    ∙ ap (λ z. record { channels = length M.channels; next_stamp = M.next_stamp; entries = z }) e

pub site_again : (N : Network) (s : ℕ) (items : List Item) → slice_get N.sites s ≡ Some items → at_site s items N ≡ N
site_again N s items h = ap (λ z. record N { sites = z }) (set_same N.sites s items h)

-- N has one at the front of site s
pub first_of : (N : Network) (s : ℕ) (x : Item) (rest : List Item) → slice_get N.sites s ≡ Some (x ∷ rest) → Inserts (entry Ready x) N (at_site s rest N)
first_of N s x rest h = subst (λ K. Inserts (entry Ready x) K (at_site s rest N)) (site_again N s (x ∷ rest) h) (at_a_site N s (x ∷ rest) [] rest x h)

-- one goes behind the others of a site
pub last_of : (M : Network) (s : ℕ) (items : List Item) (x : Item) → slice_get M.sites s ≡ Some items → Inserts (entry Ready x) (behind s x M) M
last_of M s items x h =
    let i = at_a_site M s items items [] x h in
    let to : at_site s (items ++ x ∷ []) M ≡ behind s x M = ap (λ o. at_site s (items_in o ++ x ∷ []) M) (sym h) in
    subst (λ K. Inserts (entry Ready x) K M) to (subst (Inserts (entry Ready x) (at_site s (items ++ x ∷ []) M)) (ap (λ z. at_site s z M) (append-nil items) ∙ site_again M s items h) i)

-- two networks that are one network with one item more have one union
moved_union : (x : Item) (N N' M : Network) → Inserts (entry Ready x) N M → Inserts (entry Ready x) N' M → AreApart (entries_of N) → N'.next_stamp ≡ N.next_stamp → length N'.channels ≡ length N.channels → union N' ≡ union N
moved_union x N N' M i j a h k =
    let apart = apart_of (entry Ready x) N M i a in
    same_union N' N h k (inserted (entry Ready x) N' M j apart ∙ sym (inserted (entry Ready x) N M i apart))

moved_sent : (N M : Network) (s : ℕ) (x : Item) (rest : List Item) → IsNetwork N → slice_get N.sites s ≡ Some (x ∷ rest) → (o : Happening) → Sends (at_site s rest N) x o → o ≡ Moved M → union M ≡ union N
moved_sent N M s x rest is h (Moved K) k e =
    let same : M ≡ sent k.0 x (at_site s rest N) = the_moved M K (sym e) ∙ k.1 in
    ap union same ∙ moved_union x N (sent k.0 x (at_site s rest N)) (at_site s rest N) (first_of N s x rest h) (as_last_packet (at_site s rest N) k.0 x) is.apart refl refl
moved_sent N M s x rest is h (Stepped K label) k e = cc
moved_sent N M s x rest is h (Stopped at) k e = cc
moved_sent N M s x rest is h Misshapen k e = cc
moved_sent N M s x rest is h NoEvent k e = cc

act_moves : (N M : Network) (s : ℕ) → IsNetwork N → (o : Option (List Item)) → slice_get N.sites s ≡ o → act_of N s o ≡ Moved M → union M ≡ union N
act_moves N M s is None h e = cc
act_moves N M s is (Some []) h e = cc
act_moves N M s is (Some (x ∷ rest)) h e =
    moved_sent N M s x rest is h (act_of N s (Some (x ∷ rest)))
    (home_sends (at_site s rest N) x s (place N s x rest (deed_in N x.process)) (place_sends (at_site s rest N) x N s rest (deed_in N x.process)) (home_of N.channels x.process)) e

pub there : {X : Type 0} (xs : List X) (i : ℕ) → i < length xs → (x : X) × (slice_get xs i ≡ Some x)
there [] i h = absurd (omega (arith, h))
there (x ∷ xs) zero h = (x, refl)
there (x ∷ xs) (suc i) h = there xs i (omega (arith, h))

pub each : {X : Type 0} (P : X → Type 0) (xs : List X) (i : ℕ) (x : X) → AllByRecursion P xs → slice_get xs i ≡ Some x → P x
each P [] i x a h = cc
each P (y ∷ ys) zero x a h = subst P (some_same y x h) a.0
each P (y ∷ ys) (suc i) x a h = each P ys i x a.1 h

delivery_moves : (N M : Network) (j : ℕ) → IsNetwork N → (o : Option Packet) → slice_get N.packets j ≡ o → delivery_of N j o ≡ Moved M → union M ≡ union N
delivery_moves N M j is None h e = cc
delivery_moves N M j is (Some p) h e =
    let K : Network = record N { packets = without j N.packets } in
    let site = there N.sites p.to (each (λ (p : Packet). p.to < length N.sites) N.packets j p is.destinations h) in
    let same : M ≡ behind p.to p.item K = the_moved M (behind p.to p.item K) (sym e) in
    ap union same ∙ moved_union p.item N (behind p.to p.item K) K (as_packet N j p h) (last_of K p.to site.0 p.item site.1) is.apart refl refl

pub moves_keep_unions : MovesKeepUnions
moves_keep_unions N M (Act s) is e = act_moves N M s is (slice_get N.sites s) refl e
moves_keep_unions N M (Delivery j) is e = delivery_moves N M j is (slice_get N.packets j) refl e
