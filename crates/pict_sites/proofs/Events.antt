-- Events of sites one after another.
use Rattle.std.proofs.Common.{ℕ, zero, suc, ◌≡◌, ◌≢◌, ◌≤◌, ◌<◌, ◌+◌, ◌-◌, ◌↔◌, Bool, false, IsTrue, List, [], ◌∷◌, ◌++◌, length, map, drop, refl, sym, ap, ◌∙◌, Some, slice_get, arith}
use Rattle.std.proofs.lemmas.Bool.{false≢true}
use Rattle.pict_core.specs.Term.{Process}
use Rattle.pict_queue.specs.QueuesState.{QueuesState}
use Rattle.pict_queue.specs.Contents.{contents}
use Rattle.pict_view.specs.View.{View}
use Rattle.pict_blocks.specs.Blocks.{process_of}
use Rattle.pict_desk.specs.Known.{value_in}
use Rattle.pict_network.specs.Network.{Item, Packet, Network}
use Rattle.pict_network.specs.Events.{Event, Act, Delivery, items_in, items_at, processes_of, acts_from, deliveries_from}
use Rattle.pict_network.proofs.Moving.{there}
use Rattle.pict_sites.specs.Views.{heap_in, StandFor}
use Rattle.pict_sites.specs.declared.sites.Sites.{Sites}

-- the events from site s on
abbrev pub events_from : ℕ → Network → List Event
events_from s N = acts_from s (drop s N.sites) ++ deliveries_from 0 N.packets

-- a list from a place where an item stands
pub drop_there : {X : Type 0} (xs : List X) (i : ℕ) (x : X) → slice_get xs i ≡ Some x → drop i xs ≡ x ∷ drop (i + 1) xs
drop_there [] i x h = cc
drop_there (y ∷ ys) zero x h = let same : y ≡ x = cc in ap (λ z. z ∷ ys) same
drop_there (y ∷ ys) (suc i) x h = let e : suc (i + 1) ≡ suc i + 1 = omega arith in drop_there ys i x h ∙ ap (λ n. x ∷ drop n (y ∷ ys)) e

drop_past : {X : Type 0} (xs : List X) (i : ℕ) → length xs ≤ i → drop i xs ≡ []
drop_past [] zero h = refl
drop_past [] (suc i) h = refl
drop_past (x ∷ xs) zero h = absurd (omega (arith, h))
drop_past (x ∷ xs) (suc i) h = drop_past xs i (omega (arith, h))

none_ready : (items : List Item) (ps : List Process) → ps ≡ processes_of items → ps ≡ [] → items ≡ []
none_ready [] ps e none = refl
none_ready (x ∷ items) ps e none = cc

module _ (core : Process) (n : Sites) (N : Network) (st : StandFor core n N) (s : ℕ) (q : QueuesState) (at : slice_get n.queues.items s ≡ Some q) where
  ready_same : map (process_of core (value_in (heap_in n))) (contents q 0) ≡ processes_of (items_at s N)
  ready_same = ap (λ (v : View). v.ready) (st.sites s q at)

  low_site : s < length N.sites
  low_site = let e = st.count in let low = got_low n.queues.items s q at in omega (arith, e, low)
    where
      got_low : {X : Type 0} (xs : List X) (i : ℕ) (x : X) → slice_get xs i ≡ Some x → i < length xs
      got_low [] i x h = cc
      got_low (y ∷ ys) zero x h = omega arith
      got_low (y ∷ ys) (suc i) x h = let low = got_low ys i x h in omega (arith, low)

  items_there : slice_get N.sites s ≡ Some (items_at s N)
  items_there = let x = there N.sites s low_site in x.1 ∙ ap Some (ap items_in (sym x.1))

  from_here : events_from s N ≡ acts_from s (items_at s N ∷ drop (s + 1) N.sites) ++ deliveries_from 0 N.packets
  from_here = ap (λ xs. acts_from s xs ++ deliveries_from 0 N.packets) (drop_there N.sites s (items_at s N) items_there)

  -- a site where nothing is ready has no event
  pub idle_here : contents q 0 ≡ [] → events_from s N ≡ events_from (s + 1) N
  idle_here none =
      from_here
      ∙ ap (λ items. acts_from s (items ∷ drop (s + 1) N.sites) ++ deliveries_from 0 N.packets)
      (none_ready (items_at s N) _ ready_same (ap (map (process_of core (value_in (heap_in n)))) none))

  busy_by : (items : List Item) (ws : List (List ℕ)) → map (process_of core (value_in (heap_in n))) ws ≡ processes_of items → ws ≢ []
      → acts_from s (items ∷ drop (s + 1) N.sites) ≡ Act s ∷ acts_from (s + 1) (drop (s + 1) N.sites)
  busy_by [] [] e some = absurd (some refl)
  busy_by [] (w ∷ ws) e some = cc
  busy_by (x ∷ items) ws e some = refl

  -- one where something is ready has an act
  pub busy_here : contents q 0 ≢ [] → events_from s N ≡ Act s ∷ events_from (s + 1) N
  busy_here some = from_here ∙ ap (λ es. es ++ deliveries_from 0 N.packets) (busy_by (items_at s N) (contents q 0) ready_same some)

-- behind the sites there are deliveries alone
pub behind_sites : (N : Network) (s : ℕ) → length N.sites ≤ s → events_from s N ≡ deliveries_from 0 N.packets
behind_sites N s past = ap (λ xs. acts_from s xs ++ deliveries_from 0 N.packets) (drop_past N.sites s past)

pub count_deliveries : (j : ℕ) (packets : List Packet) → length (deliveries_from j packets) ≡ length packets
count_deliveries j [] = refl
count_deliveries j (p ∷ packets) = ap suc (count_deliveries (j + 1) packets)

delivery_from : (i j : ℕ) (packets : List Packet) → j < length packets → slice_get (deliveries_from i packets) j ≡ Some (Delivery (i + j))
delivery_from i j [] low = absurd (omega (arith, low))
delivery_from i zero (p ∷ packets) low = let e : i ≡ i + 0 = omega arith in ap (λ k. Some (Delivery k)) e
delivery_from i (suc j) (p ∷ packets) low =
    let e : i + 1 + j ≡ i + suc j = omega arith in
    delivery_from (i + 1) j packets (omega (arith, low)) ∙ ap (λ k. Some (Delivery k)) e

pub delivery_there : (j : ℕ) (packets : List Packet) → j < length packets → slice_get (deliveries_from 0 packets) j ≡ Some (Delivery j)
delivery_there j packets low = let e : 0 + j ≡ j = omega arith in delivery_from 0 j packets low ∙ ap (λ k. Some (Delivery k)) e

-- ---- places

pub next_event : {X : Type 0} (x : X) (xs : List X) (i : ℕ) → ¬ (i ≡ 0) → slice_get (x ∷ xs) i ≡ slice_get xs (i - 1)
next_event x xs zero h = absurd (h refl)
next_event x xs (suc i) h = let e : i ≡ suc i - 1 = omega arith in ap (slice_get xs) e

pub nothing_in : {X : Type 0} (b : Bool) (xs : List X) → (IsTrue b ↔ (xs ≢ [])) → b ≡ false → xs ≡ []
nothing_in b [] e f = refl
nothing_in b (x ∷ xs) e f = absurd (false≢true (sym f ∙ e.1 (λ none. cc)))
