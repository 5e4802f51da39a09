-- The least partner of a process at a channel is the first that is parked there.
use Rattle.std.proofs.Common.{ℕ, zero, suc, ◌≡◌, ◌≢◌, ◌≤◌, Bool, true, false, not, nat_eq, inl, inr, List, [], ◌∷◌, ◌++◌, map, refl, sym, ap, ◌∙◌, Some, None, slice_get, append_assoc, arith}
use Rattle.std.specs.Prelude.{◌&&◌}
use Rattle.std.specs.List.{AllByRecursion}
use Rattle.std.proofs.lemmas.Bool.Decides.{nat_tests}
use Rattle.pict_core.specs.Term.{Val, Process, Zero, Par, New, Out, In, If}
use Rattle.pict_core.specs.Configuration.{Mark, Ready, Parked, Entry}
use Rattle.pict_core.specs.Step.{least, is_channel, reads, sends, is_ready}
use Rattle.pict_core.proofs.Partners.{channel_is}
use Rattle.pict_network.specs.Network.{Item, Packet, Home, Network, entry, entries_of, by_stamp}
use Rattle.pict_network.specs.Invariant.{ItemsRise, ItemsRead, ItemsSend, IsNetwork}
use Rattle.pict_network.proofs.Puts.{NonePasses, PassAbove, least_behind, least_of_none, least_put, above_by_stamp, all_append, fails, passes_above}
use Rattle.pict_network.proofs.Unions.{ready_of, under_way, parked_of}

pub true_false : (b : Bool) → b ≡ true → b ≡ false → ⊥
true_false true h k = cc
true_false false h k = cc

some_home : (q h : Home) → Some q ≡ Some h → q ≡ h
some_home q h k = cc

zero_not : (c : ℕ) → 0 ≢ suc c
zero_not c h = omega (arith, h)

pub at_most : (n : ℕ) → n ≤ n
at_most n = omega arith

-- ---- what stands at one channel stands at no other

apart : (i c : ℕ) → i ≢ c → nat_eq c i ≡ false
apart i c h = grind (arith, nat_tests)

other_channel : (i c : ℕ) (v : Val) → i ≢ c → is_channel i v ≡ true → is_channel c v ≡ false
other_channel i c v n h = ap (is_channel c) (channel_is i v h) ∙ apart i c n

reads_other : (i c : ℕ) (p : Process) → i ≢ c → reads i p ≡ true → reads c p ≡ false
reads_other i c Zero n h = refl
reads_other i c (Par p q) n h = refl
reads_other i c (New p) n h = refl
reads_other i c (Out v w at) n h = refl
reads_other i c (In v r pattern p) n h = other_channel i c v n h
reads_other i c (If v p q) n h = refl

sends_other : (i c : ℕ) (p : Process) → i ≢ c → sends i p ≡ true → sends c p ≡ false
sends_other i c Zero n h = refl
sends_other i c (Par p q) n h = refl
sends_other i c (New p) n h = refl
sends_other i c (Out v w at) n h = other_channel i c v n h
sends_other i c (In v r pattern p) n h = refl
sends_other i c (If v p q) n h = refl

pub sends_no_reads : (i c : ℕ) (p : Process) → sends i p ≡ true → reads c p ≡ false
sends_no_reads i c Zero h = refl
sends_no_reads i c (Par p q) h = refl
sends_no_reads i c (New p) h = refl
sends_no_reads i c (Out v w at) h = refl
sends_no_reads i c (In v r pattern p) h = cc
sends_no_reads i c (If v p q) h = refl

pub reads_no_sends : (i c : ℕ) (p : Process) → reads i p ≡ true → sends c p ≡ false
reads_no_sends i c Zero h = refl
reads_no_sends i c (Par p q) h = refl
reads_no_sends i c (New p) h = refl
reads_no_sends i c (Out v w at) h = cc
reads_no_sends i c (In v r pattern p) h = refl
reads_no_sends i c (If v p q) h = refl

-- ---- a test of what is parked

-- those behind one of rising stamps
pub above_items : (test : Entry → Bool) (mark : Mark) (t : ℕ) (x : Item) (items : List Item) → t ≤ x.stamp → ItemsRise (x ∷ items) → PassAbove t test (map (entry mark) items)
above_items test mark t x [] l h = tt
above_items test mark t x (y ∷ items) l h = ((λ k. omega (arith, l, h.0)), above_items test mark t y items (omega (arith, l, h.0)) h.1)

abbrev pub parked_test : (Process → Bool) → Entry → Bool
parked_test f e = not (is_ready e) && f e.process

module _ (f : Process → Bool) where
  none_ready : (items : List Item) → NonePasses (parked_test f) (map (entry Ready) items)
  none_ready [] = tt
  none_ready (x ∷ items) = (refl, none_ready items)

  none_at_sites : (sites : List (List Item)) → NonePasses (parked_test f) (ready_of sites)
  none_at_sites [] = tt
  none_at_sites (q ∷ qs) = all_append (fails (parked_test f)) (map (entry Ready) q) (ready_of qs) (none_ready q) (none_at_sites qs)

  none_under_way : (packets : List Packet) → NonePasses (parked_test f) (under_way packets)
  none_under_way [] = tt
  none_under_way (p ∷ ps) = (refl, none_under_way ps)

  pub none_parked : (items : List Item) → AllByRecursion (λ (x : Item). f x.process ≡ false) items → NonePasses (parked_test f) (map (entry Parked) items)
  none_parked [] h = tt
  none_parked (x ∷ items) h = (h.0, none_parked items h.1)

  none_homes : (homes : List Home) → ((i : ℕ) (g : Home) → slice_get homes i ≡ Some g → AllByRecursion (λ (x : Item). f x.process ≡ false) g.parked) → NonePasses (parked_test f) (parked_of homes)
  none_homes [] h = tt
  none_homes (q ∷ qs) h = all_append (fails (parked_test f)) (map (entry Parked) q.parked) (parked_of qs) (none_parked q.parked (h 0 q refl)) (none_homes qs (λ i g k. h (suc i) g k))

  record Cut (homes : List Home) (h : Home) : Type 0 where
    front : List Entry
    back : List Entry
    is : parked_of homes ≡ front ++ (map (entry Parked) h.parked ++ back)
    none_front : NonePasses (parked_test f) front
    none_back : NonePasses (parked_test f) back

  not_zero : (i : ℕ) → suc i ≢ 0
  not_zero i h = omega (arith, h)

  one_less : (i c : ℕ) → i ≢ c → suc i ≢ suc c
  one_less i c n h = n (omega (arith, h))

  cut_homes : (homes : List Home) (c : ℕ) (h : Home) → slice_get homes c ≡ Some h → ((i : ℕ) (g : Home) → slice_get homes i ≡ Some g → i ≢ c → AllByRecursion (λ (x : Item). f x.process ≡ false) g.parked) → Cut homes h
  cut_homes [] c h k others = cc
  cut_homes (q ∷ qs) zero h k others = record {
    front = [];
    back = parked_of qs;
    is = ap (λ (o : Home). map (entry Parked) o.parked ++ parked_of qs) (some_home q h k);
    none_front = tt;
    none_back = none_homes qs (λ i g l. others (suc i) g l (not_zero i));
  }
  cut_homes (q ∷ qs) (suc c) h k others =
      let a = cut_homes qs c h k (λ i g l n. others (suc i) g l (one_less i c n)) in
      record {
        front = map (entry Parked) q.parked ++ a.front;
        back = a.back;
        is = ap (λ z. map (entry Parked) q.parked ++ z) a.is ∙ sym (append_assoc (map (entry Parked) q.parked) a.front (map (entry Parked) h.parked ++ a.back));
        none_front = all_append (fails (parked_test f)) (map (entry Parked) q.parked) a.front (none_parked q.parked (others 0 q refl (zero_not c))) a.none_front;
        none_back = a.none_back;
      }

  above_none : (t : ℕ) (es : List Entry) → NonePasses (parked_test f) es → PassAbove t (parked_test f) es
  above_none t [] h = tt
  above_none t (e ∷ es) h = ((λ k. absurd (true_false (parked_test f e) k h.0)), above_none t es h.1)

  -- what all else is, around what is parked at channel c
  pub at_channel_alone : (N : Network) (c : ℕ) (h : Home) → slice_get N.channels c ≡ Some h → ((i : ℕ) (g : Home) → slice_get N.channels i ≡ Some g → i ≢ c → AllByRecursion (λ (x : Item). f x.process ≡ false) g.parked)
      → (back : List Entry) × NonePasses (parked_test f) back × (least (parked_test f) (by_stamp (entries_of N)) ≡ least (parked_test f) (by_stamp (map (entry Parked) h.parked ++ back)))
  at_channel_alone N c h k others =
      let a = cut_homes N.channels c h k others in
      let first : List Entry = ready_of N.sites ++ (under_way N.packets ++ a.front) in
      let e : entries_of N ≡ first ++ (map (entry Parked) h.parked ++ a.back) =
      ap (λ z. ready_of N.sites ++ (under_way N.packets ++ z)) a.is ∙ ap (λ z. ready_of N.sites ++ z) (sym (append_assoc (under_way N.packets) a.front (map (entry Parked) h.parked ++ a.back)))
      ∙ sym (append_assoc (ready_of N.sites) (under_way N.packets ++ a.front) (map (entry Parked) h.parked ++ a.back)) in
      let none : NonePasses (parked_test f) first = all_append (fails (parked_test f)) (ready_of N.sites) (under_way N.packets ++ a.front) (none_at_sites N.sites) (all_append (fails (parked_test f)) (under_way N.packets) a.front (none_under_way N.packets) a.none_front) in
      (a.back, a.none_back, ap (λ z. least (parked_test f) (by_stamp z)) e ∙ least_behind (parked_test f) first (map (entry Parked) h.parked ++ a.back) none)

  pub none_there : (items : List Item) (back : List Entry) → AllByRecursion (λ (x : Item). f x.process ≡ false) items → NonePasses (parked_test f) back → least (parked_test f) (by_stamp (map (entry Parked) items ++ back)) ≡ None
  none_there items back h k = least_of_none (parked_test f) (map (entry Parked) items ++ back) (all_append (fails (parked_test f)) (map (entry Parked) items) back (none_parked items h) k)

  pub first_there : (u : Item) (others : List Item) (back : List Entry) → f u.process ≡ true → ItemsRise (u ∷ others) → NonePasses (parked_test f) back → least (parked_test f) (by_stamp (map (entry Parked) (u ∷ others) ++ back)) ≡ Some (entry Parked u)
  first_there u others back h r k =
      least_put (parked_test f) (entry Parked u) (by_stamp (map (entry Parked) others ++ back)) h
      (above_by_stamp u.stamp (parked_test f) (map (entry Parked) others ++ back) (all_append (passes_above u.stamp (parked_test f)) (map (entry Parked) others) back (above_items (parked_test f) Parked u.stamp u others (at_most u.stamp) r) (above_none u.stamp back k)))

-- ---- the two tests

all_of : (P Q : Item → Type 0) → ((x : Item) → P x → Q x) → (items : List Item) → AllByRecursion P items → AllByRecursion Q items
all_of P Q h [] a = tt
all_of P Q h (x ∷ items) a = (h x a.0, all_of P Q h items a.1)

pub others_no_readers : (N : Network) → IsNetwork N → (c i : ℕ) (g : Home) → slice_get N.channels i ≡ Some g → i ≢ c → AllByRecursion (λ (x : Item). reads c x.process ≡ false) g.parked
others_no_readers N is c i g h n = elim ((is.homes i g h).1.one_kind) [
  | inl k ↦ all_of (λ (x : Item). reads i x.process ≡ true) (λ (x : Item). reads c x.process ≡ false) (λ x a. reads_other i c x.process n a) g.parked k
  | inr k ↦ all_of (λ (x : Item). sends i x.process ≡ true) (λ (x : Item). reads c x.process ≡ false) (λ x a. sends_no_reads i c x.process a) g.parked k
]

pub others_no_messages : (N : Network) → IsNetwork N → (c i : ℕ) (g : Home) → slice_get N.channels i ≡ Some g → i ≢ c → AllByRecursion (λ (x : Item). sends c x.process ≡ false) g.parked
others_no_messages N is c i g h n = elim ((is.homes i g h).1.one_kind) [
  | inl k ↦ all_of (λ (x : Item). reads i x.process ≡ true) (λ (x : Item). sends c x.process ≡ false) (λ x a. reads_no_sends i c x.process a) g.parked k
  | inr k ↦ all_of (λ (x : Item). sends i x.process ≡ true) (λ (x : Item). sends c x.process ≡ false) (λ x a. sends_other i c x.process n a) g.parked k
]

-- messages are no readers, and readers no messages
pub all_no_reads : (c : ℕ) (items : List Item) → ItemsSend c items → AllByRecursion (λ (x : Item). reads c x.process ≡ false) items
all_no_reads c items a = all_of (λ (x : Item). sends c x.process ≡ true) (λ (x : Item). reads c x.process ≡ false) (λ x b. sends_no_reads c c x.process b) items a

pub all_no_sends : (c : ℕ) (items : List Item) → ItemsRead c items → AllByRecursion (λ (x : Item). sends c x.process ≡ false) items
all_no_sends c items a = all_of (λ (x : Item). reads c x.process ≡ true) (λ (x : Item). sends c x.process ≡ false) (λ x b. reads_no_sends c c x.process b) items a
