-- Where an item stands in a network, its entry stands in the union.
use Rattle.std.proofs.Common.{ℕ, zero, suc, ◌≡◌, ◌+◌, List, [], ◌∷◌, ◌++◌, map, take, drop, refl, sym, ap, ◌∙◌, subst, Some, slice_get, slice_set, append_assoc, arith}
use Rattle.std.specs.List.{flat_map}
use Rattle.std.proofs.lemmas.List.{append-nil}
use Rattle.pict_core.specs.Configuration.{Mark, Ready, Parked, Entry}
use Rattle.pict_network.specs.Network.{Item, Packet, Home, Network, entry, entries_of, put, by_stamp}
use Rattle.pict_network.specs.Events.{at_site, sent, parked_at}
use Rattle.pict_network.specs.Invariant.{Apart, AreApart}
use Rattle.pict_network.proofs.Puts.{pull, apart_back, all_front, all_rest, is_other}

-- ---- lists

pub some_same : {X : Type 0} (x y : X) → Some x ≡ Some y → x ≡ y
some_same x y h = cc

one_more : (i : ℕ) → suc (i + 1) ≡ suc i + 1
one_more i = omega arith

pub set_same : {X : Type 0} (xs : List X) (i : ℕ) (x : X) → slice_get xs i ≡ Some x → slice_set xs i x ≡ xs
set_same [] i x h = refl
set_same (y ∷ ys) zero x h = ap (λ z. z ∷ ys) (sym (some_same y x h))
set_same (y ∷ ys) (suc i) x h = ap (λ z. y ∷ z) (set_same ys i x h)

pub set_again : {X : Type 0} (xs : List X) (i : ℕ) (x y : X) → slice_set (slice_set xs i x) i y ≡ slice_set xs i y
set_again [] i x y = refl
set_again (z ∷ zs) zero x y = refl
set_again (z ∷ zs) (suc i) x y = ap (λ u. z ∷ u) (set_again zs i x y)

pub get_again : {X : Type 0} (xs : List X) (i : ℕ) (x y : X) → slice_get xs i ≡ Some x → slice_get (slice_set xs i y) i ≡ Some y
get_again [] i x y h = cc
get_again (z ∷ zs) zero x y h = refl
get_again (z ∷ zs) (suc i) x y h = get_again zs i x y h

-- ---- entries

abbrev pub ready_of : List (List Item) → List Entry
ready_of sites = flat_map (map (entry Ready)) sites

abbrev pub under_way : List Packet → List Entry
under_way packets = map (λ (p : Packet). entry Ready p.item) packets

abbrev pub parked_of : List Home → List Entry
parked_of channels = flat_map (λ (h : Home). map (entry Parked) h.parked) channels

-- N has this entry, and M the others
pub record Inserts (x : Entry) (N M : Network) : Type 0 where
  pub front : List Entry
  pub back : List Entry
  pub is : entries_of N ≡ front ++ x ∷ back
  pub without : entries_of M ≡ front ++ back

apart_there : (xs : List Entry) (x : Entry) (ys : List Entry) → AreApart (xs ++ x ∷ ys) → Apart x.stamp (xs ++ ys)
apart_there [] x ys h = h.0
apart_there (z ∷ xs) x ys h = (apart_back z.stamp x.stamp ((all_rest (is_other z.stamp) xs (x ∷ ys) h.0).0), apart_there xs x ys h.1)

pub apart_of : (x : Entry) (N M : Network) → Inserts x N M → AreApart (entries_of N) → Apart x.stamp (entries_of M)
apart_of x N M i h = subst (Apart x.stamp) (sym i.without) (apart_there i.front x i.back (subst AreApart i.is h))

pub inserted : (x : Entry) (N M : Network) → Inserts x N M → Apart x.stamp (entries_of M) → by_stamp (entries_of N) ≡ put x (by_stamp (entries_of M))
inserted x N M i h = ap by_stamp i.is ∙ pull i.front x i.back (all_front (is_other x.stamp) i.front i.back (subst (Apart x.stamp) i.without h)) ∙ ap (λ es. put x (by_stamp es)) (sym i.without)

-- ---- where they stand

map_append : (mark : Mark) (xs ys : List Item) → map (entry mark) (xs ++ ys) ≡ map (entry mark) xs ++ map (entry mark) ys
map_append mark [] ys = refl
map_append mark (x ∷ xs) ys = ap (λ z. entry mark x ∷ z) (map_append mark xs ys)

-- what stands around the items of one site, or of one channel
pub record Around (whole : List Item → List Entry) (mark : Mark) : Type 0 where
  pub front : List Entry
  pub back : List Entry
  pub is : (xs : List Item) → whole xs ≡ front ++ (map (entry mark) xs ++ back)

pub around_site : (sites : List (List Item)) (s : ℕ) (old : List Item) → slice_get sites s ≡ Some old → Around (λ xs. ready_of (slice_set sites s xs)) Ready
around_site [] s old h = cc
around_site (q ∷ qs) zero old h = record { front = []; back = ready_of qs; is = λ xs. refl }
around_site (q ∷ qs) (suc s) old h =
    let a = around_site qs s old h in
    record { front = map (entry Ready) q ++ a.front; back = a.back; is = λ xs. ap (λ z. map (entry Ready) q ++ z) (a.is xs) ∙ sym (append_assoc (map (entry Ready) q) a.front (map (entry Ready) xs ++ a.back)) }

pub around_home : (homes : List Home) (c site : ℕ) (old : Home) → slice_get homes c ≡ Some old → Around (λ xs. parked_of (slice_set homes c (record { site = site; parked = xs }))) Parked
around_home [] c site old h = cc
around_home (q ∷ qs) zero site old h = record { front = []; back = parked_of qs; is = λ xs. refl }
around_home (q ∷ qs) (suc c) site old h =
    let a = around_home qs c site old h in
    record { front = map (entry Parked) q.parked ++ a.front; back = a.back; is = λ xs. ap (λ z. map (entry Parked) q.parked ++ z) (a.is xs) ∙ sym (append_assoc (map (entry Parked) q.parked) a.front (map (entry Parked) xs ++ a.back)) }

-- one of a segment, pulled out of it
in_segment : (mark : Mark) (front back : List Entry) (xs ys : List Item) (x : Item) → front ++ (map (entry mark) (xs ++ x ∷ ys) ++ back) ≡ (front ++ map (entry mark) xs) ++ entry mark x ∷ (map (entry mark) ys ++ back)
in_segment mark front back xs ys x =
    ap (λ z. front ++ (z ++ back)) (map_append mark xs (x ∷ ys)) ∙ ap (λ z. front ++ z) (append_assoc (map (entry mark) xs) (entry mark x ∷ map (entry mark) ys) back)
    ∙ sym (append_assoc front (map (entry mark) xs) (entry mark x ∷ (map (entry mark) ys ++ back)))

out_of_segment : (mark : Mark) (front back : List Entry) (xs ys : List Item) → front ++ (map (entry mark) (xs ++ ys) ++ back) ≡ (front ++ map (entry mark) xs) ++ (map (entry mark) ys ++ back)
out_of_segment mark front back xs ys =
    ap (λ z. front ++ (z ++ back)) (map_append mark xs ys) ∙ ap (λ z. front ++ z) (append_assoc (map (entry mark) xs) (map (entry mark) ys) back)
    ∙ sym (append_assoc front (map (entry mark) xs) (map (entry mark) ys ++ back))

pub at_a_site : (N : Network) (s : ℕ) (old xs ys : List Item) (x : Item) → slice_get N.sites s ≡ Some old → Inserts (entry Ready x) (at_site s (xs ++ x ∷ ys) N) (at_site s (xs ++ ys) N)
at_a_site N s old xs ys x h =
    let a = around_site N.sites s old h in
    let rest : List Entry = under_way N.packets ++ parked_of N.channels in
    record {
      front = a.front ++ map (entry Ready) xs;
      back = (map (entry Ready) ys ++ a.back) ++ rest;
      is = ap (λ z. z ++ rest) (a.is (xs ++ x ∷ ys) ∙ in_segment Ready a.front a.back xs ys x) ∙ append_assoc (a.front ++ map (entry Ready) xs) (entry Ready x ∷ (map (entry Ready) ys ++ a.back)) rest;
      without = ap (λ z. z ++ rest) (a.is (xs ++ ys) ∙ out_of_segment Ready a.front a.back xs ys) ∙ append_assoc (a.front ++ map (entry Ready) xs) (map (entry Ready) ys ++ a.back) rest;
    }

pub at_a_channel : (N : Network) (c : ℕ) (h old : Home) (xs ys : List Item) (x : Item) → slice_get N.channels c ≡ Some old → Inserts (entry Parked x) (parked_at c h (xs ++ x ∷ ys) N) (parked_at c h (xs ++ ys) N)
at_a_channel N c h old xs ys x k =
    let a = around_home N.channels c h.site old k in
    let first : List Entry = ready_of N.sites ++ under_way N.packets in
    record {
      front = first ++ (a.front ++ map (entry Parked) xs);
      back = map (entry Parked) ys ++ a.back;
      is = sym (append_assoc (ready_of N.sites) (under_way N.packets) _) ∙ ap (λ z. first ++ z) (a.is (xs ++ x ∷ ys) ∙ in_segment Parked a.front a.back xs ys x) ∙ sym (append_assoc first (a.front ++ map (entry Parked) xs) (entry Parked x ∷ (map (entry Parked) ys ++ a.back)));
      without = sym (append_assoc (ready_of N.sites) (under_way N.packets) _) ∙ ap (λ z. first ++ z) (a.is (xs ++ ys) ∙ out_of_segment Parked a.front a.back xs ys) ∙ sym (append_assoc first (a.front ++ map (entry Parked) xs) (map (entry Parked) ys ++ a.back));
    }

packets_append : (xs ys : List Packet) → under_way (xs ++ ys) ≡ under_way xs ++ under_way ys
packets_append [] ys = refl
packets_append (x ∷ xs) ys = ap (λ z. entry Ready x.item ∷ z) (packets_append xs ys)

among_packets : (N : Network) (xs ys : List Packet) (p : Packet) → Inserts (entry Ready p.item) (record N { packets = xs ++ p ∷ ys }) (record N { packets = xs ++ ys })
among_packets N xs ys p =
    let sites : List Entry = ready_of N.sites in
    let last : List Entry = parked_of N.channels in
    record {
      front = sites ++ under_way xs;
      back = under_way ys ++ last;
      is = ap (λ z. sites ++ (z ++ last)) (packets_append xs (p ∷ ys)) ∙ ap (λ z. sites ++ z) (append_assoc (under_way xs) (entry Ready p.item ∷ under_way ys) last) ∙ sym (append_assoc sites (under_way xs) (entry Ready p.item ∷ (under_way ys ++ last)));
      without = ap (λ z. sites ++ (z ++ last)) (packets_append xs ys) ∙ ap (λ z. sites ++ z) (append_assoc (under_way xs) (under_way ys) last) ∙ sym (append_assoc sites (under_way xs) (under_way ys ++ last));
    }

pub as_last_packet : (N : Network) (to : ℕ) (x : Item) → Inserts (entry Ready x) (sent to x N) N
as_last_packet N to x =
    let i = among_packets N N.packets [] (record { to = to; item = x }) in
    record { front = i.front; back = i.back; is = i.is; without = ap (λ z. entries_of (record N { packets = z })) (sym (append-nil N.packets)) ∙ i.without }

-- a list cut at a place
pub cut_at : {X : Type 0} (xs : List X) (i : ℕ) (x : X) → slice_get xs i ≡ Some x → xs ≡ take i xs ++ x ∷ drop (i + 1) xs
cut_at [] i x h = cc
cut_at (y ∷ ys) zero x h = ap (λ z. z ∷ ys) (some_same y x h)
cut_at (y ∷ ys) (suc i) x h = ap (λ z. y ∷ z) (cut_at ys i x h) ∙ ap (λ n. y ∷ (take i ys ++ x ∷ drop n (y ∷ ys))) (one_more i)

pub as_packet : (N : Network) (j : ℕ) (p : Packet) → slice_get N.packets j ≡ Some p → Inserts (entry Ready p.item) N (record N { packets = take j N.packets ++ drop (j + 1) N.packets })
as_packet N j p h =
    let i = among_packets N (take j N.packets) (drop (j + 1) N.packets) p in
    record { front = i.front; back = i.back; is = ap (λ z. entries_of (record N { packets = z })) (cut_at N.packets j p h) ∙ i.is; without = i.without }
