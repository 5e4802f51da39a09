-- A ranked list's slots and their counts, when one of them changes.
use Rattle.std.proofs.Common.{ℕ, suc, ◌+◌, ◌-◌, ◌≤◌, ◌<◌, ◌≡◌, Bool, true, false, List, [], ◌∷◌, ◌++◌, length, map, take, drop, set, get_or, replicate, nat_lt, refl, sym, ap, ◌∙◌, subst, Option, Some, None, arith}
use Rattle.std.specs.Prelude.{slice_get, is_some}
use Rattle.std.specs.List.{filter}
use Rattle.std.proofs.Math.Seq.{append_snoc}
use Rattle.std.proofs.lemmas.Bool.Decides.{nat_tests}
use Rattle.std.proofs.lemmas.List.{take-append-le, take-map, length-map, length-set, length_push, map_push, map-set, get_or_append_left, get_or-append_right, get_or-map, get_or-replicate, set-append_left, set_at}
use Rattle.std.proofs.lemmas.Option.{slice_get-get_or, get_or_from_slice_get}
use Rattle.pict_ranked.specs.Tree.{total}
use Rattle.pict_ranked.specs.Ranking.{standing, one_if_full, IsRanked}
use Rattle.pict_ranked.proofs.Totals.{total-append, total_none}
use Rattle.pict_ranked.proofs.Leaves.{length_filled}
use Rattle.pict_ranked.proofs.Slots.{rank, total_full, standing-append, stands_there, emptied, filled, full_still, standing-full, all_full, as_many_full}

-- The i-th item stands in slot s.
pub record IsAt {X : Type 0} (slots : List (Option X)) (i s : ℕ) : Type 0 where
  item : X
  within : s < length slots
  here : slice_get slots s ≡ Some (Some item)
  before : rank s slots ≡ i

module _ {X : Type 0} (slots : List (Option X)) (capacity : ℕ) (counts : List ℕ) (r : IsRanked slots capacity counts) where
  abbrev fulls : List ℕ
  fulls = map one_if_full slots

  abbrev rest : List ℕ
  rest = replicate (length counts - length slots) 0

  pub counted : total counts ≡ length (standing slots)
  counted = let a = total-append fulls rest in let b = total_full slots in let n = total_none (length counts - length slots) in let e = ap total r.full in omega (arith, a, b, n, e)

  counted_before : (s : ℕ) → s ≤ length slots → total (take s counts) ≡ rank s slots
  counted_before s h =
      let l = length-map slots one_if_full in
      ap (λ z. total (take s z)) r.full ∙ ap total (take-append-le s fulls rest (omega (arith, l, h)) ∙ take-map one_if_full s slots) ∙ total_full (take s slots)

  count_of : (s : ℕ) → s < length slots → get_or counts s 0 ≡ one_if_full (get_or slots s None)
  count_of s h = let l = length-map slots one_if_full in ap (λ z. get_or z s 0) r.full ∙ get_or_append_left fulls rest 0 s (omega (arith, l, h)) ∙ get_or-map one_if_full slots s None 0 h

  count_past : (s : ℕ) → length slots ≤ s → s < length counts → get_or counts s 0 ≡ 0
  count_past s h k = ap (λ z. get_or z s 0) r.full ∙ get_or-append_right fulls rest (length slots) s 0 (length-map slots one_if_full) h ∙ get_or-replicate (length counts - length slots) (s - length slots) 0 0 (omega (arith, h, k))

  -- the slot to which the i-th falls
  pub found : (i s : ℕ) → s < length counts → total (take s counts) ≤ i → i < total (take s counts) + get_or counts s 0 → IsAt slots i s
  found i s h b k = go (nat_lt s (length slots)) refl
    where
      by_item : s < length slots → (o : Option X) → get_or slots s None ≡ o → IsAt slots i s
      by_item l None e = let n = count_of s l in let z : get_or counts s 0 ≡ 0 = n ∙ ap one_if_full e in absurd (omega (arith, z, b, k))
      by_item l (Some x) e =
          let n = count_of s l in
          let z : get_or counts s 0 ≡ 1 = n ∙ ap one_if_full e in
          let t = counted_before s (omega (arith, l)) in
          record { item = x; within = l; here = slice_get-get_or slots s None l ∙ ap Some e; before = omega (arith, z, b, k, t) }

      go : (t : Bool) → nat_lt s (length slots) ≡ t → IsAt slots i s
      go true e = let l : s < length slots = grind (arith, nat_tests) in by_item l (get_or slots s None) refl
      go false e = let l : length slots ≤ s = grind (arith, nat_tests) in let z = count_past s l h in absurd (omega (arith, z, b, k))

  -- what is read there
  pub item_there : (i s : ℕ) (a : IsAt slots i s) (o : Option X) → o ≡ get_or slots s o → o ≡ Some a.item
  item_there i s a o e = e ∙ get_or_from_slice_get slots s (Some a.item) o a.here

  pub item_stands : (i s : ℕ) (a : IsAt slots i s) → slice_get (standing slots) i ≡ Some a.item
  item_stands i s a = ap (λ z. slice_get (standing slots) z) (sym a.before) ∙ stands_there slots s a.item a.here

  pub item_is : (i s : ℕ) (a : IsAt slots i s) (x : X) → Some x ≡ get_or slots s (Some x) → slice_get (standing slots) i ≡ Some x
  item_is i s a x e = item_stands i s a ∙ sym (item_there i s a (Some x) e)

  -- ---- an item goes

  one_there : (i s : ℕ) (a : IsAt slots i s) → get_or counts s 0 ≡ 1
  one_there i s a = count_of s a.within ∙ ap one_if_full (get_or_from_slice_get slots s (Some a.item) None a.here)

  pub some_there : (i s : ℕ) → IsAt slots i s → 1 ≤ get_or counts s 0
  some_there i s a = let e = one_there i s a in omega (arith, e)

  pub gone_items : (i s : ℕ) (o : Option X) → o ≡ None → IsAt slots i s → standing (set slots s o) ≡ take i (standing slots) ++ drop (i + 1) (standing slots)
  gone_items i s o n a =
      let e : suc i ≡ i + 1 = omega arith in
      ap (λ z. standing (set slots s z)) n ∙ emptied slots s a.item a.here ∙ ap (λ z. take z (standing slots) ++ drop (suc z) (standing slots)) a.before ∙ ap (λ z. take i (standing slots) ++ drop z (standing slots)) e

  gone : (i s : ℕ) (new : List ℕ) → IsAt slots i s → new ≡ set counts s (get_or counts s 0 - 1) → IsRanked (set slots s None) capacity new
  gone i s new a e =
      let l = length-map slots one_if_full in
      let one = one_there i s a in
      let less : get_or counts s 0 - 1 ≡ 0 = omega (arith, one) in
      let k : length new ≡ length counts = ap (λ (z : List ℕ). length z) e ∙ length-set counts s (get_or counts s 0 - 1) in
      let m : length (set slots s None) ≡ length slots = length-set slots s None in
      let f : new ≡ map one_if_full (set slots s None) ++ rest = e ∙ ap (λ z. set counts s z) less ∙ ap (λ z. set z s 0) r.full ∙ set-append_left fulls rest s 0 (let w = a.within in omega (arith, l, w)) ∙ ap (λ z. z ++ rest) (sym (map-set one_if_full slots s None)) in
      let empty : length counts - length slots ≡ length new - length (set slots s None) = omega (arith, k, m) in
      record {
        full = f ∙ ap (λ z. map one_if_full (set slots s None) ++ replicate z 0) empty;
        within = let w = r.within in omega (arith, k, m, w);
        fits = let w = r.fits in omega (arith, k, w);
      }

  pub gone_ranked : (i s : ℕ) (o : Option X) (new : List ℕ) → o ≡ None → IsAt slots i s → new ≡ set counts s (get_or counts s 0 - 1) → IsRanked (set slots s o) capacity new
  gone_ranked i s o new n a e = subst (λ z. IsRanked (set slots s z) capacity new) (sym n) (gone i s new a e)

  -- ---- another item in its place

  pub other_items : (i s : ℕ) (y : X) (o : Option X) → o ≡ Some y → IsAt slots i s → standing (set slots s o) ≡ take i (standing slots) ++ y ∷ drop (i + 1) (standing slots)
  other_items i s y o n a =
      let e : suc i ≡ i + 1 = omega arith in
      ap (λ z. standing (set slots s z)) n ∙ filled slots s a.item y a.here ∙ ap (λ z. take z (standing slots) ++ y ∷ drop (suc z) (standing slots)) a.before ∙ ap (λ z. take i (standing slots) ++ y ∷ drop z (standing slots)) e

  other : (i s : ℕ) (y : X) → IsAt slots i s → IsRanked (set slots s (Some y)) capacity counts
  other i s y a =
      let m : length (set slots s (Some y)) ≡ length slots = length-set slots s (Some y) in
      let empty : length counts - length slots ≡ length counts - length (set slots s (Some y)) = omega (arith, m) in
      record {
        full = r.full ∙ ap (λ z. z ++ rest) (sym (full_still slots s a.item y a.here)) ∙ ap (λ z. map one_if_full (set slots s (Some y)) ++ replicate z 0) empty;
        within = let w = r.within in omega (arith, m, w);
        fits = r.fits;
      }

  pub other_ranked : (i s : ℕ) (y : X) (o : Option X) → o ≡ Some y → IsAt slots i s → IsRanked (set slots s o) capacity counts
  other_ranked i s y o n a = subst (λ z. IsRanked (set slots s z) capacity counts) (sym n) (other i s y a)

  -- ---- one item more

  pub pushed_items : (x : X) → standing (slots ++ Some x ∷ []) ≡ standing slots ++ x ∷ []
  pushed_items x = standing-append slots (Some x ∷ [])

  pub pushed_ranked : (x : X) (new : List ℕ) → 1 ≤ length counts - length slots → new ≡ set counts (length slots) (get_or counts (length slots) 0 + 1) → IsRanked (slots ++ Some x ∷ []) capacity new
  pushed_ranked x new h e =
      let l = length-map slots one_if_full in
      let none = count_past (length slots) (omega arith) (omega (arith, h)) in
      let k : length new ≡ length counts = ap (λ (z : List ℕ). length z) e ∙ length-set counts (length slots) (get_or counts (length slots) 0 + 1) in
      let m : length (slots ++ Some x ∷ []) ≡ length slots + 1 = length_push slots (Some x) in
      let one : get_or counts (length slots) 0 + 1 ≡ 1 = omega (arith, none) in
      let more : length counts - length slots ≡ suc (length counts - length slots - 1) = omega (arith, h) in
      let empty : length counts - length slots - 1 ≡ length new - length (slots ++ Some x ∷ []) = omega (arith, k, m) in
      let f : new ≡ fulls ++ 1 ∷ replicate (length counts - length slots - 1) 0 =
      e ∙ ap (λ z. set counts (length slots) z) one ∙ ap (λ z. set z (length slots) 1) (r.full ∙ ap (λ z. fulls ++ replicate z 0) more) ∙ set_at fulls 0 (replicate (length counts - length slots - 1) 0) 1 (length slots) l in
      let g : fulls ++ 1 ∷ replicate (length counts - length slots - 1) 0 ≡ map one_if_full (slots ++ Some x ∷ []) ++ replicate (length counts - length slots - 1) 0 =
      sym (append_snoc fulls 1 (replicate (length counts - length slots - 1) 0)) ∙ ap (λ z. z ++ replicate (length counts - length slots - 1) 0) (sym (map_push one_if_full slots (Some x))) in
      record {
        full = f ∙ g ∙ ap (λ z. map one_if_full (slots ++ Some x ∷ []) ++ replicate z 0) empty;
        within = omega (arith, k, m, h);
        fits = let w = r.fits in omega (arith, k, w);
      }

-- ---- the items close up

pub closed_ranked : {X : Type 0} (slots kept : List (Option X)) (capacity width : ℕ) (new : List ℕ) → kept ≡ filter is_some slots → length kept ≤ width → width ≤ capacity → new ≡ replicate (length kept) 1 ++ replicate (width - length kept) 0 → IsRanked kept capacity new
closed_ranked slots kept capacity width new e h c f =
    let a : map one_if_full kept ≡ replicate (length kept) 1 = ap (map one_if_full) e ∙ all_full slots ∙ ap (λ (z : List (Option _)). replicate (length z) 1) (sym e) in
    let k : length new ≡ width = ap (λ (z : List ℕ). length z) f ∙ length_filled (length kept) width h in
    record {
      full = f ∙ ap (λ z. z ++ replicate (width - length kept) 0) (sym a) ∙ ap (λ z. map one_if_full kept ++ replicate (z - length kept) 0) (sym k);
      within = omega (arith, k, h);
      fits = omega (arith, k, c);
    }

pub closed_items : {X : Type 0} (slots kept : List (Option X)) → kept ≡ filter is_some slots → (standing kept ≡ standing slots) × (length kept ≡ length (standing slots))
closed_items slots kept e = (ap standing e ∙ standing-full slots, ap (λ (z : List (Option _)). length z) e ∙ as_many_full slots)
