-- What the nodes of a tree count.
use Rattle.std.proofs.Common.{ℕ, zero, suc, ◌+◌, ◌*◌, ◌^◌, ◌/◌, ◌%◌, ◌≤◌, ◌<◌, ◌≡◌, ◌⊎◌, inl, inr, List, take, drop, refl, sym, ap, ◌∙◌, subst, arith}
use Rattle.std.proofs.Math.Nat.{add-mul, mul-add, le-mul_of_pos_right, two-pow-succ}
use Rattle.std.proofs.lemmas.Nat.{pow_pos}
use Rattle.std.proofs.lemmas.List.{drop_more, drop-drop, take_all, length-drop}
use Rattle.std.specs.Int.{IsPowerOfTwo}
use Rattle.pict_ranked.specs.Tree.{total, node, IsTree}
use Rattle.pict_ranked.proofs.Totals.{total_split}

-- The node k stands so high, by the number of leaves below it, above the leaves from low on.
pub record StandsAbove (width k leaves low : ℕ) : Type 0 where
  pub at : k * leaves ≡ width + low
  pub within : low + leaves ≤ width

module _ (width k half low : ℕ) (some : 1 ≤ half) (s : StandsAbove width k (half + half) low) where
  parts : k * half + k * half ≡ width + low
  parts = sym (mul-add k half half) ∙ s.at

  wide : k ≤ k * half
  wide = le-mul_of_pos_right k some

  pub inner : k < width
  inner = omega (arith, parts, wide, s.within)

  pub not_root_less : 1 ≤ k
  not_root_less = go k refl
    where
      go : (n : ℕ) → k ≡ n → 1 ≤ k
      go zero e = let p : k * half ≡ 0 * half = ap (λ z. z * half) e in omega (arith, parts, p, s.within)
      go (suc n) e = omega (arith, e)

  twice : (2 * k) * half ≡ k * half + k * half
  twice = let e : 2 * k ≡ k + k = omega arith in ap (λ z. z * half) e ∙ add-mul k k half

  pub left_stands : StandsAbove width (2 * k) half low
  left_stands = record { at = twice ∙ parts; within = omega (arith, s.within) }

  pub right_stands : StandsAbove width (2 * k + 1) half (low + half)
  right_stands = record {
    at = add-mul (2 * k) 1 half ∙ omega (arith, twice, parts);
    within = omega (arith, s.within);
  }

-- a number is twice its half, or one more
pub halved : (k : ℕ) → (2 * (k / 2) ≡ k) ⊎ (2 * (k / 2) + 1 ≡ k)
halved k = go (k % 2) refl
  where
    go : (r : ℕ) → k % 2 ≡ r → (2 * (k / 2) ≡ k) ⊎ (2 * (k / 2) + 1 ≡ k)
    go zero e = inl (omega (arith, e))
    go (suc r) e = inr (omega (arith, e))

module _ (width : ℕ) (nodes : List ℕ) (tree : IsTree width nodes) where
  -- a node counts what the leaves below it count
  pub below : (height k low : ℕ) → StandsAbove width k (2 ^ height) low → node nodes k ≡ total (take (2 ^ height) (drop (width + low) nodes))
  below zero k low s =
      let e : k ≡ width + low = omega (arith, s.at) in
      let one = drop_more nodes (width + low) 0 (omega (arith, s.within, tree.size)) in
      let count : total (take 1 (drop (width + low) nodes)) ≡ node nodes (width + low) + 0 = ap (λ l. total (take 1 l)) one in
      ap (node nodes) e ∙ omega (arith, count)
  below (suc height) k low s =
      let h : 2 ^ suc height ≡ 2 ^ height + 2 ^ height = two-pow-succ height in
      let t : StandsAbove width k (2 ^ height + 2 ^ height) low = subst (λ z. StandsAbove width k z low) h s in
      let some : 1 ≤ 2 ^ height = pow_pos height in
      let left = below height (2 * k) low (left_stands width k (2 ^ height) low some t) in
      let right = below height (2 * k + 1) (low + 2 ^ height) (right_stands width k (2 ^ height) low some t) in
      let sum = tree.sums k (not_root_less width k (2 ^ height) low some t) (inner width k (2 ^ height) low some t) in
      let split = total_split (2 ^ height) (2 ^ height) (drop (width + low) nodes) in
      let on : drop (2 ^ height) (drop (width + low) nodes) ≡ drop (width + (low + 2 ^ height)) nodes = drop-drop (2 ^ height) (width + low) nodes ∙ ap (λ z. drop z nodes) (omega arith) in
      let rest : total (take (2 ^ height) (drop (2 ^ height) (drop (width + low) nodes))) ≡ node nodes (2 * k + 1) = ap (λ l. total (take (2 ^ height) l)) on ∙ sym right in
      let whole : total (take (2 ^ suc height) (drop (width + low) nodes)) ≡ total (take (2 ^ height + 2 ^ height) (drop (width + low) nodes)) = ap (λ z. total (take z (drop (width + low) nodes))) h in
      omega (arith, left, sum, split, rest, whole)

  pub power : 1 ≤ width → IsPowerOfTwo width
  power some = elim tree.complete.1 [ inl none ↦ absurd (omega (arith, some, none)) | inr p ↦ p ]

  pub root_stands : (p : IsPowerOfTwo width) → StandsAbove width 1 (2 ^ p.0) 0
  root_stands p = record { at = omega (arith, p.1); within = omega (arith, p.1) }

  -- the root counts all
  pub root : 1 ≤ width → node nodes 1 ≡ total (drop width nodes)
  root some =
      let p : IsPowerOfTwo width = power some in
      let same : take (2 ^ p.0) (drop (width + 0) nodes) ≡ drop width nodes = ap (λ z. take (2 ^ p.0) (drop z nodes)) (omega arith) ∙ take_all (2 ^ p.0) (drop width nodes) (omega (arith, length-drop width nodes, tree.size, p.1)) in
      below p.0 1 0 (root_stands p) ∙ ap total same

  -- no node counts more than the root
  child_below : (k : ℕ) → (2 * (k / 2) ≡ k) ⊎ (2 * (k / 2) + 1 ≡ k) → node nodes (k / 2) ≡ node nodes (2 * (k / 2)) + node nodes (2 * (k / 2) + 1) → node nodes k ≤ node nodes (k / 2)
  child_below k (inl e) sum = let a = ap (node nodes) e in omega (arith, a, sum)
  child_below k (inr e) sum = let a = ap (node nodes) e in omega (arith, a, sum)

  below_root : (n k : ℕ) → k ≤ n → k + 1 < 2 * width → node nodes (k + 1) ≤ node nodes 1
  below_root n zero h l = omega arith
  below_root zero (suc k) h l = absurd (omega (arith, h))
  below_root (suc n) (suc k) h l =
      let half : (suc k + 1) / 2 ≡ k / 2 + 1 = omega arith in
      let c = child_below (suc k + 1) (halved (suc k + 1)) (tree.sums ((suc k + 1) / 2) (omega arith) (omega (arith, l))) in
      let ih = below_root n (k / 2) (omega (arith, h)) (omega (arith, l)) in
      let e = ap (node nodes) half in
      omega (arith, c, ih, e)

  pub below_total : (k : ℕ) → 1 ≤ k → k < 2 * width → node nodes k ≤ total (drop width nodes)
  below_total zero some l = absurd (omega (arith, some))
  below_total (suc k) some l =
      let a = below_root k k (omega arith) (omega (arith, l)) in
      let r = root (omega (arith, l)) in
      let e : node nodes (suc k) ≡ node nodes (k + 1) = ap (node nodes) (omega arith) in
      omega (arith, a, r, e)
