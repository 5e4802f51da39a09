-- From the root down to the leaf to which the i-th falls.
use Rattle.std.proofs.Common.{ℕ, zero, suc, ◌+◌, ◌*◌, ◌^◌, ◌-◌, ◌≤◌, ◌<◌, ◌≡◌, List, length, take, drop, get_or, refl, ap, ◌∙◌, subst, arith}
use Rattle.std.proofs.Math.Nat.{two-pow-succ}
use Rattle.std.proofs.lemmas.Nat.{pow_pos}
use Rattle.std.proofs.lemmas.List.{get_or-drop, length-drop, drop-drop}
use Rattle.std.specs.Int.{IsPowerOfTwo}
use Rattle.pict_ranked.specs.Tree.{total, node, IsTree}
use Rattle.pict_ranked.proofs.Totals.{total_split}
use Rattle.pict_ranked.proofs.Trees.{StandsAbove, inner, left_stands, right_stands, below, power, root, root_stands}

-- The i-th of all falls to a leaf below node k, and is the left-th of those below it.
pub record Descends (width : ℕ) (nodes : List ℕ) (i left k : ℕ) : Type 0 where
  height : ℕ
  low : ℕ
  above : StandsAbove width k (2 ^ height) low
  before : total (take low (drop width nodes)) + left ≡ i
  here : left < node nodes k

module _ (width : ℕ) (nodes : List ℕ) (tree : IsTree width nodes) where
  pub begins : (i : ℕ) → i < total (drop width nodes) → 1 ≤ width → Descends width nodes i i 1
  begins i h some =
      let p : IsPowerOfTwo width = power width nodes tree some in
      let r = root width nodes tree some in
      let none : total (take 0 (drop width nodes)) ≡ 0 = refl in
      record { height = p.0; low = 0; above = root_stands width nodes tree p; before = omega (arith, none); here = omega (arith, r, h) }

  module _ (i left k : ℕ) (d : Descends width nodes i left k) where
    low_is_k : d.height ≡ 0 → k ≡ width + d.low
    low_is_k e = let a : k * 2 ^ d.height ≡ k * 1 = ap (λ z. k * 2 ^ z) e in omega (arith, a, d.above.at)

    -- a node above others has a height
    go_down : (A : Type 0) → k < width → ((height : ℕ) → d.height ≡ suc height → A) → A
    go_down A h go = cases d.height refl
      where
        cases : (n : ℕ) → d.height ≡ n → A
        cases zero e = let a = low_is_k e in absurd (omega (arith, a, h))
        cases (suc n) e = go n e

    halves : (height : ℕ) → d.height ≡ suc height → StandsAbove width k (2 ^ height + 2 ^ height) d.low
    halves height e = subst (λ z. StandsAbove width k z d.low) (ap (λ z. 2 ^ z) e ∙ two-pow-succ height) d.above

    pub goes_left : k < width → left < node nodes (2 * k) → Descends width nodes i left (2 * k)
    goes_left h l =
        go_down (Descends width nodes i left (2 * k)) h (λ height e. record {
          height = height;
          low = d.low;
          above = left_stands width k (2 ^ height) d.low (pow_pos height) (halves height e);
          before = d.before;
          here = l;
        })

    pub goes_right : k < width → 1 ≤ k → node nodes (2 * k) ≤ left → Descends width nodes i (left - node nodes (2 * k)) (2 * k + 1)
    goes_right h some l =
        go_down (Descends width nodes i (left - node nodes (2 * k)) (2 * k + 1)) h (λ height e.
        let both = halves height e in
        let count = below width nodes tree height (2 * k) d.low (left_stands width k (2 ^ height) d.low (pow_pos height) both) in
        let split = total_split d.low (2 ^ height) (drop width nodes) in
        let on : total (take (2 ^ height) (drop d.low (drop width nodes))) ≡ total (take (2 ^ height) (drop (width + d.low) nodes)) = ap (λ z. total (take (2 ^ height) z)) (drop-drop d.low width nodes) in
        let sum = tree.sums k some h in
        let before : total (take (d.low + 2 ^ height) (drop width nodes)) + (left - node nodes (2 * k)) ≡ i = omega (arith, split, on, count, d.before, l) in
        record {
          height = height;
          low = d.low + 2 ^ height;
          above = right_stands width k (2 ^ height) d.low (pow_pos height) both;
          before = before;
          here = let here = d.here in omega (arith, sum, here, l);
        })

    -- a node that isn't above others is the leaf
    leaf_low : width ≤ k → k ≡ width + d.low
    leaf_low h = cases d.height refl
      where
        cases : (n : ℕ) → d.height ≡ n → k ≡ width + d.low
        cases zero e = low_is_k e
        cases (suc n) e = let a = inner width k (2 ^ n) d.low (pow_pos n) (halves n e) in absurd (omega (arith, a, h))

    pub is_within : width ≤ k → k - width < length (drop width nodes)
    is_within h =
        let e = leaf_low h in
        let p = pow_pos d.height in
        let w = d.above.within in
        let l = length-drop width nodes in
        let s = tree.size in
        omega (arith, e, p, w, l, s)

    leaves_before : width ≤ k → total (take (k - width) (drop width nodes)) + left ≡ i
    leaves_before h = let e = leaf_low h in ap (λ z. total (take z (drop width nodes)) + left) (omega (arith, e)) ∙ d.before

    pub is_before : width ≤ k → total (take (k - width) (drop width nodes)) ≤ i
    is_before h = let e = leaves_before h in omega (arith, e)

    pub is_here : width ≤ k → i < total (take (k - width) (drop width nodes)) + get_or (drop width nodes) (k - width) 0
    is_here h =
        let e = leaves_before h in
        let g : get_or (drop width nodes) (k - width) 0 ≡ node nodes k = get_or-drop width nodes (k - width) 0 ∙ ap (node nodes) (omega (arith, h)) in
        let here = d.here in
        omega (arith, e, g, here)
