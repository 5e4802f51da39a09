-- One more or one less at a leaf, and at each node above it.
use Rattle.std.proofs.Common.{ℕ, ◌+◌, ◌*◌, ◌/◌, ◌^◌, ◌≤◌, ◌<◌, ◌≡◌, ◌≢◌, ◌⊎◌, inl, inr, Bool, true, false, nat_eq, List, length, drop, set, refl, sym, ap, ◌∙◌, subst, arith}
use Rattle.std.proofs.lemmas.Bool.Decides.{nat_tests}
use Rattle.std.proofs.lemmas.List.{length-set, get_or-set_same, get_or-set_other, drop-set-lt}
use Rattle.pict_ranked.specs.Tree.{total, node, IsWidth, IsTree}
use Rattle.pict_ranked.proofs.Trees.{halved, below_total}

-- the first is one less, or one more
abbrev pub IsLess : ℕ → ℕ → Type 0
IsLess a b = a + 1 ≡ b

abbrev pub IsMore : ℕ → ℕ → Type 0
IsMore a b = a ≡ b + 1

-- the sum of what the two nodes below count
abbrev pub children : List ℕ → ℕ → ℕ
children nodes k = node nodes (2 * k) + node nodes (2 * k + 1)

-- All is as in a tree but at node k, which is off the sum of the nodes below it. The leaves are as they were first.
pub record IsOffAt (Off : ℕ → ℕ → Type 0) (width : ℕ) (first nodes : List ℕ) (k : ℕ) : Type 0 where
  complete : IsWidth width
  size : length nodes ≡ 2 * width
  leaves : drop width nodes ≡ drop width first
  low : k < width
  sums : (q : ℕ) → 1 ≤ q → q < width → q ≢ k → node nodes q ≡ children nodes q
  here : 1 ≤ k → Off (node nodes k) (children nodes k)

module _ (Off : ℕ → ℕ → Type 0) (shift : (a b s : ℕ) → Off a b → Off (a + s) (b + s)) where
  -- Node k gets the count v. Then the node above it is off.
  module _ (width : ℕ) (nodes : List ℕ) (k v : ℕ) (size : length nodes ≡ 2 * width) (some : 1 ≤ k) (small : k < 2 * width)
      (sums : (q : ℕ) → 1 ≤ q → q < width → q ≢ k → node nodes q ≡ children nodes q) (off : Off (node nodes k) v) (inner : k < width → v ≡ children nodes k) where
    same : node (set nodes k v) k ≡ v
    same = get_or-set_same nodes k v 0 (omega (arith, small, size))

    other : (q : ℕ) → q ≢ k → node (set nodes k v) q ≡ node nodes q
    other q n = get_or-set_other nodes k q v 0 n

    sums_on : (q : ℕ) → 1 ≤ q → q < width → q ≢ k / 2 → (b : Bool) → nat_eq q k ≡ b → node (set nodes k v) q ≡ children (set nodes k v) q
    sums_on q h l n true e =
        let at : q ≡ k = grind (arith, nat_tests) in
        let a : node (set nodes k v) q ≡ v = ap (node (set nodes k v)) at ∙ same in
        let b : node (set nodes k v) (2 * q) ≡ node nodes (2 * q) = other (2 * q) (λ z. omega (arith, z, at, some)) in
        let c : node (set nodes k v) (2 * q + 1) ≡ node nodes (2 * q + 1) = other (2 * q + 1) (λ z. omega (arith, z, at, some)) in
        let d : v ≡ children nodes q = subst (λ z. v ≡ children nodes z) (sym at) (inner (omega (arith, l, at))) in
        omega (arith, a, b, c, d)
    sums_on q h l n false e =
        let apart : q ≢ k = grind (arith, nat_tests) in
        let a : node (set nodes k v) q ≡ node nodes q = other q apart in
        let b : node (set nodes k v) (2 * q) ≡ node nodes (2 * q) = other (2 * q) (λ z. n (omega (arith, z))) in
        let c : node (set nodes k v) (2 * q + 1) ≡ node nodes (2 * q + 1) = other (2 * q + 1) (λ z. n (omega (arith, z))) in
        let s = sums q h l apart in
        omega (arith, a, b, c, s)

    parent : 1 ≤ k / 2 → node (set nodes k v) (k / 2) ≡ children nodes (k / 2)
    parent h = let n : k / 2 ≢ k = λ z. omega (arith, z, some) in other (k / 2) n ∙ sums (k / 2) h (omega (arith, small)) n

    here_on : 1 ≤ k / 2 → (2 * (k / 2) ≡ k) ⊎ (2 * (k / 2) + 1 ≡ k) → Off (node (set nodes k v) (k / 2)) (children (set nodes k v) (k / 2))
    here_on h (inl e) =
        let p = parent h in
        let f = ap (node nodes) e in
        let a : node nodes k + node nodes (2 * (k / 2) + 1) ≡ node (set nodes k v) (k / 2) = omega (arith, p, f) in
        let g : node (set nodes k v) (2 * (k / 2)) ≡ v = ap (node (set nodes k v)) e ∙ same in
        let o : node (set nodes k v) (2 * (k / 2) + 1) ≡ node nodes (2 * (k / 2) + 1) = other (2 * (k / 2) + 1) (λ z. omega (arith, z, e)) in
        let b : v + node nodes (2 * (k / 2) + 1) ≡ children (set nodes k v) (k / 2) = omega (arith, g, o) in
        subst (λ z. Off z (children (set nodes k v) (k / 2))) a (subst (λ z. Off (node nodes k + node nodes (2 * (k / 2) + 1)) z) b (shift _ _ _ off))
    here_on h (inr e) =
        let p = parent h in
        let f = ap (node nodes) e in
        let a : node nodes k + node nodes (2 * (k / 2)) ≡ node (set nodes k v) (k / 2) = omega (arith, p, f) in
        let g : node (set nodes k v) (2 * (k / 2) + 1) ≡ v = ap (node (set nodes k v)) e ∙ same in
        let o : node (set nodes k v) (2 * (k / 2)) ≡ node nodes (2 * (k / 2)) = other (2 * (k / 2)) (λ z. omega (arith, z, e)) in
        let b : v + node nodes (2 * (k / 2)) ≡ children (set nodes k v) (k / 2) = omega (arith, g, o) in
        subst (λ z. Off z (children (set nodes k v) (k / 2))) a (subst (λ z. Off (node nodes k + node nodes (2 * (k / 2))) z) b (shift _ _ _ off))

    next_off : (first : List ℕ) → IsWidth width → drop width (set nodes k v) ≡ drop width first → IsOffAt Off width first (set nodes k v) (k / 2)
    next_off first w l = record {
      complete = w;
      size = length-set nodes k v ∙ size;
      leaves = l;
      low = omega (arith, small);
      sums = λ q h l n. sums_on q h l n (nat_eq q k) refl;
      here = λ h. here_on h (halved k);
    }

  -- above a leaf that has changed
  pub above_leaf : (width : ℕ) (nodes : List ℕ) (leaf v : ℕ) → IsTree width nodes → leaf < width → Off (node nodes (width + leaf)) v → IsOffAt Off width (set nodes (width + leaf) v) (set nodes (width + leaf) v) ((width + leaf) / 2)
  above_leaf width nodes leaf v t h off =
      next_off width nodes (width + leaf) v t.size (omega (arith, h)) (omega (arith, h)) (λ q some l n. t.sums q some l) off (λ l. absurd (omega (arith, l))) (set nodes (width + leaf) v) t.complete refl

  -- above a node that has got the sum of the nodes below it
  pub above_node : (width : ℕ) (first nodes : List ℕ) (k v : ℕ) → 1 ≤ k → IsOffAt Off width first nodes k → v ≡ children nodes k → IsOffAt Off width first (set nodes k v) (k / 2)
  above_node width first nodes k v some o is =
      let l = o.low in
      next_off width nodes k v o.size some (omega (arith, l)) o.sums (subst (Off (node nodes k)) (sym is) (o.here some)) (λ h. is) first o.complete
      (drop-set-lt width nodes k v l ∙ o.leaves)

module _ (Off : ℕ → ℕ → Type 0) (width : ℕ) (first nodes : List ℕ) (k : ℕ) (o : IsOffAt Off width first nodes k) where
  -- nothing is off above the root
  pub whole : k ≡ 0 → IsTree width nodes
  whole e = record { complete = o.complete; size = o.size; sums = λ q h l. o.sums q h l (λ z. omega (arith, z, e, h)) }

  pub off_within : k < length nodes
  off_within = let s = o.size in let l = o.low in omega (arith, s, l)

  pub off_here : 1 ≤ k → Off (node nodes k) (children nodes k)
  off_here = o.here

  pub off_leaves : drop width nodes ≡ drop width first
  off_leaves = o.leaves

pub shift_less : (a b s : ℕ) → IsLess a b → IsLess (a + s) (b + s)
shift_less a b s e = omega (arith, e)

pub shift_more : (a b s : ℕ) → IsMore a b → IsMore (a + s) (b + s)
shift_more a b s e = omega (arith, e)

-- Each node has room for one more.
abbrev pub HaveRoom : List ℕ → ℕ → Type 0
HaveRoom nodes k = (q : ℕ) → 1 ≤ q → q ≤ k → node nodes q + 1 < 2 ^ 32

pub room_above : (nodes : List ℕ) (k v : ℕ) → 1 ≤ k → HaveRoom nodes k → HaveRoom (set nodes k v) (k / 2)
room_above nodes k v some r q h l =
    let e : node (set nodes k v) q ≡ node nodes q = get_or-set_other nodes k q v 0 (λ z. omega (arith, z, l, some)) in
    let f = r q h (omega (arith, l)) in
    omega (arith, e, f)

pub room : (width : ℕ) (nodes : List ℕ) → IsTree width nodes → total (drop width nodes) + 1 < 2 ^ 32 → (k : ℕ) → k < 2 * width → HaveRoom nodes k
room width nodes t h k l q some below = let a = below_total width nodes t q some (omega (arith, l, below)) in omega (arith, a, h)
