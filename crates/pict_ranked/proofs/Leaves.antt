-- The leaves of a tree, as they are seen.
use Rattle.std.proofs.Common.{ℕ, zero, suc, ◌+◌, ◌-◌, ◌≤◌, ◌<◌, ◌≡◌, List, ◌++◌, length, drop, set, get_or, replicate, sym, ap, ◌∙◌, arith}
use Rattle.std.proofs.Math.Seq.{append_snoc}
use Rattle.std.proofs.lemmas.List.{get_or_read, get_or-drop, get_or_at, set_at, length-append, length-drop, length-replicate, drop-set-add, replicate_more}
use Rattle.pict_ranked.specs.Tree.{node, total, IsTree}
use Rattle.pict_ranked.proofs.Totals.{total_none}

module _ (width : ℕ) (nodes leaves : List ℕ) (leaf : ℕ) (tree : IsTree width nodes) (are : drop width nodes ≡ leaves) where
  pub leaf_within : leaf < length leaves → leaf < width
  leaf_within h = let s = tree.size in let l = length-drop width nodes in let e = ap (λ (z : List ℕ). length z) are in omega (arith, s, l, e, h)

  -- what is read at a leaf, as a node and as a leaf
  pub leaf_counts : leaf < width → (x : ℕ) → x ≡ get_or nodes (width + leaf) x → (x ≡ node nodes (width + leaf)) × (x ≡ get_or leaves leaf 0)
  leaf_counts h x is =
      let s = tree.size in
      let e = get_or_read nodes (width + leaf) x (omega (arith, s, h)) is 0 in
      (e, e ∙ sym (get_or-drop width nodes leaf 0) ∙ ap (λ z. get_or z leaf 0) are)

pub leaf_set : (width : ℕ) (nodes leaves : List ℕ) (leaf : ℕ) → drop width nodes ≡ leaves → (v : ℕ) → drop width (set nodes (width + leaf) v) ≡ set leaves leaf v
leaf_set width nodes leaves leaf are v = drop-set-add width nodes leaf v ∙ ap (λ z. set z leaf v) are

-- ---- the first leaves count 1

pub one_more : (n rest : ℕ) → set (replicate n 1 ++ replicate (suc rest) 0) n (get_or (replicate n 1 ++ replicate (suc rest) 0) n 0 + 1) ≡ replicate (n + 1) 1 ++ replicate rest 0
one_more n rest =
    let l = length-replicate n 1 in
    ap (λ z. set (replicate n 1 ++ replicate (suc rest) 0) n (z + 1)) (get_or_at (replicate n 1) 0 (replicate rest 0) 0 n l)
    ∙ set_at (replicate n 1) 0 (replicate rest 0) 1 n l ∙ sym (append_snoc (replicate n 1) 1 (replicate rest 0)) ∙ ap (λ z. z ++ replicate rest 0) (replicate_more n 1)

pub fill_on : (n all : ℕ) (leaves new : List ℕ) → n < all → leaves ≡ replicate n 1 ++ replicate (all - n) 0 → new ≡ set leaves n (get_or leaves n 0 + 1) → new ≡ replicate (n + 1) 1 ++ replicate (all - (n + 1)) 0
fill_on n all leaves new h e f =
    let m : all - n ≡ suc (all - (n + 1)) = omega (arith, h) in
    let g : leaves ≡ replicate n 1 ++ replicate (suc (all - (n + 1))) 0 = e ∙ ap (λ z. replicate n 1 ++ replicate z 0) m in
    f ∙ ap (λ z. set z n (get_or z n 0 + 1)) g ∙ one_more n (all - (n + 1))

pub total_filled : (n rest : ℕ) → total (replicate n 1 ++ replicate rest 0) ≡ n
total_filled zero rest = total_none rest
total_filled (suc n) rest = let ih = total_filled n rest in omega (arith, ih)

pub length_filled : (n all : ℕ) → n ≤ all → length {A = ℕ} (replicate n 1 ++ replicate (all - n) 0) ≡ all
length_filled n all h =
    let ones = length-replicate {A = ℕ} n 1 in
    let nones = length-replicate {A = ℕ} (all - n) 0 in
    length-append (replicate n 1) (replicate (all - n) 0) ∙ omega (arith, ones, nones, h)
