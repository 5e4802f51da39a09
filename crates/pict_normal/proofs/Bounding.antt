-- The type fields of a record that were made so far.
use Rattle.pict_syntax.specs.declared.limits.TheConstants.{HEIGHT_LIMIT, WEIGHT_LIMIT}
use Rattle.std.proofs.Common.{◌≡◌, ℕ, ◌+◌, ◌≤◌, ◌<◌, max, List, [], ◌∷◌, ◌++◌, length, get_or, take, drop, Option, Some, None, IfSome, IfNone, refl, sym, ◌∙◌, ap, subst, arith}
use Rattle.std.proofs.lemmas.List.{take-append-le}
use Rattle.pict_normal.specs.declared.made.MadeBound.{MadeBound}
use Rattle.pict_normal.specs.declared.made.MakeError.{MakeError}
use Rattle.pict_normal.specs.declared.made.Row.{Row}
use Rattle.pict_types.specs.declared.measure.Measures.{Measures}
use Rattle.pict_normal.specs.declared.puts.Puts.{Puts}
use Rattle.pict_types.specs.declared.types.Bound.{Bound}
use Rattle.pict_types.specs.Types.{PlainBound, PlainBounds, no_bound, bounds, count_bounds}
use Rattle.pict_types.specs.Kinds.{BoundsAreWellFormed}
use Rattle.pict_normal.specs.Made.{IsMadeBound, IsReason, IsRow, IsGrown}
use Rattle.pict_types.specs.Measures.{weights, heights, weigh_bounds, weigh_variable, weights_under, rise_bounds, rise_variable, heights_under}
use Rattle.pict_types.specs.Plain.{plain_bound, plain_bounds}
use Rattle.pict_normal.specs.Putting.{FitsKinds, IsUnder, context_names, variables_in, replacement_in, replacement_of, weights_in, heights_in}
use Rattle.pict_types.specs.Replacing.{Replacement, replacement_past, replacement_beyond, replace_bound, replace_bounds}
use Rattle.pict_types.proofs.Held.{HeldAlike, alike_more, alike_same, held_alike, rise_bounds_held, heights_under_held}
use Rattle.pict_normal.proofs.Behind.{weights_more, heights_more}
use Rattle.pict_normal.proofs.Making.{reason_by, row_step, row_alike}
use Rattle.pict_normal.proofs.Placing.{placed_rest, one_more}
use Rattle.pict_types.proofs.Rows.{then_bounds, bounds_push, bounds_end}
use Rattle.pict_types.proofs.Items.{bounds_next}

pub record MadeSoFar (s r : Replacement) (vs ws us hs : List ℕ) (all rest : PlainBounds) (row : Row Bound) : Type 0 where
  pub row_ : IsRow (λ xs. then_bounds (plain_bounds xs) (replace_bounds r rest)) row (weigh_bounds vs (replace_bounds s all)) (weigh_bounds ws (replace_bounds r rest)) (rise_bounds us (replace_bounds s all)) (rise_bounds hs (replace_bounds r rest)) (replace_bounds s all)
  pub weights_ : weights_under ws (replace_bounds r rest) ≡ weights_under vs (replace_bounds s all)
  pub heights_ : HeldAlike (heights_under hs (replace_bounds r rest)) (heights_under us (replace_bounds s all))

alike_trans : {us vs ws : List ℕ} → HeldAlike us vs → HeldAlike vs ws → HeldAlike us ws
alike_trans h k = record { each = λ i. record { same = (h.each i).same ∙ (k.each i).same } }

made_more : {s r : Replacement} {vs ws us hs : List ℕ} {all : PlainBounds} {row : Row Bound} (b : PlainBound) (rest : PlainBounds) (m : MadeBound) (next : Row Bound) → MadeSoFar s r vs ws us hs all (bounds b rest) row → IsMadeBound ws hs m (replace_bound r b) → next.measures.weight ≡ row.measures.weight + m.measures.weight → next.measures.weight ≤ WEIGHT_LIMIT → next.measures.height ≡ max row.measures.height m.measures.height → IfSome next.items (λ v. IsGrown row.items m.bound v.items) → (IfNone row.items (HEIGHT_LIMIT < row.measures.height) → IfNone m.bound (HEIGHT_LIMIT < m.measures.height) → IfNone next.items (HEIGHT_LIMIT < next.measures.height)) → MadeSoFar s (replacement_beyond r) vs (m.measures.weight ∷ ws) us (m.measures.height ∷ hs) all rest next
made_more {s = s} {r = r} {vs = vs} {ws = ws} {us = us} {hs = hs} {all = all} b rest m next x h g light k l n =
    let d = replace_bound r b in
    let ds = replace_bounds (replacement_beyond r) rest in
    let hv : HeldAlike (rise_variable hs d ∷ hs) (m.measures.height ∷ hs) = alike_flip (alike_more (held_alike m.measures.height (rise_variable hs d) h.height) (alike_same hs)) in
    let one = row_step (λ xs. then_bounds (plain_bounds xs) ds) next m.measures m.bound (weigh_variable ws d) (rise_variable hs d) (weigh_bounds (m.measures.weight ∷ ws) ds) (rise_bounds (rise_variable hs d ∷ hs) ds) (ap (λ n. weigh_variable ws d + weigh_bounds (n ∷ ws) ds) (sym h.weight)) refl x.row_ h.weight h.height g light k l n h.missing (there m.bound h.made) in
    record {
      row_ = row_alike (rise_bounds us (replace_bounds s all)) (rise_bounds (m.measures.height ∷ hs) ds) refl (rise_bounds_held hv ds).same one;
      weights_ = ap (λ n. weights_under (n ∷ ws) ds) h.weight ∙ x.weights_;
      heights_ = alike_trans (alike_flip (heights_under_held hv ds)) x.heights_;
    }
  where
    alike_flip : {xs ys : List ℕ} → HeldAlike xs ys → HeldAlike ys xs
    alike_flip y = record { each = λ i. record { same = sym (y.each i).same } }

    there : (o : Option Bound) → IfSome o (λ y. plain_bound y ≡ replace_bound r b) → IfSome o (λ y. (xs : List Bound) → then_bounds (plain_bounds (xs ++ y ∷ [])) (replace_bounds (replacement_beyond r) rest) ≡ then_bounds (plain_bounds xs) (bounds (replace_bound r b) (replace_bounds (replacement_beyond r) rest)))
    there None e = tt
    there (Some y) e = λ xs. bounds_push xs y (replace_bounds (replacement_beyond r) rest) ∙ ap (λ z. then_bounds (plain_bounds xs) (bounds z (replace_bounds (replacement_beyond r) rest))) e

pub record BoundsSoFar (p : Puts) (outer inner : List Measures) (all rest : PlainBounds) (row : Row Bound) : Type 0 where
  pub made : MadeSoFar (replacement_in p outer) (replacement_in p inner) (weights_in p outer) (weights_in p inner) (heights_in p outer) (heights_in p inner) all rest row
  pub placed : FitsKinds p inner (λ ks. BoundsAreWellFormed (context_names p) ks rest)
  pub outer_ : take (length outer) inner ≡ outer
  pub least : length outer ≤ length inner
  pub count : length inner + count_bounds rest ≡ length outer + count_bounds all

-- one more type field
pub bounds_more : {p : Puts} {outer inner : List Measures} {all : PlainBounds} {row : Row Bound} (b : PlainBound) (rest : PlainBounds) (m : MadeBound) (next : Row Bound) → BoundsSoFar p outer inner all (bounds b rest) row → IsMadeBound (weights_in p inner) (heights_in p inner) m (replace_bound (replacement_in p inner) b) → next.measures.weight ≡ row.measures.weight + m.measures.weight → next.measures.weight ≤ WEIGHT_LIMIT → next.measures.height ≡ max row.measures.height m.measures.height → IfSome next.items (λ v. IsGrown row.items m.bound v.items) → (IfNone row.items (HEIGHT_LIMIT < row.measures.height) → IfNone m.bound (HEIGHT_LIMIT < m.measures.height) → IfNone next.items (HEIGHT_LIMIT < next.measures.height)) → BoundsSoFar p outer (inner ++ m.measures ∷ []) all rest next
bounds_more {p = p} {outer = outer} {inner = inner} {all = all} b rest m next x h g light k l n =
    let s = replacement_in p outer in
    let vs = weights_in p outer in
    let us = heights_in p outer in
    let c = one_more inner m.measures in
    let y = made_more b rest m next x.made h g light k l n in
    let y1 = subst (λ i. MadeSoFar s (replacement_past i (replacement_of p)) vs (m.measures.weight ∷ weights_in p inner) us (m.measures.height ∷ heights_in p inner) all rest next) (sym c) y in
    let y2 = subst (λ i. MadeSoFar s (replacement_in p (inner ++ m.measures ∷ [])) vs i us (m.measures.height ∷ heights_in p inner) all rest next) (sym (weights_more inner m.measures (weights (variables_in p)))) y1 in
    let y3 = subst (λ i. MadeSoFar s (replacement_in p (inner ++ m.measures ∷ [])) vs (weights_in p (inner ++ m.measures ∷ [])) us i all rest next) (sym (heights_more inner m.measures (heights (variables_in p)))) y2 in
    record {
      made = y3;
      placed = placed_rest b rest m.measures x.placed;
      outer_ = take-append-le (length outer) inner (m.measures ∷ []) x.least ∙ x.outer_;
      least = omega (arith, c, x.least);
      count = omega (arith, c, x.count);
    }

-- all type fields
pub bounds_done : {p : Puts} {outer inner : List Measures} {all : PlainBounds} {row : Row Bound} → BoundsSoFar p outer inner all no_bound row → IsUnder p outer inner all
bounds_done x = record {
  outer_ = x.outer_;
  count = omega (arith, x.count);
  weights_ = x.made.weights_;
  heights_ = λ i. (x.made.heights_.each i).same;
}

pub bounds_step : {p : Puts} {outer inner : List Measures} {all : PlainBounds} {row : Row Bound} (xs : List Bound) (i : ℕ) (x : Bound) (m : MadeBound) (next : Row Bound) (ns : List Measures) → i < length xs → x ≡ get_or xs i x → ns ≡ inner ++ m.measures ∷ [] → BoundsSoFar p outer inner all (plain_bounds (drop i xs)) row → IsMadeBound (weights_in p inner) (heights_in p inner) m (replace_bound (replacement_in p inner) (plain_bound x)) → next.measures.weight ≡ row.measures.weight + m.measures.weight → next.measures.weight ≤ WEIGHT_LIMIT → next.measures.height ≡ max row.measures.height m.measures.height → IfSome next.items (λ v. IsGrown row.items m.bound v.items) → (IfNone row.items (HEIGHT_LIMIT < row.measures.height) → IfNone m.bound (HEIGHT_LIMIT < m.measures.height) → IfNone next.items (HEIGHT_LIMIT < next.measures.height)) → BoundsSoFar p outer ns all (plain_bounds (drop (i + 1) xs)) next
bounds_step {p = p} {outer = outer} {inner = inner} {all = all} {row = row} xs i x m next ns h e q y k w light l g n =
    subst (λ z. BoundsSoFar p outer z all (plain_bounds (drop (i + 1) xs)) next) (sym q)
    (bounds_more (plain_bound x) (plain_bounds (drop (i + 1) xs)) m next (subst (λ z. BoundsSoFar p outer inner all z row) (bounds_next xs i x h e) y) k w light l g n)

pub bounds_reason : {p : Puts} {outer inner : List Measures} {all : PlainBounds} {row : Row Bound} (e : MakeError) (xs : List Bound) (i : ℕ) (x : Bound) (v : ℕ) → i < length xs → x ≡ get_or xs i x → BoundsSoFar p outer inner all (plain_bounds (drop i xs)) row → v ≤ row.measures.weight + weigh_variable (weights_in p inner) (replace_bound (replacement_in p inner) (plain_bound x)) → IsReason v e → IsReason (weigh_bounds (weights_in p outer) (replace_bounds (replacement_in p outer) all)) e
bounds_reason {p = p} {outer = outer} {inner = inner} {all = all} {row = row} e xs i x v h k y l z =
    let w = (subst (λ u. BoundsSoFar p outer inner all u row) (bounds_next xs i x h k) y).made.row_.weight in
    reason_by v (weigh_bounds (weights_in p outer) (replace_bounds (replacement_in p outer) all)) e (λ g. omega (arith, g, l, w)) z

pub bounds_all : {p : Puts} {outer inner : List Measures} {all : PlainBounds} {row : Row Bound} (xs : List Bound) (i : ℕ) → length xs ≤ i → BoundsSoFar p outer inner all (plain_bounds (drop i xs)) row → BoundsSoFar p outer inner all no_bound row
bounds_all {p = p} {outer = outer} {inner = inner} {all = all} {row = row} xs i h y = subst (λ z. BoundsSoFar p outer inner all z row) (bounds_end xs i h) y
