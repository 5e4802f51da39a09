-- The measures of variables behind binders.
use Rattle.std.proofs.Common.{◌≡◌, ℕ, zero, suc, ◌+◌, ◌-◌, ◌≤◌, List, [], ◌∷◌, ◌++◌, length, map, reverse, drop, refl, sym, ◌∙◌, ap, ap₂, arith}
use Rattle.pict_types.specs.declared.measure.Measures.{Measures}
use Rattle.pict_types.specs.Types.{PlainType, PlainTypes, count_types}
use Rattle.pict_types.specs.Filling.{put_for}
use Rattle.pict_types.specs.Replacing.{fill}
use Rattle.pict_normal.specs.Made.{kept_of, weigh_each, rise_each}
use Rattle.pict_types.specs.Renaming.{rename, moved}
use Rattle.pict_types.specs.Measures.{held, measure_at, weigh, rise}
use Rattle.pict_types.specs.Around.{weights_inside, heights_inside}
use Rattle.pict_normal.proofs.Applied.{Behind, body_weighs, body_rises}
use Rattle.pict_types.proofs.Entries.{last_first}
use Rattle.pict_types.proofs.Renumbered.{weigh_renamed, rise_renamed}
use Rattle.pict_types.proofs.Around.{past_weight, past_height}

-- one more binder
pub weights_more : (ms : List Measures) (m : Measures) (ws : List ℕ) → weights_inside (ms ++ m ∷ []) ws ≡ m.weight ∷ weights_inside ms ws
weights_more ms m ws = ap (λ x. x ++ ws) (last_first (λ y. y.weight) ms m)

pub heights_more : (ms : List Measures) (m : Measures) (ws : List ℕ) → heights_inside (ms ++ m ∷ []) ws ≡ m.height ∷ heights_inside ms ws
heights_more ms m ws = ap (λ x. x ++ ws) (last_first (λ y. y.height) ms m)

-- past the innermost
pub at_behind : (ws : List ℕ) (k i : ℕ) → measure_at ws (i + k) ≡ measure_at (drop k ws) i
at_behind ws zero i = let e : i + 0 ≡ i = omega arith in ap (measure_at ws) e
at_behind [] (suc k) i = refl
at_behind (w ∷ ws) (suc k) i =
    let e : i + suc k ≡ suc (i + k) = omega arith in
    ap (measure_at (w ∷ ws)) e ∙ at_behind ws k i

pub weights_behind : (ms : List Measures) (ws : List ℕ) (by : ℕ) → length ms ≤ by → Behind (weights_inside ms ws) (drop (by - length ms) ws) by
weights_behind ms ws by h = record { each = go }
  where
    go : (i : ℕ) → measure_at (weights_inside ms ws) (i + by) ≡ measure_at (drop (by - length ms) ws) i
    go i =
        let e : i + by - length ms ≡ i + (by - length ms) = omega arith in
        past_weight ms ws (i + by) (omega arith) ∙ ap (measure_at ws) e ∙ at_behind ws (by - length ms) i

pub heights_behind : (ms : List Measures) (ws : List ℕ) (by : ℕ) → length ms ≤ by → Behind (heights_inside ms ws) (drop (by - length ms) ws) by
heights_behind ms ws by h = record { each = go }
  where
    go : (i : ℕ) → measure_at (heights_inside ms ws) (i + by) ≡ measure_at (drop (by - length ms) ws) i
    go i =
        let e : i + by - length ms ≡ i + (by - length ms) = omega arith in
        past_height ms ws (i + by) (omega arith) ∙ ap (measure_at ws) e ∙ at_behind ws (by - length ms) i

-- a type that is moved under the binders
pub moved_weighs : (ws vs : List ℕ) (by : ℕ) (t : PlainType) → Behind ws vs by → weigh vs t ≡ weigh ws (rename (moved by 0) t)
moved_weighs ws vs by t h = sym (weigh_renamed (record { each = λ i. h.each i }) t)

pub moved_rises : (hs vs : List ℕ) (by : ℕ) (t : PlainType) → Behind hs vs by → rise vs t ≡ rise hs (rename (moved by 0) t)
moved_rises hs vs by t h = sym (rise_renamed (record { each = λ i. h.each i }) t)

-- the body of an operator, measured over the measures of its arguments
pub applied_weighs : (n : ℕ) (ns ms : List Measures) (ws : List ℕ) (by : ℕ) (us : PlainTypes) (cleaned t : PlainType) → length ms ≤ by → n ≡ held (weigh (weights_inside ns (drop (by - length ms) ws)) cleaned) → map (λ m. m.weight) ns ≡ weigh_each (weights_inside ms ws) us → cleaned ≡ fill (put_for (kept_of us) (count_types us)) t → n ≡ held (weigh (weights_inside ms ws) (fill (put_for us by) t))
applied_weighs n ns ms ws by us cleaned t h e p q =
    e
    ∙ ap₂ (λ x y. held (weigh (reverse x ++ drop (by - length ms) ws) y)) p q
    ∙ body_weighs (weights_inside ms ws) (drop (by - length ms) ws) by us t (weights_behind ms ws by h)

pub applied_rises : (n : ℕ) (ns ms : List Measures) (hs : List ℕ) (by : ℕ) (us : PlainTypes) (cleaned t : PlainType) → length ms ≤ by → n ≡ held (rise (heights_inside ns (drop (by - length ms) hs)) cleaned) → map (λ m. m.height) ns ≡ rise_each (heights_inside ms hs) us → cleaned ≡ fill (put_for (kept_of us) (count_types us)) t → n ≡ held (rise (heights_inside ms hs) (fill (put_for us by) t))
applied_rises n ns ms hs by us cleaned t h e p q =
    e
    ∙ ap₂ (λ x y. held (rise (reverse x ++ drop (by - length ms) hs) y)) p q
    ∙ body_rises (heights_inside ms hs) (drop (by - length ms) hs) by us t (heights_behind ms hs by h)
