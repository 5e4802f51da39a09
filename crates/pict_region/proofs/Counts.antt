-- How many blocks there are, after a change of one live block.
use Rattle.std.proofs.Common.{◌≤◌, ◌≡◌, ◌≢◌, ℕ, ◌+◌, Bool, true, false, cond, eqb, List, [], ◌∷◌, length, map, filter, get_or, Less, Equal, Greater, is_eq, Some, None, refl, sym, ◌∙◌, ap, subst, ⊎_elim, arith}
use Rattle.std.specs.Ordering.{nat_cmp}
use Rattle.std.specs.Cmp.{nat_cmp_total}
use Rattle.std.specs.FinMap.{get, insert, remove, values, entries, find, put, entries-insert, get-entries}
use Rattle.std.proofs.lemmas.Bool.{cases_eq, eq-eqb, ne_eqb}
use Rattle.std.proofs.lemmas.Option.{none-some}
use Rattle.pict_region.specs.RegionState.{RegionState, IsLive, words_of, width_of, spare, live_blocks, KeepsBlocks, LosesNoBlock, KeepsOtherWidths}
use Rattle.pict_region.proofs.Frees.{is_insert}
use Rattle.pict_region.proofs.Calls.{some_words}
use Rattle.pict_region.proofs.Uses.{Live, get_inserted, get_insert_apart, get_removed, get_remove_apart}

-- ---- how many lists of a map pass a test

one_if : Bool → ℕ
one_if b = cond b 1 0

count : (List ℕ → Bool) → List (ℕ × List ℕ) → ℕ
count p es = length (filter p (map (λ e. e.1) es))

count_more : (p : List ℕ → Bool) (e : ℕ × List ℕ) (es : List (ℕ × List ℕ)) → count p (e ∷ es) ≡ one_if (p e.1) + count p es
unfolding count one_if
count_more p e es =
    let rest = filter p (map (λ e. e.1) es) in
    elim (p e.1) as (λ b. length (cond b (e.1 ∷ rest) rest) ≡ cond b 1 0 + length rest) [ true ↦ omega arith | false ↦ omega arith ]

count_put : (p : List ℕ → Bool) (key : ℕ) (ws : List ℕ) (es : List (ℕ × List ℕ)) → find nat_cmp key es ≡ None → count p (put nat_cmp key ws es) ≡ one_if (p ws) + count p es
count_put p key ws [] none = count_more p (key, ws) []
count_put p key ws (e ∷ es) none =
    elim (nat_cmp key e.0) as (λ o. nat_cmp key e.0 ≡ o → cond (is_eq o) (Some e.1) (find nat_cmp key es) ≡ None → count p (put nat_cmp key ws (e ∷ es)) ≡ one_if (p ws) + count p (e ∷ es)) [
      | Less ↦ λ o n. rw o (count_more p (key, ws) (e ∷ es))
      | Equal ↦ λ o n. absurd (none-some e.1 (sym n))
      | Greater ↦ λ o n. rw o (let rest = count_put p key ws es n in omega (arith, rest, count_more p e (put nat_cmp key ws es), count_more p e es))
    ] refl none

counts : (List ℕ → Bool) → Live → ℕ
counts p live = length (filter p (values live))

counts_new : (p : List ℕ → Bool) (live : Live) (key : ℕ) (ws : List ℕ) → get live key ≡ None → counts p (insert live key ws) ≡ one_if (p ws) + counts p live
unfolding counts count
counts_new p live key ws none =
    ap (λ es. length (filter p (map (λ e. e.1) es))) (entries-insert nat_cmp_total live key ws)
    ∙ count_put p key ws (entries live) (sym (get-entries live key) ∙ none)

-- a map is what is left without a key, with the key put back
put_back : (live : Live) (key : ℕ) (ws : List ℕ) → get live key ≡ Some ws → live ≡ insert (remove live key) key ws
put_back live key ws found = is_insert (remove live key) live key ws (λ n. ⊎_elim
    (λ here. rw (eq-eqb n key here) (ap (get live) here ∙ found))
    (λ apart. rw (ne_eqb n key apart) (sym (get_remove_apart live key n apart)))
    (cases_eq n key))

put_over : (live : Live) (key : ℕ) (ws : List ℕ) → insert live key ws ≡ insert (remove live key) key ws
put_over live key ws = is_insert (remove live key) (insert live key ws) key ws (λ n. ⊎_elim
    (λ here. rw (eq-eqb n key here) (ap (get (insert live key ws)) here ∙ get_inserted live key ws))
    (λ apart. rw (ne_eqb n key apart) (get_insert_apart live key ws n apart ∙ sym (get_remove_apart live key n apart)))
    (cases_eq n key))

counts_removed : (p : List ℕ → Bool) (live : Live) (key : ℕ) (ws : List ℕ) → get live key ≡ Some ws → counts p live ≡ one_if (p ws) + counts p (remove live key)
counts_removed p live key ws found =
    ap (counts p) (put_back live key ws found) ∙ counts_new p (remove live key) key ws (get_removed live key)

counts_replaced : (p : List ℕ → Bool) (live : Live) (key : ℕ) (ws us : List ℕ) → get live key ≡ Some ws → p us ≡ p ws → counts p (insert live key us) ≡ counts p live
counts_replaced p live key ws us found same =
    ap (counts p) (put_over live key us)
    ∙ counts_new p (remove live key) key us (get_removed live key)
    ∙ ap (λ b. one_if b + counts p (remove live key)) same
    ∙ sym (counts_removed p live key ws found)

-- ---- the blocks of a region

has_width : ℕ → List ℕ → Bool
has_width width ws = eqb (length ws) width

live_counts : (r : RegionState) (width : ℕ) → live_blocks r width ≡ counts (has_width width) r.live
unfolding counts has_width
live_counts r width = refl

one_here : (width v : ℕ) → v ≡ width → one_if (eqb width v) ≡ 1
unfolding one_if
one_here width v same = rw (eq-eqb width v (sym same)) refl

one_elsewhere : (width v : ℕ) → v ≢ width → one_if (eqb width v) ≡ 0
unfolding one_if
one_elsewhere width v apart = rw (ne_eqb width v (λ e. apart (sym e))) refl

pub blocks_same : (old new : RegionState) → new.live ≡ old.live → new.free ≡ old.free → KeepsBlocks old new
blocks_same old new live free width =
    ap (λ (m : Live). get_or new.free width 0 + length (filter (λ ws. eqb (length ws) width) (values m))) live
    ∙ ap (λ f. get_or f width 0 + live_blocks old width) free

-- of one width there are no fewer free blocks, and nothing else has changed
pub blocks_more : (old new : RegionState) (width : ℕ) → new.live ≡ old.live → spare old width ≤ spare new width → KeepsOtherWidths old new width → LosesNoBlock old new
blocks_more old new width live more others v =
    let same : live_blocks new v ≡ live_blocks old v = ap (λ (m : Live). length (filter (λ ws. eqb (length ws) v) (values m))) live in
    ⊎_elim
    (λ (here : v ≡ width). let low : spare old v ≤ spare new v = subst (λ w. spare old w ≤ spare new w) (sym here) more in omega (arith, same, low))
    (λ (apart : v ≢ width). let e = others v apart in omega (arith, same, e))
    (cases_eq v width)

-- one block of this width was free and is live
pub blocks_taken : (old new : RegionState) (number width : ℕ) (ws : List ℕ) → get old.live number ≡ None → new.live ≡ insert old.live number ws → length ws ≡ width
    → spare new width + 1 ≡ spare old width → KeepsOtherWidths old new width → KeepsBlocks old new
unfolding has_width
blocks_taken old new number width ws fresh live wide here others v =
    let more : counts (has_width v) new.live ≡ one_if (eqb width v) + counts (has_width v) old.live =
    ap (counts (has_width v)) live ∙ counts_new (has_width v) old.live number ws fresh ∙ ap (λ n. one_if (eqb n v) + counts (has_width v) old.live) wide in
    ⊎_elim
    (λ (same : v ≡ width).
    let spares : spare new v + 1 ≡ spare old v = subst (λ w. spare new w + 1 ≡ spare old w) (sym same) here in
    omega (arith, more, one_here width v same, spares, live_counts new v, live_counts old v))
    (λ (apart : v ≢ width). omega (arith, more, one_elsewhere width v apart, others v apart, live_counts new v, live_counts old v))
    (cases_eq v width)

-- a live block is free
pub blocks_given : (old new : RegionState) (number : ℕ) → IsLive old number → new.live ≡ remove old.live number
    → spare new (width_of old number) ≡ spare old (width_of old number) + 1 → KeepsOtherWidths old new (width_of old number) → KeepsBlocks old new
unfolding has_width
blocks_given old new number is_live live here others v =
    let width : ℕ = width_of old number in
    let less : counts (has_width v) old.live ≡ one_if (eqb width v) + counts (has_width v) new.live =
    counts_removed (has_width v) old.live number (words_of old number) (some_words (get old.live number) is_live)
    ∙ ap (λ m. one_if (eqb width v) + counts (has_width v) m) (sym live) in
    ⊎_elim
    (λ (same : v ≡ width).
    let spares : spare new v ≡ spare old v + 1 = subst (λ w. spare new w ≡ spare old w + 1) (sym same) here in
    omega (arith, less, one_here width v same, spares, live_counts new v, live_counts old v))
    (λ (apart : v ≢ width). omega (arith, less, one_elsewhere width v apart, others v apart, live_counts new v, live_counts old v))
    (cases_eq v width)

-- a live block has other words, as many
pub blocks_written : (old new : RegionState) (number : ℕ) (ws : List ℕ) → IsLive old number → new.live ≡ insert old.live number ws → length ws ≡ width_of old number
    → new.free ≡ old.free → KeepsBlocks old new
unfolding has_width
blocks_written old new number ws is_live live wide free v =
    let same : counts (has_width v) new.live ≡ counts (has_width v) old.live =
    ap (counts (has_width v)) live
    ∙ counts_replaced (has_width v) old.live number (words_of old number) ws (some_words (get old.live number) is_live) (ap (λ n. eqb n v) wide) in
    omega (arith, same, ap (λ f. get_or f v 0) free, live_counts new v, live_counts old v)
