-- Frames are read level by level.
use Rattle.std.proofs.Common.{ℕ, ◌+◌, ◌<◌, ◌≤◌, ◌≡◌, ◌≢◌, List, [], ◌∷◌, ◌++◌, length, map, take, drop, set, get_or, refl, sym, ap, ◌∙◌, subst, arith, add-one}
use Rattle.std.proofs.Math.Seq.{take-suc}
use Rattle.std.proofs.lemmas.List.{map-append, take-append-drop, get_or-set_same, get_or-set_other}
use Rattle.std.specs.List.{All}
use Rattle.pict_code.specs.Levels.{Rises}
use Rattle.pict_heap.specs.HeapState.{HeapState}
use Rattle.pict_desk.specs.Known.{pair_at}
use Rattle.pict_desk.specs.Pairs.{IsPair, ArePairs}
use Rattle.pict_desk.proofs.Making.{take_whole}
use Rattle.pict_desk.proofs.Pairs.{set_pairs}
use Rattle.pict_desk.proofs.SoFar.{rises_front}

last_low : (low level : ℕ) (xs : List ℕ) → Rises low (xs ++ level ∷ []) → low ≤ level
last_low low level [] r = r.0
last_low low level (x ∷ xs) r = let k = last_low (x + 1) level xs r.1 in omega (arith, r.0, k)

earlier_same : {A : Type 0} (f g : ℕ → A) (low level : ℕ) (xs : List ℕ) → Rises low (xs ++ level ∷ []) → ((l : ℕ) → l ≢ level → g l ≡ f l) → map g xs ≡ map f xs
earlier_same f g low level [] r same = refl
earlier_same f g low level (x ∷ xs) r same =
    let k = last_low (x + 1) level xs r.1 in
    let here : g x ≡ f x = same x (λ e. omega (arith, e, k)) in
    cc (here, earlier_same f g (x + 1) level xs r.1 same)

module _ (values : List (ℕ × ℕ)) (levels : List ℕ) (frame : List (ℕ × ℕ)) (i level : ℕ) (pair : ℕ × ℕ) (low : i < length levels) (many : length frame ≡ length levels)
    (is : level ≡ get_or levels i 0) (pair_is : pair ≡ get_or frame i (0, 0)) (inside : level < length values) where
  took : take (i + 1) levels ≡ take i levels ++ level ∷ []
  took = ap (λ n. take n levels) (add-one i) ∙ take-suc levels i 0 low ∙ ap (λ l. take i levels ++ l ∷ []) (sym is)

  took_pair : take (i + 1) frame ≡ take i frame ++ pair ∷ []
  took_pair = ap (λ n. take n frame) (add-one i) ∙ take-suc frame i (0, 0) (omega (arith, low, many)) ∙ ap (λ p. take i frame ++ p ∷ []) (sym pair_is)

  pub read_more : Rises 0 levels → map (pair_at values) (take i levels) ≡ take i frame → map (pair_at (set values level pair)) (take (i + 1) levels) ≡ take (i + 1) frame
  read_more rising so_far =
      let rises : Rises 0 (take i levels ++ level ∷ []) = subst (Rises 0) took (rises_front 0 (take (i + 1) levels) (drop (i + 1) levels) (subst (Rises 0) (sym (take-append-drop (i + 1) levels)) rising)) in
      let stay : map (pair_at (set values level pair)) (take i levels) ≡ map (pair_at values) (take i levels) =
      earlier_same (pair_at values) (pair_at (set values level pair)) 0 level (take i levels) rises (λ l apart. get_or-set_other values level l pair (0, 0) apart) in
      ap (map (pair_at (set values level pair))) took
      ∙ map-append (pair_at (set values level pair)) (take i levels) (level ∷ [])
      ∙ ap (λ ps. ps ++ pair_at (set values level pair) level ∷ []) (stay ∙ so_far)
      ∙ ap (λ p. take i frame ++ p ∷ []) (get_or-set_same values level pair (0, 0) inside)
      ∙ sym took_pair

  pub pairs_more : (h : HeapState) → All (IsPair h) frame → ArePairs h values → ArePairs h (set values level pair)
  pairs_more h all pairs =
      let p = subst (IsPair h) (sym pair_is) (all i (0, 0) (omega (arith, low, many))) in
      set_pairs h values level p.word pair p.fits p.packs inside p.is pairs

-- once all are read
pub read_whole : (values : List (ℕ × ℕ)) (levels : List ℕ) (frame : List (ℕ × ℕ)) (i : ℕ) → length levels ≤ i → length frame ≡ length levels → map (pair_at values) (take i levels) ≡ take i frame
    → map (pair_at values) levels ≡ frame
read_whole values levels frame i end many e = ap (map (pair_at values)) (sym (take_whole levels i end)) ∙ e ∙ take_whole frame i (omega (arith, many, end))
