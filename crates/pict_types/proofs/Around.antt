-- The measure of a variable, read from the lists of its scope.
use Rattle.std.proofs.Common.{◌≡◌, ℕ, zero, suc, ◌-◌, ◌+◌, ◌≤◌, ◌<◌, List, [], ◌∷◌, ◌++◌, length, get_or, map, reverse, take, set, refl, sym, ◌∙◌, ap, arith}
use Rattle.std.proofs.lemmas.List.{get_or-reverse, get_or-map, get_or_past, length-map, length-reverse, take_more_set, map-append, reverse-append}
use Rattle.pict_types.specs.Measures.{measure_at}
use Rattle.pict_types.specs.declared.measure.Measures.{Measures}
use Rattle.pict_types.specs.declared.measure.Known.{Known}
use Rattle.pict_types.specs.Around.{Skips, weights_inside, heights_inside}

measure_at_get : (ws : List ℕ) (i : ℕ) → measure_at ws i ≡ get_or ws i 1
measure_at_get [] i = refl
measure_at_get (w ∷ ws) zero = refl
measure_at_get (w ∷ ws) (suc i) = measure_at_get ws i

at_first : (ws vs : List ℕ) (i : ℕ) → i < length ws → measure_at (ws ++ vs) i ≡ measure_at ws i
at_first [] vs i h = absurd (omega arith)
at_first (w ∷ ws) vs zero h = refl
at_first (w ∷ ws) vs (suc i) h = at_first ws vs i (omega arith)

at_rest : (ws vs : List ℕ) (i : ℕ) → length ws ≤ i → measure_at (ws ++ vs) i ≡ measure_at vs (i - length ws)
at_rest [] vs i h = ap (measure_at vs) (omega arith)
at_rest (w ∷ ws) vs zero h = absurd (omega arith)
at_rest (w ∷ ws) vs (suc i) h = at_rest ws vs i (omega arith) ∙ ap (measure_at vs) (omega arith)

-- what a list of measures, the innermost last, gives to a variable
at_known : {A : Type 0} (f : A → ℕ) (ms : List A) (i : ℕ) (d : A) → i < length ms → measure_at (reverse (map f ms)) i ≡ f (get_or ms (length ms - 1 - i) d)
at_known f ms i d h =
    let m : length (map f ms) ≡ length ms = simp length-map refl in
    let h2 : i < length (map f ms) = omega arith in
    let k : length ms - 1 - i < length ms = omega arith in
    measure_at_get (reverse (map f ms)) i
    ∙ get_or-reverse (map f ms) i 1 h2
    ∙ ap (λ n. get_or (map f ms) (n - 1 - i) 1) m
    ∙ get_or-map f ms (length ms - 1 - i) d 1 k

length_known : {A : Type 0} (f : A → ℕ) (ms : List A) → length (reverse (map f ms)) ≡ length ms
length_known f ms =
    let m : length (map f ms) ≡ length ms = simp length-map refl in
    length-reverse (map f ms) ∙ m

unknown : {A : Type 0} (f : A → ℕ) (ms : List A) (i : ℕ) → length ms ≤ i → measure_at (reverse (map f ms)) i ≡ 1
unknown f ms i h =
    let m = length_known f ms in
    measure_at_get (reverse (map f ms)) i ∙ get_or_past (reverse (map f ms)) i 1 (omega arith)

pub outer_weight : (ks : List Known) (i : ℕ) (d : Known) → i < length ks → measure_at (reverse (map (λ k. k.measures.weight) ks)) i ≡ (get_or ks (length ks - 1 - i) d).measures.weight
outer_weight ks i d h = at_known (λ k. k.measures.weight) ks i d h

pub outer_height : (ks : List Known) (i : ℕ) (d : Known) → i < length ks → measure_at (reverse (map (λ k. k.measures.height) ks)) i ≡ (get_or ks (length ks - 1 - i) d).measures.height
outer_height ks i d h = at_known (λ k. k.measures.height) ks i d h

pub unknown_weight : (ks : List Known) (i : ℕ) → length ks ≤ i → measure_at (reverse (map (λ k. k.measures.weight) ks)) i ≡ 1
unknown_weight ks i h = unknown (λ k. k.measures.weight) ks i h

pub unknown_height : (ks : List Known) (i : ℕ) → length ks ≤ i → measure_at (reverse (map (λ k. k.measures.height) ks)) i ≡ 1
unknown_height ks i h = unknown (λ k. k.measures.height) ks i h

pub inner_weight : (ms : List Measures) (vs : List ℕ) (i : ℕ) (d : Measures) → i < length ms → measure_at (reverse (map (λ m. m.weight) ms) ++ vs) i ≡ (get_or ms (length ms - 1 - i) d).weight
inner_weight ms vs i d h =
    let m = length_known (λ m. m.weight) ms in
    at_first (reverse (map (λ m. m.weight) ms)) vs i (omega arith) ∙ at_known (λ m. m.weight) ms i d h

pub inner_height : (ms : List Measures) (vs : List ℕ) (i : ℕ) (d : Measures) → i < length ms → measure_at (reverse (map (λ m. m.height) ms) ++ vs) i ≡ (get_or ms (length ms - 1 - i) d).height
inner_height ms vs i d h =
    let m = length_known (λ m. m.height) ms in
    at_first (reverse (map (λ m. m.height) ms)) vs i (omega arith) ∙ at_known (λ m. m.height) ms i d h

pub past_weight : (ms : List Measures) (vs : List ℕ) (i : ℕ) → length ms ≤ i → measure_at (reverse (map (λ m. m.weight) ms) ++ vs) i ≡ measure_at vs (i - length ms)
past_weight ms vs i h =
    let m = length_known (λ m. m.weight) ms in
    at_rest (reverse (map (λ m. m.weight) ms)) vs i (omega arith) ∙ ap (λ n. measure_at vs (i - n)) m

pub past_height : (ms : List Measures) (vs : List ℕ) (i : ℕ) → length ms ≤ i → measure_at (reverse (map (λ m. m.height) ms) ++ vs) i ≡ measure_at vs (i - length ms)
past_height ms vs i h =
    let m = length_known (λ m. m.height) ms in
    at_rest (reverse (map (λ m. m.height) ms)) vs i (omega arith) ∙ ap (λ n. measure_at vs (i - n)) m

pub ruleset scope_rules = (outer_weight, outer_height, unknown_weight, unknown_height, inner_weight, inner_height, past_weight, past_height)

-- one more known variable stands in front
known_more : (f : Measures → ℕ) (ms : List Measures) (k : ℕ) (m : Measures) → k < length ms → reverse (map f (take (k + 1) (set ms k m))) ≡ f m ∷ reverse (map f (take k ms))
known_more f ms k m h =
    let e : take (k + 1) (set ms k m) ≡ take k ms ++ m ∷ [] = take_more_set ms k m h in
    ap (λ x. reverse (map f x)) e ∙ ap reverse (map-append f (take k ms) (m ∷ [])) ∙ reverse-append (map f (take k ms)) (f m ∷ [])

pub weights_more : (ms : List Measures) (k : ℕ) (m : Measures) (vs : List ℕ) → k < length ms → reverse (map (λ x. x.weight) (take (k + 1) (set ms k m))) ++ vs ≡ m.weight ∷ (reverse (map (λ x. x.weight) (take k ms)) ++ vs)
weights_more ms k m vs h = ap (λ x. x ++ vs) (known_more (λ x. x.weight) ms k m h)

pub heights_more : (ms : List Measures) (k : ℕ) (m : Measures) (vs : List ℕ) → k < length ms → reverse (map (λ x. x.height) (take (k + 1) (set ms k m))) ++ vs ≡ m.height ∷ (reverse (map (λ x. x.height) (take k ms)) ++ vs)
heights_more ms k m vs h = ap (λ x. x ++ vs) (known_more (λ x. x.height) ms k m h)

-- steps to parts further out
pub skips_weights : (ms : List Measures) (vs : List ℕ) → Skips (length ms) (weights_inside ms vs) vs
skips_weights ms vs = record { each = λ i h. past_weight ms vs i h }

pub skips_heights : (ms : List Measures) (vs : List ℕ) → Skips (length ms) (heights_inside ms vs) vs
skips_heights ms vs = record { each = λ i h. past_height ms vs i h }

pub skips_twice : (n m : ℕ) (ws vs us : List ℕ) → Skips n ws vs → Skips m vs us → Skips (n + m) ws us
skips_twice n m ws vs us a b = record { each = go }
  where
    go : (i : ℕ) → n + m ≤ i → measure_at ws i ≡ measure_at us (i - (n + m))
    go i h = a.each i (omega (arith, h)) ∙ b.each (i - n) (omega (arith, h)) ∙ ap (measure_at us) (omega arith)

pub skipped : (n i m : ℕ) (ws vs : List ℕ) → Skips n ws vs → n ≤ i → m ≡ measure_at vs (i - n) → m ≡ measure_at ws i
skipped n i m ws vs a h e = e ∙ sym (a.each i h)
