-- The measures of variables under binders.
use Rattle.std.proofs.Common.{◌≡◌, ℕ, ◌-◌, ◌≤◌, List, [], ◌∷◌, ◌++◌, length, map, reverse, take, drop, refl, sym, ◌∙◌, ap, arith}
use Rattle.std.proofs.lemmas.List.{map-append, reverse-append, length-map, length-reverse, take-append-drop, length-drop}
use Rattle.std.proofs.Math.Seq.{drop-append_seam}
use Rattle.pict_types.specs.declared.measure.Measures.{Measures}
use Rattle.pict_types.specs.Types.{PlainType}
use Rattle.pict_types.specs.Measures.{held, weigh, rise}
use Rattle.pict_types.specs.Around.{weights_inside, heights_inside}
use Rattle.pict_types.proofs.Entries.{held_list}
use Rattle.pict_types.proofs.Held.{alike, HeldAlike, alike_more, weigh_held, rise_held}

-- the outer ones of a list, seen from its end
pub known_behind : {A : Type 0} (f : A → ℕ) (ks : List A) (by : ℕ) → by ≤ length ks → reverse (map f (take (length ks - by) ks)) ≡ drop by (reverse (map f ks))
known_behind f ks by h =
    let n = length ks - by in
    let front = take n ks in
    let back = drop n ks in
    let e : front ++ back ≡ ks = take-append-drop n ks in
    let all : reverse (map f ks) ≡ reverse (map f back) ++ reverse (map f front) =
    ap (λ x. reverse (map f x)) (sym e) ∙ ap reverse (map-append f front back) ∙ reverse-append (map f front) (map f back) in
    let l1 : length (map f back) ≡ length back = simp length-map refl in
    let l2 : length back ≡ length ks - n = simp length-drop refl in
    let l : length (reverse (map f back)) ≡ by = omega (arith, length-reverse (map f back), l1, l2) in
    sym (ap (drop by) all ∙ ap (λ k. drop k (reverse (map f back) ++ reverse (map f front))) (sym l) ∙ drop-append_seam (reverse (map f back)) (reverse (map f front)))

alike_behind : (xs : List ℕ) {vs ws : List ℕ} → HeldAlike vs ws → HeldAlike (xs ++ vs) (xs ++ ws)
alike_behind [] h = h
alike_behind (x ∷ xs) h = alike_more alike (alike_behind xs h)

-- what is measured over the held measures of the outer variables is held itself
pub weighs_inside : (n : ℕ) (ms : List Measures) (vs ws : List ℕ) (t : PlainType) → n ≡ held (weigh (weights_inside ms vs) t) → vs ≡ map held ws → n ≡ held (weigh (weights_inside ms ws) t)
weighs_inside n ms vs ws t h e =
    h ∙ ap (λ x. held (weigh (weights_inside ms x) t)) e ∙ (weigh_held (alike_behind (reverse (map (λ m. m.weight) ms)) (held_list ws)) t).same

pub rises_inside : (n : ℕ) (ms : List Measures) (vs ws : List ℕ) (t : PlainType) → n ≡ held (rise (heights_inside ms vs) t) → vs ≡ map held ws → n ≡ held (rise (heights_inside ms ws) t)
rises_inside n ms vs ws t h e =
    h ∙ ap (λ x. held (rise (heights_inside ms x) t)) e ∙ (rise_held (alike_behind (reverse (map (λ m. m.height) ms)) (held_list ws)) t).same
