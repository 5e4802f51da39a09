-- One block more in turn.
use Rattle.std.proofs.Common.{◌≡◌, ◌≢◌, ◌<◌, length, ℕ, zero, suc, ◌+◌, false, cond, List, [], ◌∷◌, ◌++◌, map, take, drop, refl, sym, ap, ◌∙◌, append_assoc, arith}
use Rattle.std.specs.Prelude.{◌==◌}
use Rattle.std.proofs.lemmas.Bool.Decides.{nat_tests}
use Rattle.pict_queue.specs.QueuesState.{QueuesState, queue_blocks}
use Rattle.pict_queue.specs.Contents.{contents, held_words, moved_contents}
use Rattle.pict_sites.specs.Turning.{turned}

map_last : {A B : Type 0} (f : A → B) (xs : List A) (x : A) → map f (xs ++ x ∷ []) ≡ map f xs ++ f x ∷ []
map_last f [] x = refl
map_last f (y ∷ ys) x = ap (λ zs. f y ∷ zs) (map_last f ys x)

one_more : (i : ℕ) → suc (i + 1) ≡ suc i + 1
one_more i = omega arith

map_turned : {A B : Type 0} (f : A → B) (xs : List A) → map f (drop 1 xs ++ take 1 xs) ≡ drop 1 (map f xs) ++ take 1 (map f xs)
map_turned f [] = refl
map_turned f (x ∷ xs) = map_last f xs x

record Cut {A : Type 0} (xs : List A) (i : ℕ) : Type 0 where
  item : A
  behind : drop i xs ≡ item ∷ drop (i + 1) xs
  before : take (i + 1) xs ≡ take i xs ++ item ∷ []

cut : {A : Type 0} (xs : List A) (i : ℕ) → i < length xs → Cut xs i
cut [] i h = absurd (omega (arith, h))
cut (x ∷ xs) zero h = record { item = x; behind = refl; before = refl }
cut (x ∷ xs) (suc i) h =
    let c = cut xs i (omega (arith, h)) in
    record {
      item = c.item;
      behind = c.behind ∙ ap (λ n. c.item ∷ drop n (x ∷ xs)) (one_more i);
      before = ap (λ n. take n (x ∷ xs)) (sym (one_more i)) ∙ ap (λ ys. x ∷ ys) c.before;
    }

turn_step : {A : Type 0} (xs : List A) (i : ℕ) → i < length xs → turned 1 (turned i xs) ≡ turned (i + 1) xs
turn_step xs i h =
    let c = cut xs i h in
    ap (λ ys. turned 1 (ys ++ take i xs)) c.behind
    ∙ append_assoc (drop (i + 1) xs) (take i xs) (c.item ∷ []) ∙ ap (λ ys. drop (i + 1) xs ++ ys) (sym c.before)

-- the contents after one more block went to the back
pub one_turned : (s : QueuesState) (xs : List (List ℕ)) (i : ℕ) → contents s 0 ≡ turned i xs → i < length xs → moved_contents s 0 0 0 ≡ turned (i + 1) xs
one_turned s xs i h l = map_turned (held_words s.region) (queue_blocks s 0) ∙ ap (turned 1) h ∙ turn_step xs i l

apart : (n : ℕ) → n ≢ 0 → (n == 0) ≡ false
apart n h = grind (arith, nat_tests)

pub other_stays : (s : QueuesState) (other : ℕ) → other ≢ 0 → moved_contents s 0 0 other ≡ contents s other
other_stays s other h =
    ap (λ b. map (held_words s.region) (cond b (cond b (drop 1 (queue_blocks s other)) (queue_blocks s other) ++ take 1 (queue_blocks s 0)) (cond b (drop 1 (queue_blocks s other)) (queue_blocks s other)))) (apart other h)

-- what stood in front is behind again
pub turned_whole : {A : Type 0} (xs ys : List A) → turned (length xs) (xs ++ ys) ≡ ys ++ xs
turned_whole [] ys = refl
turned_whole (x ∷ xs) ys = turned_on x xs ys
  where
    behind : {A : Type 0} (zs ws : List A) → drop (length zs) (zs ++ ws) ≡ ws
    behind [] ws = refl
    behind (z ∷ zs) ws = behind zs ws

    before : {A : Type 0} (zs ws : List A) → take (length zs) (zs ++ ws) ≡ zs
    before [] ws = refl
    before (z ∷ zs) ws = ap (λ us. z ∷ us) (before zs ws)

    turned_on : {A : Type 0} (z : A) (zs ws : List A) → turned (length (z ∷ zs)) ((z ∷ zs) ++ ws) ≡ ws ++ (z ∷ zs)
    turned_on z zs ws = ap (λ us. us ++ take (length (z ∷ zs)) ((z ∷ zs) ++ ws)) (behind (z ∷ zs) ws) ∙ ap (λ us. ws ++ us) (before (z ∷ zs) ws)
