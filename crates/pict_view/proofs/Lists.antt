-- Lists without an element, or with another in its place, and lists of lists of which one changes.
use Rattle.std.proofs.Common.{ℕ, zero, suc, ◌+◌, ◌<◌, ◌≡◌, ◌≢◌, inl, inr, List, [], ◌∷◌, ◌++◌, length, map, take, drop, refl, sym, ap, ◌∙◌, subst, Some, arith}
use Rattle.std.specs.List.{slice_get, slice_set, AllByRecursion}
use Rattle.std.proofs.lemmas.Bool.Decides.{eqb_tells}
use Rattle.pict_core.specs.Term.{Process}
use Rattle.pict_view.specs.View.{View, list_at}
use Rattle.pict_view.specs.Moved.{Moved}
use Rattle.pict_view.specs.Placed.{without, instead, at_list}

pub without_suc : {X : Type 0} (i : ℕ) (x : X) (xs : List X) → without (suc i) (x ∷ xs) ≡ x ∷ without i xs
without_suc i x xs = let e : suc i + 1 ≡ suc (i + 1) = omega arith in ap (λ n. take (suc i) (x ∷ xs) ++ drop n (x ∷ xs)) e

pub instead_suc : {X : Type 0} (i : ℕ) (y x : X) (xs : List X) → instead (suc i) y (x ∷ xs) ≡ x ∷ instead i y xs
instead_suc i y x xs = let e : suc i + 1 ≡ suc (i + 1) = omega arith in ap (λ n. take (suc i) (x ∷ xs) ++ (y ∷ drop n (x ∷ xs))) e

pub map_without : {X Y : Type 0} (f : X → Y) (i : ℕ) (xs : List X) → map f (without i xs) ≡ without i (map f xs)
map_without f zero [] = refl
map_without f (suc i) [] = let e : suc i + 1 ≡ suc (i + 1) = omega arith in rw e refl
map_without f zero (x ∷ xs) = refl
map_without f (suc i) (x ∷ xs) = ap (map f) (without_suc i x xs) ∙ ap (λ l. f x ∷ l) (map_without f i xs) ∙ sym (without_suc i (f x) (map f xs))

pub map_instead : {X Y : Type 0} (f : X → Y) (i : ℕ) (y : X) (xs : List X) → map f (instead i y xs) ≡ instead i (f y) (map f xs)
map_instead f zero y [] = refl
map_instead f (suc i) y [] = let e : suc i + 1 ≡ suc (i + 1) = omega arith in rw e refl
map_instead f zero y (x ∷ xs) = refl
map_instead f (suc i) y (x ∷ xs) = ap (map f) (instead_suc i y x xs) ∙ ap (λ l. f x ∷ l) (map_instead f i y xs) ∙ sym (instead_suc i (f y) (f x) (map f xs))

-- ---- what holds of each

pub all_without : {X : Type 0} (P : X → Type 0) (i : ℕ) (xs : List X) → AllByRecursion P xs → AllByRecursion P (without i xs)
all_without P zero [] h = h
all_without P (suc i) [] h = let e : suc i + 1 ≡ suc (i + 1) = omega arith in rw e h
all_without P zero (x ∷ xs) h = h.1
all_without P (suc i) (x ∷ xs) h = subst (AllByRecursion P) (sym (without_suc i x xs)) (h.0, all_without P i xs h.1)

pub all_pushed : {X : Type 0} (P : X → Type 0) (xs : List X) (y : X) → AllByRecursion P xs → P y → AllByRecursion P (xs ++ y ∷ [])
all_pushed P [] y h k = (k, h)
all_pushed P (x ∷ xs) y h k = (h.0, all_pushed P xs y h.1 k)

-- ---- the list of a channel

pub list_there : (lists : List (List Process)) (c : ℕ) → c < length lists → slice_get lists c ≡ Some (list_at c lists)
list_there [] c h = absurd (omega arith)
list_there (x ∷ xs) zero h = refl
list_there (x ∷ xs) (suc c) h = list_there xs c (omega arith)

pub listed : (go : List Process → Moved View) (lists : List (List Process)) (c : ℕ) → c < length lists → at_list go (slice_get lists c) ≡ go (list_at c lists)
listed go lists c h = ap (at_list go) (list_there lists c h)

pub list_set : (lists : List (List Process)) (c : ℕ) (l : List Process) → c < length lists → list_at c (slice_set lists c l) ≡ l
list_set [] c l h = absurd (omega arith)
list_set (x ∷ xs) zero l h = refl
list_set (x ∷ xs) (suc c) l h = list_set xs c l (omega arith)

pub list_other : (lists : List (List Process)) (c d : ℕ) (l : List Process) → d ≢ c → list_at d (slice_set lists c l) ≡ list_at d lists
list_other [] c d l h = refl
list_other (x ∷ xs) zero zero l h = absurd (h refl)
list_other (x ∷ xs) zero (suc d) l h = refl
list_other (x ∷ xs) (suc c) zero l h = refl
list_other (x ∷ xs) (suc c) (suc d) l h = list_other xs c d l (λ e. h (ap suc e))

-- what holds of the list that comes, and held of the others, holds of each list
pub each_list : (P : ℕ → List Process → Type 0) (lists : List (List Process)) (c : ℕ) (l : List Process) → c < length lists → P c l
    → ((d : ℕ) → d ≢ c → P d (list_at d lists)) → (d : ℕ) → P d (list_at d (slice_set lists c l))
each_list P lists c l h at others d = elim (eqb_tells d c) [
  | inl e ↦ rw e.1 (rw (list_set lists c l h) at)
  | inr n ↦ rw (list_other lists c d l n.1) (others d n.1)
]

-- nothing waits at a new channel
pub list_new : (lists : List (List Process)) (c : ℕ) → list_at c (lists ++ [] ∷ []) ≡ list_at c lists
list_new [] zero = refl
list_new [] (suc c) = refl
list_new (x ∷ xs) zero = refl
list_new (x ∷ xs) (suc c) = list_new xs c
