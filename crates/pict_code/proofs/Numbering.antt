-- Where the parts of a part stand in preorder.
use Rattle.std.proofs.Common.{ℕ, zero, suc, ◌+◌, ◌-◌, ◌<◌, ◌≤◌, ◌≡◌, Bool, true, false, List, [], ◌∷◌, ◌++◌, length, map, refl, sym, ap, ◌∙◌, subst, arith, Option, Some, None, length-append}
use Rattle.std.specs.List.{slice_get}
use Rattle.pict_core.specs.Term as term
use Rattle.pict_core.specs.Term.{Val, Process, Zero, Par, New, Out, In, If}
use Rattle.pict_core.specs.Closed.{binds}
use Rattle.pict_code.specs.Nodes.{Place, place, places, size}

pub length_places : (n : ℕ) (p : Process) → length (places n p) ≡ size p
length_places n Zero = refl
length_places n (Par p q) = omega (arith, length-append (places n p) (places n q), length_places n p, length_places n q)
length_places n (New p) = omega (arith, length_places (n + 1) p)
length_places n (Out chan message at) = refl
length_places n (In chan replicated pattern body) = omega (arith, length_places (n + binds pattern) body)
length_places n (If test p q) = omega (arith, length-append (places n p) (places n q), length_places n p, length_places n q)

-- ---- places in a list

at_later : (xs ys : List Place) (i : ℕ) → slice_get (xs ++ ys) (length xs + i) ≡ slice_get ys i
at_later [] ys i = ap (slice_get ys) (omega arith)
at_later (x ∷ xs) ys i = let e : length (x ∷ xs) + i ≡ suc (length xs + i) = omega arith in rw e (at_later xs ys i)

pub at_before : (xs ys : List Place) (i : ℕ) → i < length xs → slice_get (xs ++ ys) i ≡ slice_get xs i
at_before [] ys i h = absurd (omega arith)
at_before (x ∷ xs) ys zero h = refl
at_before (x ∷ xs) ys (suc i) h = at_before xs ys i (omega arith)

-- The places from number i on are those of this part.
abbrev pub Holds : List Place → ℕ → List Place → Type 0
Holds all i some = (j : ℕ) → j < length some → slice_get all (i + j) ≡ slice_get some j

pub first_of : (all : List Place) (i : ℕ) (x : Place) (xs : List Place) → Holds all i (x ∷ xs) → slice_get all i ≡ Some x
first_of all i x xs h = let e : i + 0 ≡ i = omega arith in subst (λ k. slice_get all k ≡ Some x) e (h 0 (omega arith))

pub rest_of : (all : List Place) (i : ℕ) (x : Place) (xs : List Place) → Holds all i (x ∷ xs) → Holds all (i + 1) xs
rest_of all i x xs h j low = let e : i + suc j ≡ i + 1 + j = omega arith in subst (λ k. slice_get all k ≡ slice_get xs j) e (h (suc j) (omega arith))

pub front_of : (all : List Place) (i : ℕ) (xs ys : List Place) → Holds all i (xs ++ ys) → Holds all i xs
front_of all i xs ys h j low = h j (omega (arith, length-append xs ys)) ∙ at_before xs ys j low

pub back_of : (all : List Place) (i : ℕ) (xs ys : List Place) → Holds all i (xs ++ ys) → Holds all (i + length xs) ys
back_of all i xs ys h j low =
    let e : i + (length xs + j) ≡ i + length xs + j = omega arith in
    subst (λ k. slice_get all k ≡ slice_get ys j) e (h (length xs + j) (omega (arith, length-append xs ys)) ∙ at_later xs ys j)

-- ---- the parts of a part, by the numbers in its instruction

abbrev pub PlacedAt : Process → ℕ → ℕ → Process → Type 0
PlacedAt core i n p = Holds (places 0 core) i (places n p)

all_at : (xs : List Place) → Holds xs 0 xs
all_at xs j low = let e : 0 + j ≡ j = omega arith in rw e refl

pub whole_placed : (core : Process) → PlacedAt core 0 0 core
whole_placed core = all_at (places 0 core)

pub par_placed : (core : Process) (i n : ℕ) (p q : Process) → PlacedAt core i n (Par p q) → PlacedAt core (i + 1) n p × PlacedAt core (i + 1 + size p) n q
par_placed core i n p q h =
    let r = rest_of (places 0 core) i (place n (Par p q)) (places n p ++ places n q) h in (
      front_of (places 0 core) (i + 1) (places n p) (places n q) r,
      subst (λ k. Holds (places 0 core) (i + 1 + k) (places n q)) (length_places n p) (back_of (places 0 core) (i + 1) (places n p) (places n q) r),
    )

pub if_placed : (core : Process) (i n : ℕ) (test : Val) (p q : Process) → PlacedAt core i n (If test p q) → PlacedAt core (i + 1) n p × PlacedAt core (i + 1 + size p) n q
if_placed core i n test p q h =
    let r = rest_of (places 0 core) i (place n (If test p q)) (places n p ++ places n q) h in (
      front_of (places 0 core) (i + 1) (places n p) (places n q) r,
      subst (λ k. Holds (places 0 core) (i + 1 + k) (places n q)) (length_places n p) (back_of (places 0 core) (i + 1) (places n p) (places n q) r),
    )

pub new_placed : (core : Process) (i n : ℕ) (p : Process) → PlacedAt core i n (New p) → PlacedAt core (i + 1) (n + 1) p
new_placed core i n p h = rest_of (places 0 core) i (place n (New p)) (places (n + 1) p) h

pub in_placed : (core : Process) (i n : ℕ) (chan : Val) (replicated : Bool) (pattern : term.Pat) (body : Process) → PlacedAt core i n (In chan replicated pattern body) → PlacedAt core (i + 1) (n + binds pattern) body
in_placed core i n chan replicated pattern body h = rest_of (places 0 core) i (place n (In chan replicated pattern body)) (places (n + binds pattern) body) h
