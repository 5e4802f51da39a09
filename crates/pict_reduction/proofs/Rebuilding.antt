-- Processes with like components are congruent: the converse of the law of components.
use Rattle.std.proofs.Common.{ℕ, zero, suc, ◌+◌, ◌<◌, ◌≤◌, ◌≡◌, ◌⊎◌, inl, inr, refl, sym, ap, ◌∙◌, subst, arith, List, [], ◌∷◌, ◌++◌, map, length}
use Rattle.std.specs.Prelude.{◌-◌, IsPermutation}
use Rattle.std.specs.List.{slice_set, slice_index_or, swap}
use Rattle.std.proofs.lemmas.List.Sorted.{IsPermutation-keeps}
use Rattle.pict_core.specs.Term.{Process, Zero, Par, New, Out, In, If}
use Rattle.pict_reduction.specs.Congruence.{Congruent, reflexive, symmetric, transitive, in_par, in_new, unit, commutative, associative, new_new, extrusion, raise, exchange}
use Rattle.pict_reduction.specs.Reading.{declare}
use Rattle.pict_reduction.specs.Components.{Components, renamed, make_room, beside, components, Permutes, AreAlike}
use Rattle.pict_reduction.specs.Redex.{left_beside}
use Rattle.pict_core.proofs.Replacing.{two}
use Rattle.pict_reduction.proofs.Renaming.{fun_ext, then, same, renamed-then, renamed-same, room_below, room_above, below_or, raise_below, raise_above, exchange_first, exchange_other, exchange_twice}
use Rattle.pict_reduction.proofs.Alike.{permutes_same, permutes_then, stays_below, stays_above, no_room}
use Rattle.pict_reduction.proofs.Reductions.{same_process, exchange_front, unit_front}

-- P1 | (P2 | .. 0)
abbrev pub together : List Process → Process
together [] = Zero
together (p ∷ ps) = Par p (together ps)

-- the process that components make
abbrev pub rebuilt : Components → Process
rebuilt c = declare c.news (together c.primes)

-- ---- renamings

pub renamed_as : (f g : ℕ → ℕ) → ((x : ℕ) → f x ≡ g x) → (p : Process) → renamed f p ≡ renamed g p
renamed_as f g h p = ap (λ k. renamed k p) (fun_ext h)

together_renamed : (f : ℕ → ℕ) (ps : List Process) → renamed f (together ps) ≡ together (map (renamed f) ps)
together_renamed f [] = refl
together_renamed f (p ∷ ps) = ap (Par (renamed f p)) (together_renamed f ps)

declared_renamed : (f : ℕ → ℕ) (k : ℕ) (p : Process) → renamed f (declare k p) ≡ declare k (renamed f p)
declared_renamed f zero p = refl
declared_renamed f (suc k) p = declared_renamed f k (New p)

-- ---- declarations

pub declared : (n k : ℕ) (p q : Process) → Congruent (n + k) p q → Congruent n (declare k p) (declare k q)
declared n zero p q h = let e : n + 0 ≡ n = omega arith in subst (λ m. Congruent m p q) e h
declared n (suc k) p q h = let e : n + suc k ≡ suc (n + k) = omega arith in declared n k (New p) (New q) (in_new (subst (λ m. Congruent m p q) e h))

declared_twice : (j k : ℕ) (p : Process) → declare j (declare k p) ≡ declare (j + k) p
declared_twice j zero p = let e : j ≡ j + 0 = omega arith in ap (λ m. declare m p) e
declared_twice j (suc k) p = let e : suc (j + k) ≡ j + suc k = omega arith in declared_twice j k (New p) ∙ ap (λ m. declare m p) e

raise_room : (n k x : ℕ) → raise (n + k) (make_room n k x) ≡ make_room n (suc k) x
raise_room n k x = go (below_or x n)
  where
    go : (x < n) ⊎ (n ≤ x) → raise (n + k) (make_room n k x) ≡ make_room n (suc k) x
    go (inl a) = ap (raise (n + k)) (room_below n k x a) ∙ raise_below (n + k) x (omega (arith, a)) ∙ sym (room_below n (suc k) x a)
    go (inr a) = let e : suc (x + k) ≡ x + suc k = omega arith in ap (raise (n + k)) (room_above n k x a) ∙ raise_above (n + k) (x + k) (omega (arith, a)) ∙ e ∙ sym (room_above n (suc k) x a)

-- (new x1 .. xk P) | Q  is  new x1 .. xk (P | Q)
pub extruded : (n k : ℕ) (p q : Process) → Congruent n (Par (declare k p) q) (declare k (Par p (renamed (make_room n k) q)))
extruded n zero p q = same_process (ap (Par p) (sym (renamed_as (make_room n 0) same (no_room n) q ∙ renamed-same q)))
extruded n (suc k) p q =
    transitive (extruded n k (New p) q)
    (declared n k _ _ (transitive extrusion (in_new (same_process (ap (Par p) (renamed-then (make_room n k) (raise (n + k)) q ∙ renamed_as _ (make_room n (suc k)) (raise_room n k) q))))))

append_together : {n : ℕ} (ps qs : List Process) → Congruent n (Par (together ps) (together qs)) (together (ps ++ qs))
append_together [] qs = unit_front
append_together (p ∷ ps) qs = transitive associative (in_par reflexive (append_together ps qs))

pub beside_rebuilt : (n : ℕ) (a b : Components) → Congruent n (Par (rebuilt a) (rebuilt b)) (rebuilt (beside n a b))
beside_rebuilt n a b =
    let j = a.news in
    let k = b.news in
    let ps : Process = together a.primes in
    let qs : Process = renamed (make_room n j) (together b.primes) in
    let ps' : Process = renamed (make_room (n + j) k) ps in
    transitive (extruded n j ps (rebuilt b))
    (transitive (declared n j _ _
    (transitive (same_process (ap (Par ps) (declared_renamed (make_room n j) k (together b.primes))))
    (transitive commutative (transitive (extruded (n + j) k qs ps)
    (declared (n + j) k _ _ (transitive commutative
    (transitive (same_process (two Par (together_renamed (make_room (n + j) k) a.primes) (together_renamed (make_room n j) b.primes))) (append_together _ _))))))))
    (same_process (declared_twice j k _)))

-- a process is what its components make
pub rebuilds : (n : ℕ) (p : Process) → Congruent n p (rebuilt (components n p))
rebuilds n Zero = reflexive
rebuilds n (Par p q) = transitive (in_par (rebuilds n p) (rebuilds n q)) (beside_rebuilt n (components n p) (components n q))
rebuilds n (New p) =
    let c = components (suc n) p in
    let e : 1 + c.news ≡ suc c.news = omega arith in
    transitive (in_new (rebuilds (suc n) p)) (same_process (declared_twice 1 c.news (together c.primes) ∙ ap (λ m. declare m (together c.primes)) e))
rebuilds n (Out chan message at) = symmetric unit
rebuilds n (In chan replicated pattern body) = symmetric unit
rebuilds n (If test p q) = symmetric unit

-- what is left of a redex, beside the others
pub left_rebuilt : (n k : ℕ) (residual : Process) (rest : List Process) → Congruent n (rebuilt (left_beside (n + k) k residual rest)) (declare k (Par residual (together rest)))
left_rebuilt n k residual rest =
    let c = components (n + k) residual in
    let f = make_room (n + k) c.news in
    symmetric (transitive (declared n k _ _
    (transitive (in_par (rebuilds (n + k) residual) reflexive)
    (transitive (extruded (n + k) c.news (together c.primes) (together rest))
    (declared (n + k) c.news _ _ (transitive (same_process (ap (Par (together c.primes)) (together_renamed f rest))) (append_together _ _))))))
    (same_process (declared_twice k c.news _)))

-- ---- bijections of the variables that are declared

exchange_declared : (n k y : ℕ) (p : Process) → n ≤ y → suc y < n + k → Congruent n (declare k p) (declare k (renamed (exchange y) p))
exchange_declared n zero y p h l = absurd (omega (arith, h, l))
exchange_declared n (suc zero) y p h l = absurd (omega (arith, h, l))
exchange_declared n (suc (suc k)) y p h l = go (below_or (suc y) (n + suc k)) (λ a. exchange_declared n (suc k) y (New p) h a)
  where
    go : (suc y < n + suc k) ⊎ (n + suc k ≤ suc y) → (suc y < n + suc k → Congruent n (declare (suc (suc k)) p) (declare (suc (suc k)) (renamed (exchange y) p))) → Congruent n (declare (suc (suc k)) p) (declare (suc (suc k)) (renamed (exchange y) p))
    go (inl a) ih = ih a
    go (inr a) ih = let e : n + k ≡ y = omega (arith, a, l) in declared n k _ _ (subst (λ z. Congruent (n + k) (New (New p)) (New (New (renamed (exchange z) p)))) e new_new)

exchange_permutes : (n k y : ℕ) → n ≤ y → suc y < n + k → Permutes n k (exchange y)
exchange_permutes n k y h l = record {
  inverse = exchange y;
  back = exchange_twice y;
  forth = exchange_twice y;
  fixed_below = λ x b. exchange_other y x (λ e. omega (arith, e, b, h)) (λ e. omega (arith, e, b, h));
  fixed_above = λ x b. exchange_other y x (λ e. omega (arith, e, b, l)) (λ e. omega (arith, e, b, l));
}

-- y goes up by d, and each of the d above it down by one
abbrev climb : ℕ → ℕ → ℕ → ℕ
climb y zero = same
climb y (suc d) = then (exchange y) (climb (suc y) d)

climb_to : (d y : ℕ) → climb y d y ≡ y + d
climb_to zero y = omega arith
climb_to (suc d) y = let e : suc y + d ≡ y + suc d = omega arith in ap (climb (suc y) d) (exchange_first y) ∙ climb_to d (suc y) ∙ e

climb_permutes : (n k d y : ℕ) → n ≤ y → y + d < n + k → Permutes n k (climb y d)
climb_permutes n k zero y h l = permutes_same n k
climb_permutes n k (suc d) y h l = permutes_then n k (exchange y) (climb (suc y) d) (exchange_permutes n k y h (omega (arith, l))) (climb_permutes n k d (suc y) (omega (arith, h)) (omega (arith, l)))

climb_declared : (n k d y : ℕ) (p : Process) → n ≤ y → y + d < n + k → Congruent n (declare k p) (declare k (renamed (climb y d) p))
climb_declared n k zero y p h l = same_process (ap (declare k) (sym (renamed-same p)))
climb_declared n k (suc d) y p h l =
    transitive (exchange_declared n k y p h (omega (arith, l)))
    (transitive (climb_declared n k d (suc y) (renamed (exchange y) p) (omega (arith, h)) (omega (arith, l)))
    (same_process (ap (declare k) (renamed-then (exchange y) (climb (suc y) d) p))))

pub permuted : (n k : ℕ) (f : ℕ → ℕ) → Permutes n k f → (p : Process) → Congruent n (declare k p) (declare k (renamed f p))
permuted n zero f h p = same_process (sym (renamed_as f same unmoved p ∙ renamed-same p))
  where
    unmoved : (x : ℕ) → f x ≡ x
    unmoved x = go (below_or x n)
      where
        go : (x < n) ⊎ (n ≤ x) → f x ≡ x
        go (inl a) = h.fixed_below x a
        go (inr a) = h.fixed_above x (omega (arith, a))
permuted n (suc k) f h p =
    let y = f (n + k) in
    let low : n ≤ y = stays_above n (suc k) f h (n + k) (omega arith) in
    let high : y < n + suc k = stays_below n (suc k) f h (n + k) (omega arith) in
    let d = n + k - y in
    let there : y + d ≡ n + k = omega (arith, high) in
    let g = climb y d in
    let both : Permutes n (suc k) (then f g) = permutes_then n (suc k) f g h (climb_permutes n (suc k) d y low (omega (arith, there))) in
    let last : g (f (n + k)) ≡ n + k = climb_to d y ∙ there in
    let fewer : Permutes n k (then f g) = record {
      inverse = both.inverse;
      back = both.back;
      forth = both.forth;
      fixed_below = both.fixed_below;
      fixed_above = λ x l. fixed f g both.fixed_above last x l (below_or x (n + suc k));
    } in
    transitive (permuted n k (then f g) fewer (New p))
    (transitive (same_process (ap (declare (suc k)) (sym (renamed-then f g p))))
    (symmetric (climb_declared n (suc k) d y (renamed f p) low (omega (arith, there)))))
  where
    fixed : (f g : ℕ → ℕ) → ((x : ℕ) → n + suc k ≤ x → g (f x) ≡ x) → g (f (n + k)) ≡ n + k → (x : ℕ) → n + k ≤ x → (x < n + suc k) ⊎ (n + suc k ≤ x) → g (f x) ≡ x
    fixed f g above last x l (inl a) = let e : x ≡ n + k = omega (arith, l, a) in ap (λ z. g (f z)) e ∙ last ∙ sym e
    fixed f g above last x l (inr a) = above x a

-- ---- permutations, by picking

-- zs is ys with y put in somewhere
pub data Picks {X : Type 0} (y : X) : List X → List X → Type 0 where
  here : {ys : List X} → Picks y (y ∷ ys) ys
  there : {z : X} {zs ys : List X} → Picks y zs ys → Picks y (z ∷ zs) (z ∷ ys)

-- the elements of ys are picked from xs one after the other, and none is left
abbrev pub Picked : {X : Type 0} → List X → List X → Type 0
Picked {X} xs [] = xs ≡ []
Picked {X} xs (y ∷ ys) = (rest : List X) × Picks y xs rest × Picked rest ys

module _ {X : Type 0} where
  picked_itself : (xs : List X) → Picked xs xs
  picked_itself [] = refl
  picked_itself (x ∷ xs) = (xs, here, picked_itself xs)

  -- two picks in the other order
  picks_swap : (y z : X) (xs us vs : List X) → Picks y xs us → Picks z us vs → (ws : List X) × Picks z xs ws × Picks y ws vs
  picks_swap y z xs us vs here k = (y ∷ vs, there k, here)
  picks_swap y z xs us vs (there {zs = zs} h) here = (zs, here, h)
  picks_swap y z xs us vs (there {z = w} {zs = zs} {ys = ys} h) (there {ys = ys'} k) = let r = picks_swap y z zs ys ys' h k in (w ∷ r.0, there r.1, there r.2)

  picked_swap : (xs : List X) (y z : X) (ys : List X) → Picked xs (y ∷ z ∷ ys) → Picked xs (z ∷ y ∷ ys)
  picked_swap xs y z ys h = let r = picks_swap y z xs h.0 h.2.0 h.1 h.2.1 in (r.0, r.1, (h.2.0, r.2, h.2.2))

  -- y and the element at a place of ys change places
  picked_set : (xs : List X) (y : X) (ys : List X) (j : ℕ) (d : X) → j < length ys → Picked xs (y ∷ ys) → Picked xs (slice_index_or ys j d ∷ slice_set ys j y)
  picked_set xs y [] j d l h = absurd (omega (arith, l))
  picked_set xs y (z ∷ ys) zero d l h = picked_swap xs y z ys h
  picked_set xs y (z ∷ ys) (suc j) d l h =
      let s = picked_swap xs y z ys h in
      picked_swap xs z (slice_index_or ys j d) (slice_set ys j y) (s.0, s.1, picked_set s.0 y ys j d (omega (arith, l)) s.2)

  picked_exchange : (xs ys : List X) (i j : ℕ) (d : X) → i < length ys → j < length ys → Picked xs ys → Picked xs (slice_set (slice_set ys i (slice_index_or ys j d)) j (slice_index_or ys i d))
  picked_exchange xs [] i j d l m h = absurd (omega (arith, l))
  picked_exchange xs (y ∷ ys) zero zero d l m h = h
  picked_exchange xs (y ∷ ys) zero (suc j) d l m h = picked_set xs y ys j d (omega (arith, m)) h
  picked_exchange xs (y ∷ ys) (suc i) zero d l m h = picked_set xs y ys i d (omega (arith, l)) h
  picked_exchange xs (y ∷ ys) (suc i) (suc j) d l m h = (h.0, h.1, picked_exchange h.0 ys i j d (omega (arith, l)) (omega (arith, m)) h.2)

  pub permutation_picked : (xs ys : List X) → IsPermutation xs ys → Picked xs ys
  permutation_picked xs ys h = IsPermutation-keeps xs (λ l. Picked xs l) (picked_itself xs) step ys h
    where
      step : (l : List X) (i j : ℕ) → i < length l → j < length l → Picked xs l → Picked xs (swap l i j)
      step [] i j p q k = k
      step (d ∷ l) i j p q k = picked_exchange xs (d ∷ l) i j d p q k

picks_together : {n : ℕ} (y : Process) (xs ys : List Process) → Picks y xs ys → Congruent n (together xs) (Par y (together ys))
picks_together y xs ys here = reflexive
picks_together y xs ys (there {zs = zs} {ys = us} h) = transitive (in_par reflexive (picks_together y zs us h)) exchange_front

pub picked_together : {n : ℕ} (xs ys : List Process) → Picked xs ys → Congruent n (together xs) (together ys)
picked_together xs [] h = same_process (ap together h)
picked_together xs (y ∷ ys) h = transitive (picks_together y xs h.0 h.1) (in_par reflexive (picked_together h.0 ys h.2))

-- ---- like components

pub alike_rebuilt : (n : ℕ) (a b : Components) → AreAlike n a b → Congruent n (rebuilt a) (rebuilt b)
alike_rebuilt n a b h =
    transitive (permuted n a.news h.bijection h.permutes (together a.primes))
    (transitive (same_process (ap (declare a.news) (together_renamed h.bijection a.primes)))
    (transitive (declared n a.news _ _ (picked_together _ _ (permutation_picked _ _ h.same)))
    (same_process (ap (λ m. declare m (together b.primes)) h.count))))

pub alike_congruent : (n : ℕ) (p q : Process) → AreAlike n (components n p) (components n q) → Congruent n p q
alike_congruent n p q h = transitive (rebuilds n p) (transitive (alike_rebuilt n (components n p) (components n q) h) (symmetric (rebuilds n q)))
