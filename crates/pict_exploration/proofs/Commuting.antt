-- A reduction of one process by itself commutes with each other reduction.
use Rattle.std.proofs.Common.{ℕ, zero, suc, ◌+◌, ◌≡◌, ◌⊎◌, inl, inr, Bool, true, false, List, [], ◌∷◌, ◌++◌, refl, sym, ap, ◌∙◌, subst, arith, Some}
use Rattle.std.specs.Prelude.{if◌then◌else◌}
use Rattle.std.proofs.lemmas.List.Sorted.{IsPermutation-refl}
use Rattle.pict_syntax.specs.declared.span.Span.{Span}
use Rattle.pict_core.specs.Term.{Val, Pat, Process, Boolean, PrimitiveVal, Par, New, Out, In, If}
use Rattle.pict_core.specs.Primitives.{Effect, effect_of}
use Rattle.pict_core.proofs.Replacing.{two}
use Rattle.pict_reduction.specs.Congruence.{Congruent, reflexive, symmetric, transitive, in_par, unit, associative}
use Rattle.pict_reduction.specs.Reduction.{IsName, left_by, bytes_printed, Reduces}
use Rattle.pict_reduction.specs.Reduction as rule
use Rattle.pict_reduction.specs.Reading.{declare}
use Rattle.pict_reduction.specs.Components.{components}
use Rattle.pict_reduction.specs.Redex.{Fires, communicates, serves, chooses, performs, left_beside, Reacts}
use Rattle.pict_reduction.proofs.Reductions.{same_process, exchange_front}
use Rattle.pict_reduction.proofs.Firing.{reductions_are_reactions}
use Rattle.pict_reduction.proofs.Rebuilding.{together, rebuilds, declared, left_rebuilt, alike_rebuilt, Picks, here, there, Picked, permutation_picked, picked_together}
use Rattle.pict_exploration.specs.Alone.{IsByItself, ReducesAlone}
use Rattle.pict_exploration.specs.Laws.{Joins, AloneCommutes}
use Rattle.pict_exploration.proofs.Redexes.{FiresAlone, fires_by_itself}

-- ---- two picks from one list

module _ {X : Type 0} where
  -- they are one pick, or each is left by the other
  pub picks_two : (x y : X) (xs zs ws : List X) → Picks x xs zs → Picks y xs ws → ((x ≡ y) × (zs ≡ ws)) ⊎ ((vs : List X) × Picks y zs vs × Picks x ws vs)
  picks_two x y xs zs ws here here = inl (refl, refl)
  picks_two x y xs zs ws here (there {ys = us} k) = inr (us, k, here)
  picks_two x y xs zs ws (there {ys = us} h) here = inr (us, here, h)
  picks_two x y xs zs ws (there {z = z} {zs = xs'} {ys = us} h) (there {ys = ts} k) = more (picks_two x y xs' us ts h k)
    where
      more : ((x ≡ y) × (us ≡ ts)) ⊎ ((vs : List X) × Picks y us vs × Picks x ts vs) → ((x ≡ y) × (z ∷ us ≡ z ∷ ts)) ⊎ ((vs : List X) × Picks y (z ∷ us) vs × Picks x (z ∷ ts) vs)
      more (inl e) = inl (e.0, ap (λ l. z ∷ l) e.1)
      more (inr r) = inr (z ∷ r.0, there r.1, there r.2)

picked_itself : (xs : List Process) → Picked xs xs
picked_itself xs = permutation_picked xs xs (IsPermutation-refl xs)

-- ---- what is left

-- a process reduces to what its redex leaves, beside the others
leaves : (n : ℕ) (bytes : List ℕ) (p q : Process) (r : Reacts n bytes (components n p) (components n q)) → Congruent n q (declare (components n p).news (Par r.residual (together r.rest)))
leaves n bytes p q r =
    transitive (rebuilds n q)
    (transitive (alike_rebuilt n (components n q) (left_beside (n + (components n p).news) (components n p).news r.residual r.rest) r.left)
    (left_rebuilt n (components n p).news r.residual r.rest))

-- ---- redexes, as processes beside each other

pub fires_reduces : (m : ℕ) (bytes : List ℕ) (redex : List Process) (residual : Process) → Fires m bytes redex residual → Reduces m bytes (together redex) residual
fires_reduces m bytes redex residual (communicates name e) = rule.up_to (in_par reflexive unit) (rule.communicates name e) reflexive
fires_reduces m bytes redex residual (serves name e) = rule.up_to (in_par reflexive unit) (rule.serves name e) reflexive
fires_reduces m bytes redex residual chooses = rule.up_to unit rule.chooses reflexive
fires_reduces m bytes redex residual (performs e h) = rule.up_to unit (rule.performs e h) reflexive

fires_alone : (m : ℕ) (bytes : List ℕ) (x : Process) (redex : List Process) (residual : Process) → redex ≡ x ∷ [] → (h : Fires m bytes redex residual) → IsByItself (fires_reduces m bytes redex residual h)
unfolding fires_reduces
fires_alone m bytes x redex residual e (communicates name h) = cc
fires_alone m bytes x redex residual e (serves name h) = cc
fires_alone m bytes x redex residual e chooses = tt
fires_alone m bytes x redex residual e (performs k h) = tt

-- under declared variables
reduces_declared : (n k : ℕ) (bytes : List ℕ) (p q : Process) → Reduces (n + k) bytes p q → Reduces n bytes (declare k p) (declare k q)
reduces_declared n zero bytes p q h = let e : n + 0 ≡ n = omega arith in subst (λ m. Reduces m bytes p q) e h
reduces_declared n (suc k) bytes p q h = let e : n + suc k ≡ suc (n + k) = omega arith in reduces_declared n k bytes (New p) (New q) (rule.in_new (subst (λ m. Reduces m bytes p q) e h))

pub alone_declared : (n k : ℕ) (p q : Process) → ReducesAlone (n + k) p q → ReducesAlone n (declare k p) (declare k q)
alone_declared n zero p q h = let e : n + 0 ≡ n = omega arith in subst (λ m. ReducesAlone m p q) e h
alone_declared n (suc k) p q h =
    let e : n + suc k ≡ suc (n + k) = omega arith in
    let under : ReducesAlone (suc (n + k)) p q = subst (λ m. ReducesAlone m p q) e h in
    alone_declared n k (New p) (New q) (record { reduces = rule.in_new under.reduces; alone = under.alone })

pub alone_beside : {n : ℕ} {p q r : Process} → ReducesAlone n p q → ReducesAlone n (Par p r) (Par q r)
alone_beside h = record { reduces = rule.in_par h.reduces; alone = h.alone }

pub alone_up_to : {n : ℕ} {p p' q q' : Process} → Congruent n p p' → ReducesAlone n p' q' → Congruent n q' q → ReducesAlone n p q
alone_up_to c h d = record { reduces = rule.up_to c h.reduces d; alone = h.alone }

-- ---- one process by itself, and another redex

-- an output or input at a name is no conditional, and no output to a primitive
no_output : (m : ℕ) (bytes : List ℕ) (x w v : Val) (at : Span) (y : Process) (redex : List Process) (residual : Process) → IsName w → y ≡ Out w v at → redex ≡ y ∷ [] → Fires m bytes redex residual → ⊥
no_output m bytes x w v at y redex residual name f e (communicates k h) = cc
no_output m bytes x w v at y redex residual name f e (serves k h) = cc
no_output m bytes x w v at y redex residual name f e chooses = cc
no_output m bytes x w v at y redex residual rule.variable f e (performs k h) = cc
no_output m bytes x w v at y redex residual rule.channel f e (performs k h) = cc

no_input : (m : ℕ) (bytes : List ℕ) (w : Val) (b : Bool) (pattern : Pat) (body y : Process) (redex : List Process) (residual : Process) → y ≡ In w b pattern body → redex ≡ y ∷ [] → Fires m bytes redex residual → ⊥
no_input m bytes w b pattern body y redex residual f e (communicates k h) = cc
no_input m bytes w b pattern body y redex residual f e (serves k h) = cc
no_input m bytes w b pattern body y redex residual f e chooses = cc
no_input m bytes w b pattern body y redex residual f e (performs k h) = cc

-- one process by itself leaves one process, and prints the same bytes
abbrev SameLeft : List ℕ → List ℕ → Process → Process → Type 0
SameLeft bytes more p q = (bytes ≡ more) × (p ≡ q)

same_left : (m : ℕ) (bytes more : List ℕ) (redex others : List Process) (y p q : Process) → redex ≡ y ∷ [] → others ≡ y ∷ [] → Fires m bytes redex p → Fires m more others q → SameLeft bytes more p q
same_left m bytes more redex others y p q e f (communicates k h) d = cc
same_left m bytes more redex others y p q e f (serves k h) d = cc
same_left m bytes more redex others y p q e f chooses (communicates k h) = cc
same_left m bytes more redex others y p q e f chooses (serves k h) = cc
same_left m bytes more redex others y p q e f (chooses {b = b} {p = u} {q = v}) (chooses {b = c} {p = u'} {q = v'}) =
    let g : b ≡ c = cc in
    let h : u ≡ u' = cc in
    let k : v ≡ v' = cc in
    (refl, ap (λ (a : Bool). if a then u else v) g ∙ two (λ (s : Process) (t : Process). if c then s else t) h k)
same_left m bytes more redex others y p q e f chooses (performs k h) = cc
same_left m bytes more redex others y p q e f (performs k h) (communicates i j) = cc
same_left m bytes more redex others y p q e f (performs k h) (serves i j) = cc
same_left m bytes more redex others y p q e f (performs k h) chooses = cc
same_left m bytes more redex others y p q e f (performs {f = g} {v = v} {at = at} {effect = effect} k h) (performs {f = g'} {v = v'} {at = at'} {effect = effect'} i j) =
    let s : g ≡ g' = cc in
    let t : v ≡ v' = cc in
    let u : at ≡ at' = cc in
    let some : Some effect ≡ Some effect' = sym k ∙ two effect_of s t ∙ i in
    let w : effect ≡ effect' = cc in
    let left : Some p ≡ Some q = sym h ∙ two (λ (a : Span) (x : Effect). left_by a x.leaves) u w ∙ j in
    let z : p ≡ q = cc in
    (ap (λ (x : Effect). bytes_printed x.printed) w, z)

-- The other redex is that process; or it stands among what the first leaves, and the first among what it leaves.
data Stand (m : ℕ) (x : Process) (first_left : List Process) (redex left : List Process) : Type 0 where
  one : redex ≡ x ∷ [] → Congruent m (together first_left) (together left) → Stand m x first_left redex left
  apart : (both : Process) → Congruent m (together first_left) (Par (together redex) both) → Congruent m (together left) (Par (together (x ∷ [])) both) → Stand m x first_left redex left

module _ (m : ℕ) (bytes : List ℕ) (x residual : Process) (xs rest : List Process) (fires : Fires m bytes (x ∷ []) residual) (picked : Picked xs (x ∷ rest)) where
  rest_is : Congruent m (together rest) (together picked.0)
  rest_is = symmetric (picked_together picked.0 rest picked.2)

  -- the other redex is one process
  with_one : (y : Process) (left : List Process) → Picked xs (y ∷ left) → Stand m x rest (y ∷ []) left
  with_one y left h = go (picks_two x y xs picked.0 h.0 picked.1 h.1)
    where
      go : ((x ≡ y) × (picked.0 ≡ h.0)) ⊎ ((vs : List Process) × Picks y picked.0 vs × Picks x h.0 vs) → Stand m x rest (y ∷ []) left
      go (inl e) = one (ap (λ z. z ∷ []) (sym e.0)) (transitive rest_is (transitive (same_process (ap together e.1)) (picked_together h.0 left h.2)))
      go (inr r) =
          apart (together r.0)
          (transitive rest_is (transitive (picked_together picked.0 (y ∷ r.0) (r.0, r.1, picked_itself r.0)) (in_par (symmetric unit) reflexive)))
          (transitive (symmetric (picked_together h.0 left h.2)) (transitive (picked_together h.0 (x ∷ r.0) (r.0, r.2, picked_itself r.0)) (in_par (symmetric unit) reflexive)))

  -- it is two
  with_two : (y z : Process) (left : List Process) → (x ≡ y → ⊥) → (x ≡ z → ⊥) → Picked xs (y ∷ z ∷ left) → Stand m x rest (y ∷ z ∷ []) left
  with_two y z left no_y no_z h = first (picks_two x y xs picked.0 h.0 picked.1 h.1)
    where
      second : (vs : List Process) → Picks y picked.0 vs → ((x ≡ z) × (vs ≡ h.2.0)) ⊎ ((us : List Process) × Picks z vs us × Picks x h.2.0 us) → Stand m x rest (y ∷ z ∷ []) left
      second vs k (inl e) = absurd (no_z e.0)
      second vs k (inr r) =
          apart (together r.0)
          (transitive rest_is (transitive (picked_together picked.0 (y ∷ z ∷ r.0) (vs, k, (r.0, r.1, picked_itself r.0)))
          (transitive (symmetric associative) (in_par (in_par reflexive (symmetric unit)) reflexive))))
          (transitive (symmetric (picked_together h.2.0 left h.2.2)) (transitive (picked_together h.2.0 (x ∷ r.0) (r.0, r.2, picked_itself r.0)) (in_par (symmetric unit) reflexive)))

      first : ((x ≡ y) × (picked.0 ≡ h.0)) ⊎ ((vs : List Process) × Picks y picked.0 vs × Picks x h.0 vs) → Stand m x rest (y ∷ z ∷ []) left
      first (inl e) = absurd (no_y e.0)
      first (inr r) = second r.0 r.1 (picks_two x z h.0 r.0 h.2.0 r.2 h.2.1)

  stands : (more : List ℕ) (redex left : List Process) (other : Process) → Fires m more redex other → Picked xs (redex ++ left) → Stand m x rest redex left
  stands more redex left other (communicates {x = w} {v = v} {at = at} {pattern = pattern} {body = body} name h) k =
      with_two (Out w v at) (In w false pattern body) left (λ e. no_output m bytes w w v at x (x ∷ []) residual name e refl fires) (λ e. no_input m bytes w false pattern body x (x ∷ []) residual e refl fires) k
  stands more redex left other (serves {x = w} {v = v} {at = at} {pattern = pattern} {body = body} name h) k =
      with_two (Out w v at) (In w true pattern body) left (λ e. no_output m bytes w w v at x (x ∷ []) residual name e refl fires) (λ e. no_input m bytes w true pattern body x (x ∷ []) residual e refl fires) k
  stands more redex left other (chooses {b = b} {p = p} {q = q}) k = with_one (If (Boolean b) p q) left k
  stands more redex left other (performs {f = f} {v = v} {at = at} e h) k = with_one (Out (PrimitiveVal f) v at) left k

-- ---- they commute

module _ (n : ℕ) (bytes : List ℕ) (p q r : Process) (alone : ReducesAlone n p q) (other : Reduces n bytes p r) where
  first : FiresAlone n [] p q
  first = fires_by_itself n [] p q alone.reduces alone.alone

  second : Reacts n bytes (components n p) (components n r)
  second = reductions_are_reactions n bytes p r other

  commute_at : Stand (n + (components n p).news) first.acting first.rest second.redex second.rest → Joins n bytes q r
  commute_at (one f c) =
      let s = same_left (n + (components n p).news) [] bytes (first.acting ∷ []) second.redex first.acting first.residual second.residual refl f first.fires second.fires in
      inl (sym s.0, transitive first.left (transitive (declared n (components n p).news _ _ (in_par (same_process s.1) c)) (symmetric (leaves n bytes p r second))))
  commute_at (apart both c d) =
      let m = n + (components n p).news in
      let last : Process = declare (components n p).news (Par second.residual (Par first.residual both)) in
      let q_is : Congruent n q (declare (components n p).news (Par (together second.redex) (Par first.residual both))) =
      transitive first.left (declared n (components n p).news _ _ (transitive (in_par reflexive c) exchange_front)) in
      let r_is : Congruent n r (declare (components n p).news (Par (together (first.acting ∷ [])) (Par second.residual both))) =
      transitive (leaves n bytes p r second) (declared n (components n p).news _ _ (transitive (in_par reflexive d) exchange_front)) in
      let fires : ReducesAlone m (together (first.acting ∷ [])) first.residual =
      record { reduces = fires_reduces m [] (first.acting ∷ []) first.residual first.fires; alone = fires_alone m [] first.acting (first.acting ∷ []) first.residual refl first.fires } in
      inr (
        last,
        rule.up_to q_is (reduces_declared n (components n p).news bytes _ _ (rule.in_par (fires_reduces m bytes second.redex second.residual second.fires))) reflexive,
        alone_up_to r_is (alone_declared n (components n p).news _ _ (alone_beside fires)) (declared n (components n p).news _ _ exchange_front),
      )

  commute : Joins n bytes q r
  commute =
      commute_at (stands (n + (components n p).news) [] first.acting first.residual (components n p).primes first.rest first.fires (permutation_picked _ _ first.chosen)
      bytes second.redex second.rest second.residual second.fires (permutation_picked _ _ second.chosen))

pub alone_commutes : AloneCommutes
alone_commutes n bytes p q r h k = commute n bytes p q r h k
