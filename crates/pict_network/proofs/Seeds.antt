-- What a seed chooses is one run, and there is one.
use Rattle.std.proofs.Common.{ℕ, zero, suc, ◌≡◌, ◌≢◌, ◌≤◌, ◌<◌, ◌+◌, Bool, true, false, nat_eq, List, [], ◌++◌, refl, sym, ap, ◌∙◌, subst, slice_get, arith}
use Rattle.std.proofs.lemmas.Bool.Decides.{nat_tests}
use Rattle.rand_pcg.specs.Lcg.{Lcg}
use Rattle.pict_core.specs.Term.{Process}
use Rattle.pict_core.specs.Closed.{IsClosed}
use Rattle.pict_core.specs.Step.{Label, Quiet, StepOutcome, Steps, Traps, Wrong, Finished}
use Rattle.pict_core.specs.Run as core
use Rattle.pict_core.specs.Run.{End, Done, FuelSpent, Trap, shown}
use Rattle.pict_core.proofs.OneRun.{within, no_step, one_end}
use Rattle.pict_reduction.specs.Reached.{NoFreeRunIsWrong}
use Rattle.pict_seed.specs.Stream.{generator}
use Rattle.pict_network.specs.Network.{Network, union, opening_network}
use Rattle.pict_network.specs.Events.{Happening, Moved, Stepped, Stopped, Misshapen, NoEvent, events}
use Rattle.pict_network.specs.Runs.{Chooses, at_start, by_move, by_step, SeedRuns, EndsAfter, choice, next_happening}
use Rattle.pict_network.specs.Laws.{SeedRunsAreOne, SeedsChooseRuns}
use Rattle.pict_network.proofs.Running.{there, chosen_runs, no_event_is_wrong}

-- ---- one run

record Same (s s' : ℕ) (ls ls' : List (ℕ × Label)) (M M' : Network) (h h' : Lcg) : Type 0 where
  steps : s ≡ s'
  labels : ls ≡ ls'
  network : M ≡ M'
  words : h ≡ h'

same_next : (M M' : Network) (h h' : Lcg) → M ≡ M' → h ≡ h' → next_happening M h ≡ next_happening M' h'
same_next M M' h h' d e = ap (λ z. next_happening z h) d ∙ ap (next_happening M') e

same_words : (M M' : Network) (h h' : Lcg) → M ≡ M' → h ≡ h' → (choice M h).1 ≡ (choice M' h').1
same_words M M' h h' d e = ap (λ z. (choice z h).1) d ∙ ap (λ z. (choice M' z).1) e

module _ (N : Network) (g : Lcg) where
  same_chooses : (n n' s s' : ℕ) (ls ls' : List (ℕ × Label)) (M M' : Network) (h h' : Lcg) → Chooses N g n s ls M h → Chooses N g n' s' ls' M' h' → n ≡ n' → Same s s' ls ls' M M' h h'
  same_chooses n n' s s' ls ls' M M' h h' at_start at_start e = record { steps = refl; labels = refl; network = refl; words = refl }
  same_chooses n n' s s' ls ls' M M' h h' at_start (by_move {count = k} y f) e = absurd (omega (arith, e))
  same_chooses n n' s s' ls ls' M M' h h' at_start (by_step {count = k} y f) e = absurd (omega (arith, e))
  same_chooses n n' s s' ls ls' M M' h h' (by_move {count = k} x f) at_start e = absurd (omega (arith, e))
  same_chooses n n' s s' ls ls' M M' h h' (by_step {count = k} x f) at_start e = absurd (omega (arith, e))
  same_chooses n n' s s' ls ls' M M' h h' (by_move {count = k} {M = L} {h = w} x f) (by_move {count = k'} {M = L'} {h = w'} y f') e =
      let r = same_chooses k k' s s' ls ls' L L' w w' x y (omega (arith, e)) in
      let t : Moved M ≡ Moved M' = sym f ∙ same_next L L' w w' r.network r.words ∙ f' in
      record { steps = r.steps; labels = r.labels; network = cc t; words = same_words L L' w w' r.network r.words }
  same_chooses n n' s s' ls ls' M M' h h' (by_move {count = k} {M = L} {h = w} x f) (by_step {count = k'} {steps = m'} {labels = ks'} {M = L'} {h = w'} {label = b} y f') e =
      let r = same_chooses k k' s m' ls ks' L L' w w' x y (omega (arith, e)) in
      let t : Moved M ≡ Stepped M' b = sym f ∙ same_next L L' w w' r.network r.words ∙ f' in
      cc t
  same_chooses n n' s s' ls ls' M M' h h' (by_step {count = k} {steps = m} {labels = ks} {M = L} {h = w} {label = a} x f) (by_move {count = k'} {M = L'} {h = w'} y f') e =
      let r = same_chooses k k' m s' ks ls' L L' w w' x y (omega (arith, e)) in
      let t : Stepped M a ≡ Moved M' = sym f ∙ same_next L L' w w' r.network r.words ∙ f' in
      cc t
  same_chooses n n' s s' ls ls' M M' h h' (by_step {count = k} {steps = m} {labels = ks} {M = L} {h = w} {label = a} x f) (by_step {count = k'} {steps = m'} {labels = ks'} {M = L'} {h = w'} {label = b} y f') e =
      let r = same_chooses k k' m m' ks ks' L L' w w' x y (omega (arith, e)) in
      let t : Stepped M a ≡ Stepped M' b = sym f ∙ same_next L L' w w' r.network r.words ∙ f' in
      let l : a ≡ b = cc t in
      record {
        steps = ap (λ z. z + 1) r.steps;
        labels = ap (λ z. z ++ shown (m + 1) a) r.labels ∙ ap (λ z. ks' ++ shown (z + 1) a) r.steps ∙ ap (λ z. ks' ++ shown (m' + 1) z) l;
        network = cc t;
        words = same_words L L' w w' r.network r.words;
      }

  -- before its end a run goes on
  abbrev GoesOn : Happening → Type 0
  GoesOn (Moved M) = Unit {0}
  GoesOn (Stepped M label) = Unit {0}
  GoesOn (Stopped at) = ⊥
  GoesOn Misshapen = ⊥
  GoesOn NoEvent = ⊥

  record Stage (n : ℕ) : Type 0 where
    steps : ℕ
    labels : List (ℕ × Label)
    at : Network
    words : Lcg
    chooses : Chooses N g n steps labels at words
    goes : GoesOn (next_happening at words)

  here : (n k s : ℕ) (ls : List (ℕ × Label)) (L : Network) (w : Lcg) → Chooses N g k s ls L w → GoesOn (next_happening L w) → n < k + 1 → (n < k → Stage n) → Stage n
  here n k s ls L w x a l earlier = at (nat_eq n k) refl
    where
      at : (b : Bool) → nat_eq n k ≡ b → Stage n
      at true e = let same : k ≡ n = grind (arith, nat_tests) in record { steps = s; labels = ls; at = L; words = w; chooses = subst (λ z. Chooses N g z s ls L w) same x; goes = a }
      at false e = let other : n ≢ k = grind (arith, nat_tests) in earlier (omega arith)

  stage : (n n' s' : ℕ) (ls' : List (ℕ × Label)) (M' : Network) (h' : Lcg) → Chooses N g n' s' ls' M' h' → n < n' → Stage n
  stage n n' s' ls' M' h' at_start l = absurd (omega (arith, l))
  stage n n' s' ls' M' h' (by_move {count = k} {M = L} {h = w} x f) l = here n k s' ls' L w x (subst GoesOn (sym f) tt) l (λ e. stage n k s' ls' L w x e)
  stage n n' s' ls' M' h' (by_step {count = k} {steps = m} {labels = ks} {M = L} {h = w} {label = a} x f) l = here n k m ks L w x (subst GoesOn (sym f) tt) l (λ e. stage n k m ks L w x e)

-- what happens, as an outcome of a step
abbrev outcome_of : Happening → StepOutcome
outcome_of (Moved M) = Steps (union M) Quiet
outcome_of (Stepped M label) = Steps (union M) label
outcome_of (Stopped at) = Traps at
outcome_of Misshapen = Wrong
outcome_of NoEvent = Finished

not_finished : (o : Happening) → o ≢ NoEvent → outcome_of o ≢ Finished
not_finished (Moved M) n e = cc
not_finished (Stepped M label) n e = cc
not_finished (Stopped at) n e = cc
not_finished Misshapen n e = cc
not_finished NoEvent n e = n refl

ends_so : (fuel count : ℕ) (o : Happening) (end : End) → EndsAfter fuel count o end → core.EndsAfter fuel count (outcome_of o) end
ends_so fuel count o Done e = (e.0, ap outcome_of e.1)
ends_so fuel count o FuelSpent e = (e.0, not_finished o e.1)
ends_so fuel count o (Trap at) e = (e.0, ap outcome_of e.1)
ends_so fuel count o core.Misshapen e = (e.0, ap outcome_of e.1)

no_end : (N : Network) (g : Lcg) (fuel count : ℕ) (o : Happening) (end : End) → EndsAfter fuel count o end → count < fuel → GoesOn N g o → ⊥
no_end N g fuel count (Moved M) end e l a = no_step fuel count (outcome_of (Moved M)) end (ends_so fuel count (Moved M) end e) l (union M) Quiet refl
no_end N g fuel count (Stepped M label) end e l a = no_step fuel count (outcome_of (Stepped M label)) end (ends_so fuel count (Stepped M label) end e) l (union M) label refl
no_end N g fuel count (Stopped at) end e l a = a
no_end N g fuel count Misshapen end e l a = a
no_end N g fuel count NoEvent end e l a = a

not_longer : (others : ℕ) (p : Process) (seed fuel : ℕ) (end other : End) (labels shown : List (ℕ × Label)) (r : SeedRuns others p seed fuel end labels) (s : SeedRuns others p seed fuel other shown) → r.count < s.count → ⊥
not_longer others p seed fuel end other labels shown r s l =
    let N : Network = opening_network others p in
    let g : Lcg = generator seed in
    let at = stage N g r.count s.count s.steps shown s.last s.after s.chooses l in
    let same = same_chooses N g r.count r.count at.steps r.steps at.labels labels at.at r.last at.words r.after at.chooses r.chooses refl in
    let room : s.count ≤ fuel = within fuel s.count (outcome_of (next_happening s.last s.after)) other (ends_so fuel s.count (next_happening s.last s.after) other s.ends) in
    no_end N g fuel r.count (next_happening r.last r.after) end r.ends (omega (arith, room, l))
    (subst (GoesOn N g) (same_next at.at r.last at.words r.after same.network same.words) at.goes)

pub seed_runs_are_one : SeedRunsAreOne
seed_runs_are_one others p seed fuel end other labels shown r s =
    let a : r.count < s.count → ⊥ = not_longer others p seed fuel end other labels shown r s in
    let b : s.count < r.count → ⊥ = not_longer others p seed fuel other end shown labels s r in
    let count : r.count ≡ s.count = omega arith in
    let same = same_chooses (opening_network others p) (generator seed) r.count s.count r.steps s.steps labels shown r.last s.last r.after s.after r.chooses s.chooses count in
    let here : next_happening r.last r.after ≡ next_happening s.last s.after = same_next r.last s.last r.after s.after same.network same.words in
    let e : EndsAfter fuel s.count (next_happening s.last s.after) end =
    subst (λ z. EndsAfter fuel z (next_happening s.last s.after) end) count (subst (λ z. EndsAfter fuel r.count z end) here r.ends) in (
      one_end fuel s.count (outcome_of (next_happening s.last s.after)) end other (ends_so fuel s.count (next_happening s.last s.after) end e) (ends_so fuel s.count (next_happening s.last s.after) other s.ends),
      same.labels,
      count,
      same.steps,
      same.network,
    )

-- ---- some run

module _ (others : ℕ) (p : Process) (seed fuel : ℕ) (u : IsClosed p) (right : NoFreeRunIsWrong p) where
  abbrev N : Network
  N = opening_network others p

  abbrev HasRun : Type 0
  HasRun = (end : End) × (labels : List (ℕ × Label)) × SeedRuns others p seed fuel end labels × (end ≢ core.Misshapen)

  abbrev Leads : ℕ → ℕ → List (ℕ × Label) → Network → Lcg → Type 0
  Leads count steps labels M h = Chooses N (generator seed) count steps labels M h

  not_wrong : (count steps : ℕ) (labels : List (ℕ × Label)) (M : Network) (h : Lcg) → Leads count steps labels M h → next_happening M h ≡ Misshapen → ⊥
  not_wrong count steps labels M h on e =
      let r = chosen_runs N (generator seed) count steps labels M h on in
      let x = there M (slice_get (events M) (choice M h).0) Misshapen e (λ z. cc z) in
      no_event_is_wrong others p r.events steps labels M x.0 u right r.runs x.1

  done : (count steps : ℕ) (labels : List (ℕ × Label)) (M : Network) (h : Lcg) → Leads count steps labels M h → count ≤ fuel → next_happening M h ≡ NoEvent → HasRun
  done count steps labels M h on l e = (Done, labels, record { count = count; steps = steps; last = M; after = h; chooses = on; ends = (l, e) }, (λ k. cc))

  spent : (count steps : ℕ) (labels : List (ℕ × Label)) (M : Network) (h : Lcg) → Leads count steps labels M h → count ≡ fuel → next_happening M h ≢ NoEvent → HasRun
  spent count steps labels M h on l n = (FuelSpent, labels, record { count = count; steps = steps; last = M; after = h; chooses = on; ends = (l, n) }, (λ k. cc))

  last_there : (count steps : ℕ) (labels : List (ℕ × Label)) (M : Network) (h : Lcg) → Leads count steps labels M h → count ≡ fuel → (o : Happening) → next_happening M h ≡ o → HasRun
  last_there count steps labels M h on l NoEvent e = done count steps labels M h on (omega (arith, l)) e
  last_there count steps labels M h on l (Moved K) e = spent count steps labels M h on l (λ k. let z : Moved K ≡ NoEvent = sym e ∙ k in cc)
  last_there count steps labels M h on l (Stepped K label) e = spent count steps labels M h on l (λ k. let z : Stepped K label ≡ NoEvent = sym e ∙ k in cc)
  last_there count steps labels M h on l (Stopped at) e = spent count steps labels M h on l (λ k. let z : Stopped at ≡ NoEvent = sym e ∙ k in cc)
  last_there count steps labels M h on l Misshapen e = spent count steps labels M h on l (λ k. let z : Misshapen ≡ NoEvent = sym e ∙ k in cc)

  goes_on : (count steps : ℕ) (labels : List (ℕ × Label)) (M : Network) (h : Lcg) → Leads count steps labels M h → count < fuel
      → ((s : ℕ) (ls : List (ℕ × Label)) (K : Network) (w : Lcg) → Leads (count + 1) s ls K w → HasRun) → (o : Happening) → next_happening M h ≡ o → HasRun
  goes_on count steps labels M h on l more NoEvent e = done count steps labels M h on (omega (arith, l)) e
  goes_on count steps labels M h on l more (Moved K) e = more steps labels K (choice M h).1 (by_move on e)
  goes_on count steps labels M h on l more (Stepped K label) e = more (steps + 1) (labels ++ shown (steps + 1) label) K (choice M h).1 (by_step on e)
  goes_on count steps labels M h on l more (Stopped at) e = (Trap at, labels, record { count = count; steps = steps; last = M; after = h; chooses = on; ends = (l, e) }, (λ k. cc))
  goes_on count steps labels M h on l more Misshapen e = absurd (not_wrong count steps labels M h on e)

  go : (left count steps : ℕ) (labels : List (ℕ × Label)) (M : Network) (h : Lcg) → Leads count steps labels M h → count + left ≡ fuel → HasRun
  go zero count steps labels M h on l = last_there count steps labels M h on (omega (arith, l)) (next_happening M h) refl
  go (suc left) count steps labels M h on l =
      goes_on count steps labels M h on (omega (arith, l)) (λ s ls K w x. go left (count + 1) s ls K w x (omega (arith, l))) (next_happening M h) refl

pub seeds_choose_runs : SeedsChooseRuns
seeds_choose_runs others p seed fuel u right = go others p seed fuel u right fuel 0 0 [] (opening_network others p) (generator seed) at_start (omega arith)
