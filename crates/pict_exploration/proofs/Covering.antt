-- Explorations cover runs and reductions.
use Rattle.std.proofs.Common.{ℕ, ◌+◌, ◌≡◌, ◌⊎◌, inl, inr, List, [], ◌∷◌, ◌++◌, length, append-nil, append_assoc, refl, sym, ap, ◌∙◌, subst}
use Rattle.pict_core.specs.Term.{Process}
use Rattle.pict_core.specs.Closed.{IsClosed}
use Rattle.pict_core.specs.Configuration.{Configuration, opening}
use Rattle.pict_core.specs.Step.{Label, Quiet, Comm, Print, step_by}
use Rattle.pict_core.specs.Run.{shown, printed_by, bytes_of}
use Rattle.pict_core.specs.Places.{Place}
use Rattle.pict_core.specs.FreeRun.{FreelyRuns}
use Rattle.pict_core.specs.FreeRun as run
use Rattle.pict_core.proofs.Placing.{places_are_free}
use Rattle.pict_core.proofs.Everywhere.{choices_have_places}
use Rattle.pict_reduction.specs.Congruence.{Congruent, reflexive, symmetric, transitive}
use Rattle.pict_reduction.specs.Reduction.{Reduces, up_to}
use Rattle.pict_reduction.specs.Reading.{reading}
use Rattle.pict_reduction.specs.Silent.{SilentlyReaches}
use Rattle.pict_reduction.specs.Silent as silent
use Rattle.pict_reduction.proofs.Apart.{IsReached, opening_reached, step_reached}
use Rattle.pict_reduction.proofs.Reductions.{steps_are_reductions}
use Rattle.pict_reduction.proofs.Exhausting.{exhausted}
use Rattle.pict_reduction.proofs.Reaching.{one_step}
use Rattle.pict_exploration.specs.Alone.{ReducesAlone, SettlesTo}
use Rattle.pict_exploration.specs.Alone as settle
use Rattle.pict_exploration.specs.Explored.{FreelyPrints, ReducesTo, Vertex, Has, IsReachedByChoices, IsFoundAs, IsFoundSettled, Explores}
use Rattle.pict_exploration.specs.Laws.{Joins, PrintingsHavePlaces, FoundIsReduced, ExplorationsCoverRuns, ExplorationsCoverReductions, RunsGoOnToFound}
use Rattle.pict_exploration.specs.Explored as cover
use Rattle.pict_exploration.proofs.Commuting.{alone_up_to, alone_commutes}

pub prints_reached : (p : Process) → IsClosed p → (bytes : List ℕ) (C : Configuration) → FreelyPrints (opening p) bytes C → IsReached C
prints_reached p u bytes C cover.at_start = opening_reached p u
prints_reached p u bytes C (cover.by_step {D = D} {bytes = b} {choice = choice} {label = label} h free) = step_reached D choice C label (prints_reached p u b D h) free

up_to_congruence : {n : ℕ} {p q r : Process} {bytes : List ℕ} → ReducesTo n p bytes q → Congruent n q r → ReducesTo n p bytes r
up_to_congruence (cover.at_start c) d = cover.at_start (transitive c d)
up_to_congruence (cover.by_reduction h k) d = cover.by_reduction h (up_to reflexive k d)

step_reduces : (p : Process) (C D : Configuration) (bytes : List ℕ) (label : Label) → ReducesTo 0 p bytes (reading C) → (Congruent 0 (reading C) (reading D) × (printed_by label ≡ [])) ⊎ Reduces 0 (printed_by label) (reading C) (reading D) → ReducesTo 0 p (bytes ++ printed_by label) (reading D)
step_reduces p C D bytes label h (inl c) = subst (λ b. ReducesTo 0 p b (reading D)) (sym (ap (λ b. bytes ++ b) c.1 ∙ append-nil bytes)) (up_to_congruence h c.0)
step_reduces p C D bytes label h (inr r) = cover.by_reduction h r

run_reduces : (p : Process) → IsClosed p → (bytes : List ℕ) (C : Configuration) → FreelyPrints (opening p) bytes C → ReducesTo 0 (reading (opening p)) bytes (reading C)
run_reduces p u bytes C cover.at_start = cover.at_start reflexive
run_reduces p u bytes C (cover.by_step {D = D} {bytes = b} {choice = choice} {label = label} h free) =
    step_reduces (reading (opening p)) D C b label (run_reduces p u b D h) (steps_are_reductions D choice C label (prints_reached p u b D h).is free)

-- ---- steps by place

bytes_behind : (ls ks : List (ℕ × Label)) → bytes_of (ls ++ ks) ≡ bytes_of ls ++ bytes_of ks
bytes_behind [] ks = refl
bytes_behind (l ∷ ls) ks = ap (λ b. printed_by l.1 ++ b) (bytes_behind ls ks) ∙ sym (append_assoc (printed_by l.1) (bytes_of ls) (bytes_of ks))

bytes_shown : (k : ℕ) (label : Label) → bytes_of (shown k label) ≡ printed_by label
bytes_shown k Quiet = refl
bytes_shown k (Comm c v) = refl
bytes_shown k (Print bytes) = append-nil bytes

bytes_after : (ls : List (ℕ × Label)) (k : ℕ) (label : Label) → bytes_of (ls ++ shown k label) ≡ bytes_of ls ++ printed_by label
bytes_after ls k label = bytes_behind ls (shown k label) ∙ ap (λ b. bytes_of ls ++ b) (bytes_shown k label)

places_print : (p : Process) → IsClosed p → (places : List Place) (labels : List (ℕ × Label)) (C : Configuration) → FreelyRuns (opening p) places labels C → FreelyPrints (opening p) (bytes_of labels) C
places_print p u places labels C run.at_start = cover.at_start
places_print p u places labels C (run.by_step {places = ps} {labels = ls} {D = D} {place = place} {label = label} h is steps) =
    let before : FreelyPrints (opening p) (bytes_of ls) D = places_print p u ps ls D h in
    let free = places_are_free D C place label (prints_reached p u (bytes_of ls) D before).is is steps in
    subst (λ b. FreelyPrints (opening p) b C) (sym (bytes_after ls (length ps + 1) label)) (cover.by_step before free.1)

abbrev RunsBy : Process → List ℕ → Configuration → Type 0
RunsBy p bytes C = (places : List Place) × (labels : List (ℕ × Label)) × FreelyRuns (opening p) places labels C × (bytes_of labels ≡ bytes)

prints_by : (p : Process) (bytes : List ℕ) (C : Configuration) → FreelyPrints (opening p) bytes C → RunsBy p bytes C
prints_by p bytes C cover.at_start = ([], [], run.at_start, refl)
prints_by p bytes C (cover.by_step {D = D} {bytes = b} {choice = choice} {label = label} h free) =
    let f = prints_by p b D h in
    let c = choices_have_places D choice free.chosen in (
      f.0 ++ c.0 ∷ [],
      f.1 ++ shown (length f.0 + 1) label,
      run.by_step f.2 c.1 (ap (step_by D) c.2 ∙ free.steps),
      bytes_after f.1 (length f.0 + 1) label ∙ ap (λ y. y ++ printed_by label) f.3,
    )

pub printings_have_places : PrintingsHavePlaces
printings_have_places p bytes C u =
    (prints_by p bytes C, λ r. subst (λ b. FreelyPrints (opening p) b C) r.3 (places_print p u r.0 r.1 C r.2))

-- ---- explorations

pub reached_prints : (p : Process) → IsClosed p → (v : Vertex) → IsReachedByChoices p v → FreelyPrints (opening p) v.bytes v.configuration
reached_prints p u v r = subst (λ b. FreelyPrints (opening p) b v.configuration) r.prints (places_print p u v.choices r.labels v.configuration r.runs)

pub found_is_reduced : FoundIsReduced
found_is_reduced p F u x v h = run_reduces p u v.bytes v.configuration (reached_prints p u v (x.reached v h))

-- ---- what settles goes on

settles_same : {p q r : Process} → Congruent 0 p q → SettlesTo 0 q r → SettlesTo 0 p r
settles_same c (settle.at_end d) = settle.at_end (transitive c d)
settles_same c (settle.by_reduction h k) = settle.by_reduction (alone_up_to c h reflexive) k

pub settles_then : {p q r : Process} → SettlesTo 0 p q → SettlesTo 0 q r → SettlesTo 0 p r
settles_then (settle.at_end c) k = settles_same c k
settles_then (settle.by_reduction h k) l = settle.by_reduction h (settles_then k l)

-- Where p settles to q and reduces to r, r settles to q, and nothing was printed; or it settles to what q reduces to.
abbrev CatchesUp : List ℕ → Process → Process → Type 0
CatchesUp bytes q r = ((bytes ≡ []) × SettlesTo 0 r q) ⊎ ((s : Process) × Reduces 0 bytes q s × SettlesTo 0 r s)

catches_up : (bytes : List ℕ) (p q r : Process) → SettlesTo 0 p q → Reduces 0 bytes p r → CatchesUp bytes q r
catches_up bytes p q r (settle.at_end c) k = inr (r, up_to (symmetric c) k reflexive, settle.at_end reflexive)
catches_up bytes p q r (settle.by_reduction {q = m} h rest) k = first (alone_commutes 0 bytes p m r h k) (λ s l. catches_up bytes m q s rest l)
  where
    later : (s : Process) → ReducesAlone 0 r s → CatchesUp bytes q s → CatchesUp bytes q r
    later s a (inl e) = inl (e.0, settle.by_reduction a e.1)
    later s a (inr u) = inr (u.0, u.1, settle.by_reduction a u.2)

    first : Joins 0 bytes m r → ((s : Process) → Reduces 0 bytes m s → CatchesUp bytes q s) → CatchesUp bytes q r
    first (inl e) ih = inl (e.0, settles_same (symmetric e.1) rest)
    first (inr u) ih = later u.0 u.2 (ih u.0 u.1)

-- ---- what explorations cover

covers_one : (p : Process) (F : List Vertex) → IsClosed p → Explores p F → (q r : Process) (bytes more : List ℕ) (f : IsFoundSettled F bytes q) → CatchesUp more (reading f.vertex.configuration) r → IsFoundSettled F (bytes ++ more) r
covers_one p F u x q r bytes more f (inl e) = record { vertex = f.vertex; is = f.is; printed = f.printed ∙ sym (append-nil bytes) ∙ sym (ap (λ y. bytes ++ y) e.0); settles = e.1 }
covers_one p F u x q r bytes more f (inr c) =
    let v = f.vertex in
    let C = v.configuration in
    let before : FreelyPrints (opening p) v.bytes C = reached_prints p u v (x.reached v f.is) in
    let s = one_step C (prints_reached p u v.bytes C before) (x.still v f.is) more c.0 c.1 in
    let g = x.steps v s.1 s.0 s.2 f.is s.3 in
    record { vertex = g.vertex; is = g.is; printed = g.printed ∙ ap (λ y. v.bytes ++ y) s.4 ∙ ap (λ y. y ++ more) f.printed; settles = settles_then c.2 (settles_same (symmetric s.5) g.settles) }

pub cover_reductions : ExplorationsCoverReductions
cover_reductions p F u x q bytes (cover.at_start c) = record { vertex = x.opens.vertex; is = x.opens.is; printed = x.opens.printed; settles = settles_same (symmetric c) x.opens.settles }
cover_reductions p F u x q bytes (cover.by_reduction {q = m} {bytes = b} {more = more} h k) =
    let f = cover_reductions p F u x m b h in
    covers_one p F u x m q b more f (catches_up more m (reading f.vertex.configuration) q f.settles k)

pub cover_runs : ExplorationsCoverRuns
cover_runs p F u x C bytes h = cover_reductions p F u x (reading C) bytes (run_reduces p u bytes C h)

-- ---- runs go on to what is found

abbrev GoesOn : Configuration → Process → Type 0
GoesOn C q = (D : Configuration) × FreelyPrints C [] D × Congruent 0 (reading D) q

silent_prints : (C D E : Configuration) → FreelyPrints C [] D → SilentlyReaches D E → FreelyPrints C [] E
silent_prints C D E h silent.at_start = h
silent_prints C D E h (silent.by_step {D = M} k free same) = cover.by_step (silent_prints C D M h k) free

settled_prints : (C D : Configuration) (p q : Process) → FreelyPrints C [] D → IsReached D → Congruent 0 (reading D) p → SettlesTo 0 p q → GoesOn C q
settled_prints C D p q h r c (settle.at_end d) = (D, h, transitive c d)
settled_prints C D p q h r c (settle.by_reduction {q = m} k rest) =
    let x = exhausted D r in
    let s = one_step x.last x.is x.none [] m (up_to (transitive (symmetric x.same) c) k.reduces reflexive) in
    settled_prints C s.0 m q (subst (λ b. FreelyPrints C b s.0) s.4 (cover.by_step (silent_prints C D x.last h x.reached) s.3)) (step_reached x.last s.1 s.0 s.2 x.is s.3) s.5 rest

pub runs_go_on : RunsGoOnToFound
runs_go_on p F u x C bytes h =
    let f = cover_runs p F u x C bytes h in
    let g = settled_prints C C (reading C) (reading f.vertex.configuration) cover.at_start (prints_reached p u bytes C h) reflexive f.settles in
    (g.0, g.1, record { vertex = f.vertex; is = f.is; printed = f.printed; same = symmetric g.2 })

-- ---- what is found for what is reached

pub found_reached : (p : Process) (F : List Vertex) → IsClosed p → Explores p F → (v : Vertex) → Has F v → IsReached v.configuration
found_reached p F u x v h = prints_reached p u v.bytes v.configuration (reached_prints p u v (x.reached v h))
