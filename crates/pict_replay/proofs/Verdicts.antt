-- Where no free run is wrong, choices and lines agree or have a fault.
use Rattle.std.proofs.Common.{ℕ, zero, suc, ◌+◌, ◌<◌, ◌≤◌, ◌≡◌, ◌⊎◌, inl, inr, Bool, true, false, List, [], ◌∷◌, ◌++◌, length, append_assoc, append-nil, refl, sym, ap, ◌∙◌, subst, arith, Option, Some, option_map}
use Rattle.std.specs.Prelude.{filter, slice_get, option_and_then}
use Rattle.pict_core.specs.Term.{Process}
use Rattle.pict_core.specs.Closed.{IsClosed}
use Rattle.pict_core.specs.Configuration.{Entry, Configuration, IsConfiguration, opening}
use Rattle.pict_core.specs.Step.{StepOutcome, Steps, Traps, Wrong, Finished, is_ready, is_partner, entry_at, act_entry, step_by}
use Rattle.pict_core.specs.Run.{shown}
use Rattle.pict_core.proofs.Tabled.{never_finished}
use Rattle.pict_core.specs.Places.{Place, IsPlace, ready_entries, partner_entries, partners_at, choice_by, outcome_at}
use Rattle.pict_core.proofs.Placing.{found, wrong_places}
use Rattle.pict_reduction.specs.Reached.{FreelyReaches, NoFreeRunIsWrong}
use Rattle.pict_reduction.proofs.Apart.{opening_reached, freely_reached}
use Rattle.pict_reduction.proofs.FreeRuns.{free_runs_reach}
use Rattle.pict_replay.specs.Replayed.{Line, Agrees, given, unused_after, is_overdue, Replays, at_start, by_step, IsAtFault, overdue, left_over, no_place, traps, differs, IsFault}
use Rattle.pict_replay.specs.Laws.{SomeVerdict}
use Rattle.pict_replay.proofs.Deciding.{Decided, nats, lines}
use Rattle.pict_replay.proofs.Replaying.{replay_runs, replayed_agrees}

below : (m n : ℕ) → (m < n) ⊎ (n ≤ m)
below zero zero = inr (omega arith)
below zero (suc n) = inl (omega arith)
below (suc m) zero = inr (omega arith)
below (suc m) (suc n) = elim (below m n) [ inl h ↦ inl (omega (arith, h)) | inr h ↦ inr (omega (arith, h)) ]

-- a place is there or not
is_place : (C : Configuration) (place : Place) → IsPlace C place ⊎ (IsPlace C place → ⊥)
is_place C place = go (below place.ready (length (ready_entries C))) (below place.partner (length (partners_at C place.ready))) (nats (length (partners_at C place.ready)) 0) (nats place.partner 0)
  where
    go : (place.ready < length (ready_entries C)) ⊎ (length (ready_entries C) ≤ place.ready) → (place.partner < length (partners_at C place.ready)) ⊎ (length (partners_at C place.ready) ≤ place.partner)
        → Decided (length (partners_at C place.ready)) 0 → Decided place.partner 0 → IsPlace C place ⊎ (IsPlace C place → ⊥)
    go (inr h) a b c = inr (λ p. let q = p.ready in omega (arith, h, q))
    go (inl h) (inl k) b c = inl (record { ready = h; partner = inl k })
    go (inl h) (inr k) (inl e) (inl f) = inl (record { ready = h; partner = inr (e, f) })
    go (inl h) (inr k) (inr n) c = inr (λ p. elim p.partner [ inl q ↦ omega (arith, k, q) | inr q ↦ n q.0 ])
    go (inl h) (inr k) (inl e) (inr n) = inr (λ p. elim p.partner [ inl q ↦ omega (arith, k, q) | inr q ↦ n q.1 ])

there_is : {X : Type 0} (xs : List X) (i : ℕ) → i < length xs → (x : X) × (slice_get xs i ≡ Some x)
there_is [] i h = absurd (omega (arith, h))
there_is (x ∷ xs) zero h = (x, refl)
there_is (x ∷ xs) (suc i) h = there_is xs i (omega (arith, h))

-- at a place somebody acts
somebody_acts : (C : Configuration) (place : Place) → IsConfiguration C → IsPlace C place → outcome_at C place ≡ Finished → ⊥
somebody_acts C place c is e =
    let x = there_is (ready_entries C) place.ready is.ready in
    let t = x.0 in
    let f = found is_ready 0 C.entries C.next_stamp place.ready t c.stamps x.1 in
    let o : Option Entry = option_and_then (λ r. entry_at r C.entries) (option_map (λ (u : Entry). u.stamp) (slice_get (filter (is_partner t.process) C.entries) place.partner)) in
    let acts : outcome_at C place ≡ act_entry C (Some t) o =
    ap (λ y. step_by C (option_map (choice_by (partner_entries C y) place.partner) y)) x.1 ∙ ap (λ y. act_entry C y o) f.1 in
    never_finished C t.stamp o t.process (sym acts ∙ e)

module _ (p : Process) (choices : List Place) (all : List Line) (u : IsClosed p) (right : NoFreeRunIsWrong p) where
  abbrev Verdict : Type 0
  Verdict = Agrees p choices all ⊎ ((k : ℕ) × IsFault p choices all k)

  fault_at : (before rest : List Place) (D : Configuration) (unused : List Line) → choices ≡ before ++ rest → Replays (opening p) all before D unused → IsAtFault (length before + 1) D unused rest → Verdict
  fault_at before rest D unused whole r f = inr (length before + 1, record { before = before; rest = rest; whole = whole; number = refl; at = D; unused = unused; replays = r; fails = f })

  reached : (before : List Place) (D : Configuration) (unused : List Line) → Replays (opening p) all before D unused → FreelyReaches (opening p) D
  reached before D unused r = let x = replay_runs (opening p) all before D unused r in free_runs_reach p before x.0 D u x.1

  is_configuration : (D : Configuration) → FreelyReaches (opening p) D → IsConfiguration D
  is_configuration D h = (freely_reached (opening p) D (opening_reached p u) h).is

  done : (before : List Place) (D : Configuration) (unused : List Line) → choices ≡ before ++ [] → Replays (opening p) all before D unused → is_overdue (length before + 1) unused ≡ false → Verdict
  done before D [] whole r on = inl ((replayed_agrees p choices all).0 (D, subst (λ l. Replays (opening p) all l D []) (sym (whole ∙ append-nil before)) r))
  done before D (l ∷ ls) whole r on = fault_at before [] D (l ∷ ls) whole r (left_over (λ e. cc))

  -- by what becomes of the place
  step_by_outcome : (before : List Place) (place : Place) (rest : List Place) (D : Configuration) (unused : List Line) → choices ≡ before ++ place ∷ rest → Replays (opening p) all before D unused → is_overdue (length before + 1) unused ≡ false → IsPlace D place
      → (o : StepOutcome) → outcome_at D place ≡ o → ((E : Configuration) (w : List Line) → choices ≡ (before ++ place ∷ []) ++ rest → Replays (opening p) all (before ++ place ∷ []) E w → Verdict) → Verdict
  step_by_outcome before place rest D unused whole r on is (Steps E label) e next = go (lines (shown (length before + 1) label) (given (length before + 1) unused))
    where
      go : Decided (shown (length before + 1) label) (given (length before + 1) unused) → Verdict
      go (inl g) = next E (unused_after (length before + 1) unused) (whole ∙ sym (append_assoc before (place ∷ []) rest)) (by_step r on is e g)
      go (inr n) = fault_at before (place ∷ rest) D unused whole r (differs e n)
  step_by_outcome before place rest D unused whole r on is (Traps at) e next = fault_at before (place ∷ rest) D unused whole r (traps e)
  step_by_outcome before place rest D unused whole r on is Wrong e next =
      let h = reached before D unused r in
      absurd (right D h (wrong_places D place (is_configuration D h) is e))
  step_by_outcome before place rest D unused whole r on is Finished e next =
      absurd (somebody_acts D place (is_configuration D (reached before D unused r)) is e)

  verdict_from : (rest before : List Place) (D : Configuration) (unused : List Line) → choices ≡ before ++ rest → Replays (opening p) all before D unused → Verdict
  verdict_from [] before D unused whole r = go (is_overdue (length before + 1) unused) refl
    where
      go : (b : Bool) → is_overdue (length before + 1) unused ≡ b → Verdict
      go true e = fault_at before [] D unused whole r (overdue e)
      go false e = done before D unused whole r e
  verdict_from (place ∷ rest) before D unused whole r = go (is_overdue (length before + 1) unused) refl (is_place D place) (λ E w k x. verdict_from rest (before ++ place ∷ []) E w k x)
    where
      go : (b : Bool) → is_overdue (length before + 1) unused ≡ b → IsPlace D place ⊎ (IsPlace D place → ⊥)
          → ((E : Configuration) (w : List Line) → choices ≡ (before ++ place ∷ []) ++ rest → Replays (opening p) all (before ++ place ∷ []) E w → Verdict) → Verdict
      go true e f next = fault_at before (place ∷ rest) D unused whole r (overdue e)
      go false e (inr n) next = fault_at before (place ∷ rest) D unused whole r (no_place n)
      go false e (inl is) next = step_by_outcome before place rest D unused whole r e is (outcome_at D place) refl next

pub some_verdict : SomeVerdict
some_verdict p choices all u right = verdict_from p choices all u right choices [] (opening p) all refl at_start
