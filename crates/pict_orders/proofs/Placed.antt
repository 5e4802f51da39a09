-- A step at a place is what the process there does, with its partner there.
use Rattle.std.proofs.Common.{ℕ, ◌≡◌, Bool, refl, sym, ap, ◌∙◌, subst, filter, Option, Some, None, option_map, option_and_then, Result, Ok, Err, IfOk}
use Rattle.std.specs.List.{slice_get}
use Rattle.std.specs.declared.alloc.AllocError.{AllocError}
use Rattle.pict_core.specs.Configuration.{Entry, Configuration, IsConfiguration}
use Rattle.pict_core.specs.Step.{is_ready, is_partner, entry_at, act, act_entry, step_by}
use Rattle.pict_core.specs.Places.{ready_entries, partner_entries, choice_by, outcome_at}
use Rattle.pict_core.proofs.Placing.{found}
use Rattle.pict_reference.specs.Plain.{IsOutcome, GivesOutcome}
use Rattle.pict_reference.specs.declared.outcome.StepOutcome.{StepOutcome}
use Rattle.pict_orders.specs.Plain.{place}

named : (C : Configuration) → IsConfiguration C → (t : Entry → Bool) (j : ℕ) (o : Option Entry) → slice_get (filter t C.entries) j ≡ o → option_and_then (λ r. entry_at r C.entries) (option_map (λ (u : Entry). u.stamp) o) ≡ o
named C is t j None h = refl
named C is t j (Some u) h = (found t 0 C.entries C.next_stamp j u is.stamps h).1

pub outcome_acts : (C : Configuration) → IsConfiguration C → (i j : ℕ) (a : Entry) → slice_get (ready_entries C) i ≡ Some a
    → outcome_at C (place i j) ≡ act C a.stamp (slice_get (filter (is_partner a.process) C.entries) j) a.process
outcome_acts C is i j a h =
    let o : Option Entry = slice_get (filter (is_partner a.process) C.entries) j in
    let f = found is_ready 0 C.entries C.next_stamp i a is.stamps h in
    ap (λ x. step_by C (option_map (choice_by (partner_entries C x) j) x)) h
    ∙ ap (λ x. act_entry C x (option_and_then (λ r. entry_at r C.entries) (option_map (λ (u : Entry). u.stamp) o))) f.1
    ∙ ap (λ x. act C a.stamp x a.process) (named C is (is_partner a.process) j o refl)

pub step_found : (C D : Configuration) (i j : ℕ) (a : Entry) (o : Option Entry) (r : Result StepOutcome AllocError) → Some a ≡ slice_get (ready_entries C) i
    → o ≡ slice_get (filter (is_partner a.process) C.entries) j → GivesOutcome r (act C a.stamp o a.process) C D
    → IfOk r (λ made. IsConfiguration C → IsOutcome made (outcome_at C (place i j)) C D)
step_found C D i j a o (Ok made) h k g = λ is. subst (λ x. IsOutcome made x C D) (sym (outcome_acts C is i j a (sym h) ∙ ap (λ x. act C a.stamp x a.process) (sym k))) g
step_found C D i j a o (Err e) h k g = g
