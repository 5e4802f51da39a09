-- A verdict is told.
use Rattle.std.proofs.Common.{◌≡◌, ◌≤◌, ℕ, List, length, inl, inr, refl, sym, subst, Ok, Result}
use Rattle.pict_syntax.specs.declared.limits.TheConstants.{TEXT_LIMIT}
use Rattle.pict_syntax.specs.declared.code.Code.TheVariants.{V1}
use Rattle.pict_syntax.specs.Names.{with_names}
use Rattle.pict_gather.specs.Fetching.{Fetch, text}
use Rattle.pict_front.specs.Front.{Front}
use Rattle.pict_trace.specs.Readable.{labels_in}
use Rattle.pict_replay.specs.Files.{IsFile, IsNoFile}
use Rattle.pict_replay.specs.Verdicts.{IsVerdict}
use Rattle.pict_outside.proofs.Gaining.{appends_nothing}
use Rattle.pict_core.specs.Places.{Place}
use Rattle.pict_replay.specs.Replayed.{Line}
use Rattle.pict_replay.specs.declared.judging.Verdict.{Verdict}
use Rattle.pict_replay.specs.declared.judging.Verdict.TheVariants.{Yes, No}
use Rattle.pict_top.specs.Answer.{Refusal, Judged, alone, byte_at, no_file, judged}
use Rattle.pict_top.specs.Owed.{OwesReplay}
use Rattle.pict_top.specs.Changes.{SinkChange, Untouched}
use Rattle.pict_top.specs.Meets.{Meets, Reports, IsDecided}
use Rattle.pict_top.specs.Outcome.{Outcome, outcome_of, status_of_verdict, verdict_line}
use Rattle.pict_top.specs.declared.status.Status.{Status}
use Rattle.pict_top.proofs.Meeting.{delivered}

decides : (v : Verdict) → IsDecided (status_of_verdict v)
decides Yes = tt
decides (No number) = tt

pub told_verdict : (Owes Faults : Outcome → Type 0) (failed : Type 0) (out err : SinkChange) (s : Status) (v : Verdict) → Owes (outcome_of (Judged v)) → Untouched err
    → Reports (status_of_verdict v) (verdict_line v) out s → Meets Owes Faults failed out err s
told_verdict Owes Faults failed out err s v owes kept reports =
    let P : Status → Type 0 = Meets Owes Faults failed out err in
    elim reports [
      | inl tells ↦ elim tells [
        | inl (e, gained) ↦ delivered Owes Faults failed out err s (outcome_of (Judged v)) owes (decides v) gained (appends_nothing _ _ kept) e
        | inr (e, broke) ↦ subst P (sym e) (inl (outcome_of (Judged v), owes, inl (broke, kept)))
      ]
      | inr (e, none) ↦ subst P (sym e) (kept, inl none)
    ]

-- what is owed is a verdict
verdict_is : {E : Type 0} (P : Verdict → Type 0) (v : Verdict) (r : Result Verdict E) → r ≡ Ok v → (r ≡ Ok Yes → P Yes) → ((k : ℕ) → r ≡ Ok (No k) → P (No k)) → P v
verdict_is P Yes r e said other = said e
verdict_is P (No k) r e said other = other k e

module _ (G : List ℕ → Fetch → Type 0) (trace t : List ℕ) (front : Front) (gives : G trace (text t)) (few : length t ≤ TEXT_LIMIT) where
  pub owes_no_file : (at : ℕ) → IsNoFile t at → OwesReplay G trace front (outcome_of (Refusal (alone trace t) V1 (byte_at at)))
  owes_no_file at none = (_, no_file gives few none, refl)

  pub owes_verdict : {E : Type 0} (names : List (List ℕ)) (places : List Place) (lines : List Line) (v : Verdict) (r : Result Verdict E) → IsFile names t places lines
      → names ≡ with_names front.names (labels_in names lines) → r ≡ Ok v → (r ≡ Ok Yes → IsVerdict front.core places lines Yes)
      → ((k : ℕ) → r ≡ Ok (No k) → IsVerdict front.core places lines (No k)) → OwesReplay G trace front (outcome_of (Judged v))
  owes_verdict names places lines v r file gained e said other =
      (_, judged gives few (record { file = file; gained = gained }) (verdict_is (IsVerdict front.core places lines) v r e said other), refl)
