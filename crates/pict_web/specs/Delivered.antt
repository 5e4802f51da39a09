-- What stands after a call: what the top call promises of the outcome and of what is printed, said of two buffers.
use Rattle.std.specs.Prelude.{◌≡◌, ◌≢◌, ◌≤◌, ◌⊎◌, ℕ, List, [], Some, length, take}
use Rattle.pict_outside.specs.Bytes.{IsFrontOf}
use Rattle.pict_outside.specs.Texts.{Texts}
use Rattle.pict_top.specs.Meets.{IsDecided, SomeOutcome}
use Rattle.pict_top.specs.Numbers.{number_of}
use Rattle.pict_top.specs.Owed.{OwesWords}
use Rattle.pict_top.specs.declared.status.Status.{Status}
use Rattle.pict_top.specs.declared.status.Status.TheVariants.{ReadFault, WriteFault}

-- these are the bytes printed and the report of these words over these texts, where there is so much room for each
pub record IsDelivered (words : List (List ℕ)) (texts : Texts) (status : Status) (room : ℕ) (printed : List ℕ) (report_room : ℕ) (reported : List ℕ) : Type 0 where
  -- after any status but a fault and Memory: those of the outcome of that status, all of them and nothing else
  pub decided : IsDecided status → SomeOutcome (OwesWords words (Some texts)) (λ o. (o.status ≡ status) × (printed ≡ o.printed) × (reported ≡ o.report))
  -- whatever the status: what is printed is nothing, or a beginning of what the command writes
  pub beginning : (printed ≡ []) ⊎ SomeOutcome (OwesWords words (Some texts)) (λ o. IsFrontOf printed o.printed)
  -- no reading fails
  pub read : status ≢ ReadFault
  -- a write fails only where no room is left for one of the two
  pub full : status ≡ WriteFault → (room ≤ length printed) ⊎ (report_room ≤ length reported)

-- the same of so many bytes at the beginning of each buffer
abbrev pub IsInBuffers : List (List ℕ) → Texts → Status → List ℕ → ℕ → List ℕ → ℕ → Type 0
IsInBuffers words texts status out printed err reported = IsDelivered words texts status (length out) (take printed out) (length err) (take reported err)

-- the number is that of a status of which this holds
abbrev pub IsAnswered : List (List ℕ) → Texts → ℕ → List ℕ → ℕ → List ℕ → ℕ → Type 0
IsAnswered words texts number out printed err reported = (status : Status) × (number ≡ number_of status) × IsInBuffers words texts status out printed err reported
