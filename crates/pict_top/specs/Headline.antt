-- What `pict` promises: one record, for every command.
use Rattle.std.specs.Prelude.{◌≡◌, ◌≢◌, ◌⊎◌, ℕ, List, Option, Some}
use Rattle.pict_outside.specs.Counts.{Rose}
use Rattle.pict_outside.specs.Texts.{Texts}
use Rattle.pict_front.specs.Front.{Front}
use Rattle.pict_top.specs.Changes.{SinkChange, Untouched, Gained, GainedFront, Failed, FailedWithin}
use Rattle.pict_top.specs.Meets.{IsDecided, SomeOutcome, Delivers, Breaks, Tells}
use Rattle.pict_top.specs.Outcome.{Outcome}
use Rattle.pict_top.specs.Owed.{OwesWords, OwesWithEach, FaultsWords, Accepts}
use Rattle.pict_report.specs.Reports.{usage_report}
use Rattle.pict_top.specs.Soundness.{IsSound, IsFreelySound}
use Rattle.pict_words.specs.Words.{HasShape, HasNoShape, Load}
use Rattle.pict_top.specs.declared.status.Status.{Status}
use Rattle.pict_top.specs.declared.status.Status.TheVariants.{Usage, ReadFault, WriteFault, Memory, Missing}

-- a shelf before and after a call: the texts that it tells, if it does, and its counts
pub record ShelfChange : Type 0 where
  pub held : Option Texts
  pub old_faults : ℕ
  pub new_faults : ℕ
  pub old_misses : ℕ
  pub new_misses : ℕ

-- the change of a shelf, by its meanings
abbrev pub shelf_change : {S : Type 0} → (S → Option Texts) → (S → ℕ) → (S → ℕ) → S → S → ShelfChange
shelf_change held faults misses old new =
    record { held = held old; old_faults = faults old; new_faults = faults new; old_misses = misses old; new_misses = misses new }

abbrev pub ShelfFailed : ShelfChange → Type 0
ShelfFailed c = Rose c.old_faults c.new_faults

-- What stands after a call with these words that answers this status. Every command owes the same; what it is that a command
-- comes to says `OwesWords`.
pub record Headline (words : List (List ℕ)) (shelf : ShelfChange) (out err : SinkChange) (status : Status) : Type 0 where
  -- where the shelf tells its texts and no device failed, the status is that of the one outcome, or memory ran out
  pub complete : (texts : Texts) (o : Outcome) → shelf.held ≡ Some texts → OwesWords words (Some texts) o → ¬ ShelfFailed shelf → ¬ Failed out → ¬ Failed err
      → (status ≡ o.status) ⊎ (status ≡ Memory)
  -- over any shelf: where no device failed the status is no fault, or memory ran out
  pub answered : ¬ ShelfFailed shelf → ¬ Failed out → ¬ Failed err → IsDecided status ⊎ (status ≡ Memory)
  -- after any status but a fault and Memory the outcome of that status was written whole
  pub decided : IsDecided status → SomeOutcome (OwesWords words shelf.held) (λ o. (o.status ≡ status) × Delivers out err o)
  -- a sink failed on the way, and took a beginning of what was to be written on it
  pub write_fault : status ≡ WriteFault → SomeOutcome (OwesWords words shelf.held) (Breaks out err)
      ⊎ (ShelfFailed shelf × SomeOutcome (FaultsWords words shelf.held) (λ o. Untouched out × FailedWithin err o.report))
  -- the shelf failed, and that was reported
  pub read_fault : status ≡ ReadFault → ShelfFailed shelf × SomeOutcome (FaultsWords words shelf.held) (λ o. Untouched out × Gained err o.report)
  -- memory ran out, and nothing was reported
  pub memory : status ≡ Memory → Untouched err
  -- whatever the status, `out` has gained a beginning of what the command writes
  pub printed : Untouched out ⊎ SomeOutcome (OwesWords words shelf.held) (λ o. GainedFront out o.printed)
  -- the shelf missed the file
  pub missing : status ≡ Missing → Rose shelf.old_misses shelf.new_misses
  -- the shelf missed a text where the import of one is refused since there is no such text (I1): in every other case the outcome that
  -- was written whole is also owed where the shelf has each text it is asked for
  pub absent : IsDecided status → SomeOutcome (OwesWithEach words shelf.held) (λ o. (o.status ≡ status) × Delivers out err o)
      ⊎ Rose shelf.old_misses shelf.new_misses
  -- words of no listed shape come to the usage text and nothing else, and no other words do
  pub usage : HasNoShape words → Untouched out × Tells Usage usage_report err status
  pub usage_only : status ≡ Usage → HasNoShape words
  -- the command `load` asks the shelf for nothing: it never reports that a file is missing or can't be read, and over any shelf,
  -- whether or not that fails, the status is that of an outcome that is owed, or memory ran out
  pub load_never : (n : ℕ) → HasShape words (Load n) → (status ≢ ReadFault) × (status ≢ Missing)
  pub load_complete : (n : ℕ) (o : Outcome) → HasShape words (Load n) → OwesWords words shelf.held o → ¬ Failed out → ¬ Failed err → (status ≡ o.status) ⊎ (status ≡ Memory)
  -- no configuration of an accepted program's run is wrong: no value of a wrong shape is met; each step leaves its reading
  -- congruent or is one reduction of it, and where the run is finished no reduction is left
  pub sound : (accepted : Front) → Accepts words shelf.held accepted → IsSound accepted.core
  -- and so it is in any order, whichever ready process acts each time, with whichever partner: no free step of the accepted
  -- program is wrong, each leaves the reading congruent or is one reduction of it, and no reduction is lost
  pub any_order : (accepted : Front) → Accepts words shelf.held accepted → IsFreelySound accepted.core
