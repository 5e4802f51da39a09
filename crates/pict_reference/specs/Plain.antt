-- What the program's configurations and outcomes stand for.
use Rattle.std.specs.Prelude.{◌≡◌, ℕ, Bool, true, false, map, Option, option_map, Result, IfOk}
use Rattle.std.specs.declared.alloc.AllocError.{AllocError}
use Rattle.pict_core.specs.Term.{Process}
use Rattle.pict_core.specs.Plain.{plain_val, plain_core}
use Rattle.pict_core.specs.declared.process.Core.{Core}
use Rattle.pict_core.specs.Configuration as plain
use Rattle.pict_core.specs.Step as plain_step
use Rattle.pict_reference.specs.declared.outcome.Label.{Label}
use Rattle.pict_reference.specs.declared.outcome.Label.TheVariants as label
use Rattle.pict_reference.specs.declared.outcome.StepOutcome.{StepOutcome}
use Rattle.pict_reference.specs.declared.outcome.StepOutcome.TheVariants as outcome
use Rattle.pict_reference.specs.declared.entry.Entry.{Entry}
use Rattle.pict_reference.specs.declared.reference.Reference.{Reference}

abbrev pub mark_of : Bool → plain.Mark
mark_of true = plain.Ready
mark_of false = plain.Parked

abbrev pub plain_entry : Entry → plain.Entry
plain_entry e = record { stamp = e.stamp; mark = mark_of e.ready; process = plain_core e.process }

abbrev pub configuration_of : Reference → plain.Configuration
configuration_of r = record { channels = r.channels; next_stamp = r.next_stamp; entries = map plain_entry r.entries.items }

abbrev pub plain_label : Label → plain_step.Label
plain_label label.Quiet = plain_step.Quiet
plain_label (label.Comm channel value) = plain_step.Comm channel (plain_val value)
plain_label (label.Print bytes) = plain_step.Print bytes

-- The outcome from C is as the definition says, and D is the configuration afterwards.
abbrev pub IsOutcome : StepOutcome → plain_step.StepOutcome → plain.Configuration → plain.Configuration → Type 0
IsOutcome (outcome.Steps label) o C D = o ≡ plain_step.Steps D (plain_label label)
IsOutcome (outcome.Traps at) o C D = (o ≡ plain_step.Traps at) × (D ≡ C)
IsOutcome outcome.Wrong o C D = (o ≡ plain_step.Wrong) × (D ≡ C)
IsOutcome outcome.Finished o C D = (o ≡ plain_step.Finished) × (D ≡ C)

-- what the process at the stamp does, with its oldest partner
abbrev pub acts_in : plain.Configuration → ℕ → Process → plain_step.StepOutcome
acts_in C s p = plain_step.act C s (plain_step.least (plain_step.is_partner p) C.entries) p

abbrev pub GivesOutcome : Result StepOutcome AllocError → plain_step.StepOutcome → plain.Configuration → plain.Configuration → Type 0
GivesOutcome result o C D = IfOk result (λ made. IsOutcome made o C D)

-- a stamp and its process
abbrev pub plain_found : ℕ × Core → ℕ × Process
plain_found x = (x.0, plain_core x.1)

abbrev pub stamped : plain.Entry → ℕ × Process
stamped e = (e.stamp, e.process)

-- a copy of an entry's stamp and process
abbrev pub IsCopyOf : Result (Option (ℕ × Core)) AllocError → Option plain.Entry → Type 0
IsCopyOf result o = IfOk result (λ found. option_map plain_found found ≡ option_map stamped o)
