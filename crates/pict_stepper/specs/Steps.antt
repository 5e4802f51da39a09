-- Small runs, step by step.
use Rattle.std.specs.Prelude.{ℕ, ◌≡◌, ◌≢◌, ◌<◌, ◌≤◌, List, [], ◌∷◌, length, take, map, filter, Option, Some, None, option_map}
use Rattle.pict_syntax.specs.declared.span.Span.{Span}
use Rattle.pict_core.specs.Term.{Val, Chan, Process}
use Rattle.pict_core.specs.Plain.{plain_core}
use Rattle.pict_core.specs.Configuration.{Configuration, opening}
use Rattle.pict_core.specs.Configuration as plain
use Rattle.pict_core.specs.Step.{Label, Finished, Traps, least, is_ready, is_partner, next}
use Rattle.pict_core.specs.Table.{Row}
use Rattle.pict_core.specs.Run.{Reaches}
use Rattle.pict_reference.specs.Plain.{plain_entry, plain_label, configuration_of}
use Rattle.pict_reference.specs.declared.outcome.Label as made
use Rattle.pict_stepper.specs.Rules.{rule_of_row}
use Rattle.pict_stepper.specs.Told.{stamp_of, after_step, after_steps, shown_by}
use Rattle.pict_stepper.specs.Touched.{is_touched}
use Rattle.pict_stepper.specs.declared.run.Step.{Step}
use Rattle.pict_stepper.specs.declared.run.Run.{Run}
use Rattle.pict_stepper.specs.declared.run.End.{End}
use Rattle.pict_stepper.specs.declared.run.End.TheVariants as end
use Rattle.pict_stepper.specs.declared.run.Turn.{Turn}
use Rattle.pict_stepper.specs.declared.run.Outcome.{Outcome}
use Rattle.pict_stepper.specs.declared.run.Outcome.TheVariants.{Taken, Ended}

-- the step leads from C to D: the oldest ready process acts, with its oldest partner, by the row that is named; and those are
-- there afterwards who are told
pub record IsStep (C : Configuration) (t : Step) (D : Configuration) : Type 0 where
  pub actor : least is_ready C.entries ≡ Some (plain_entry t.actor)
  pub partner : option_map plain_entry t.partner ≡ least (is_partner (plain_core t.actor.process)) C.entries
  pub row : Row C t.actor.stamp (option_map plain_entry t.partner) (plain_core t.actor.process) D (plain_label t.label)
  pub rule : t.rule ≡ rule_of_row row
  pub told : after_step C.entries t ≡ D.entries

-- the steps lead from C to D, one after the other
abbrev pub LeadTo : Configuration → List Step → Configuration → Type 0
LeadTo C [] D = C ≡ D
LeadTo C (t ∷ ts) D = (M : Configuration) × IsStep C t M × LeadTo M ts D

-- somebody is ready
abbrev pub IsBusy : Configuration → Type 0
IsBusy C = least is_ready C.entries ≢ None

-- why a run is followed no further than to C: it stops there, or this fact holds
abbrev pub EndsBy : Type 0 → Configuration → End → Type 0
EndsBy otherwise C end.Finished = next C ≡ Finished
EndsBy otherwise C (end.Trap at) = next C ≡ Traps at
EndsBy otherwise C end.GoesOn = otherwise

-- The steps tell what the first k of the run show, and who is there after these, of those who were there first.
abbrev pub Tells : Process → List plain.Entry → ℕ → List Step → Type 0
Tells p first k steps = (C : Configuration) × Reaches k (opening p) (shown_by 1 steps) C × (after_steps first steps ≡ C.entries)

-- The run of the process, followed for at most so many steps: to its end, or for so many, and then somebody is ready still. The step
-- that divides by zero is one of so many.
pub record IsRun (p : Process) (most : ℕ) (run : Run) : Type 0 where
  pub steps : LeadTo (opening p) run.steps.items (configuration_of run.last)
  pub told : (k : ℕ) → k ≤ length run.steps.items → Tells p (plain_entry run.first ∷ []) k (take k run.steps.items)
  pub few : length run.steps.items ≤ most
  pub ends : EndsBy ((length run.steps.items ≡ most) × IsBusy (configuration_of run.last)) (configuration_of run.last) run.end
  pub divides : (at : Span) → run.end ≡ end.Trap at → length run.steps.items < most

-- ---- one step

-- the number of a channel
abbrev pub channel_number : Val → Option ℕ
channel_number (Chan number) = Some number
channel_number _ = None

-- the process acts next, with this partner; and it steps by no other row than the one that is named
pub record Acts (es : List plain.Entry) (t : Turn) : Type 0 where
  pub actor : least is_ready es ≡ Some (plain_entry t.actor)
  pub partner : option_map plain_entry t.partner ≡ least (is_partner (plain_core t.actor.process)) es
  pub rule : (C D : Configuration) (s : ℕ) (label : Label)
      (row : Row C s (option_map plain_entry t.partner) (plain_core t.actor.process) D label) → t.rule ≡ rule_of_row row

-- who acts next, if anybody does
abbrev pub IsTurn : List plain.Entry → Option Turn → Type 0
IsTurn es None = least is_ready es ≡ None
IsTurn es (Some t) = Acts es t

-- the step is that of the turn, with this label, and with those who come of the entries afterwards
pub record IsStepOf (t : Turn) (label : made.Label) (from : ℕ) (after : List plain.Entry) (step : Step) : Type 0 where
  pub made : step ≡ record { actor = t.actor; partner = t.partner; rule = t.rule; label = label; come = step.come }
  pub come : map plain_entry step.come.items ≡ filter (λ e. is_touched from t.actor.stamp (stamp_of (option_map plain_entry t.partner)) e.stamp) after

-- what becomes of C in one step; D is the configuration afterwards
abbrev pub IsOutcome : Configuration → Outcome → Configuration → Type 0
IsOutcome C (Taken t) D = IsStep C t D
IsOutcome C (Ended e) D = EndsBy ⊥ C e × (D ≡ C)
