-- Words come to at most one outcome where the texts are told.
use Rattle.std.proofs.Common.{◌≡◌, ℕ, ◌<◌, ◌≤◌, Bool, true, false, inl, inr, List, length, Option, Some, None, refl, ap, sym, ◌∙◌, subst, arith}
use Rattle.pict_outside.specs.Texts.{Texts}
use Rattle.pict_core.specs.Term.{Process}
use Rattle.pict_core.specs.Configuration.{opening}
use Rattle.pict_core.specs.Run as run
use Rattle.pict_core.specs.Run.{steps_done}
use Rattle.pict_core.proofs.OneRun.{one_run}
use Rattle.pict_words.specs.Words.{Command, Run, Trace, Check, Code, Load, Pick, Picked, Replay, Build, Exec, Sites, HasShape, HasNoShape, default_fuel}
use Rattle.pict_words.proofs.Commands.{one_command}
use Rattle.pict_gather.specs.Phases.{Phase, accepts, refuses}
use Rattle.pict_gather.specs.Fetching.{MayGive}
use Rattle.pict_gather.specs.Gathered.{EarlyEnd, refused, failed}
use Rattle.pict_syntax.specs.declared.source.Source.{Source}
use Rattle.pict_syntax.specs.Names.{HasNoRepeats}
use Rattle.pict_syntax.specs.declared.limits.TheConstants.{OBJECT_LIMIT}
use Rattle.pict_exec.specs.declared.guarded.ExecEnd.TheVariants as guarded
use Rattle.pict_object.specs.Cores.{IsObject}
use Rattle.pict_object.proofs.Objects.{one_object}
use Rattle.pict_front.specs.Front.{Front, Accepted, IsFront}
use Rattle.pict_front.proofs.InOrder.{accepted_is_ordered}
use Rattle.pict_replay.specs.declared.judging.Verdict.TheVariants.{Yes, No}
use Rattle.pict_front.proofs.EachPhase.{one_front}
use Rattle.pict_machine.specs.Events.{end_of}
use Rattle.pict_machine.specs.declared.event.End.{End}
use Rattle.pict_machine.specs.declared.event.End.TheVariants.{Done, FuelSpent, Trap}
use Rattle.pict_top.specs.Origins.{origin_of, name_of, prelude_of, trace_of, builds, given}
use Rattle.pict_top.specs.Answer.{Answer, Absent, Refusal, Ended, Judged, Executed, IsAnswer, IsTextAnswer, IsBuilt, built, too_big, IsMade, IsWorked, IsDone, Does, Shows, Writing}
use Rattle.pict_top.specs.Picking.{PicksAndShows, Recording}
use Rattle.pict_top.specs.Siting.{NetworkShows}
use Rattle.pict_top.specs.Outcome.{Outcome, outcome_of}
use Rattle.pict_top.specs.Owed.{Owes, OwesWords}
use Rattle.pict_top.specs.declared.status.Status.TheVariants as status
use Rattle.pict_top.proofs.Reading.{IsTold}
use Rattle.pict_top.proofs.Sited.{one_sited}
use Rattle.pict_top.proofs.Recording.{one_picked}
use Rattle.pict_top.proofs.Replayed.{one_replayed}
use Rattle.pict_top.proofs.Executions.{one_executed}

-- ---- answers

-- the end of a command's work that is this end of a run
abbrev finish_by : run.End → End
finish_by run.Done = Done
finish_by run.FuelSpent = FuelSpent
finish_by (run.Trap at) = Trap at
finish_by run.Misshapen = Done

known_by : (e : End) → finish_by (end_of e) ≡ e
known_by Done = refl
known_by FuelSpent = refl
known_by (Trap at) = refl

one_shown : (p : Process) (fuel : ℕ) (written : Writing) (e g : End) (a b : List ℕ) → Shows p fuel written e a → Shows p fuel written g b → (e ≡ g) × (a ≡ b)
one_shown p fuel written e g a b x y =
    let one = one_run (opening p) fuel (end_of e) (end_of g) x.labels y.labels x.runs y.runs in
    let same : e ≡ g = sym (known_by e) ∙ ap finish_by one.0 ∙ known_by g in
    let bytes : written (steps_done (end_of e) x.runs.steps) e x.labels ≡ written (steps_done (end_of g) y.runs.steps) g y.labels =
    λ i. written (steps_done (one.0 i) (one.2 i)) (same i) (one.1 i) in
    (same, x.shows ∙ bytes ∙ sym y.shows)

one_pick : (p : Process) (seed fuel : ℕ) (written : Recording) (e g : End) (a b : List ℕ) → PicksAndShows p seed fuel written e a → PicksAndShows p seed fuel written g b → (e ≡ g) × (a ≡ b)
one_pick p seed fuel written e g a b x y =
    let one = one_picked p seed fuel written e g a b x y in (sym (known_by e) ∙ ap finish_by one.0 ∙ known_by g, one.1)

one_on_sites : (p : Process) (sites seed fuel : ℕ) (e g : End) (a b : List ℕ) → NetworkShows p sites seed fuel e a → NetworkShows p sites seed fuel g b → (e ≡ g) × (a ≡ b)
one_on_sites p sites seed fuel e g a b x y =
    let one = one_sited p sites seed fuel e g a b x y in (sym (known_by e) ∙ ap finish_by one.0 ∙ known_by g, one.1)

-- a command's work has one end, and writes the same bytes
one_work : (command : Command) (names : List (List ℕ)) (p : Process) (e g : End) (a b : List ℕ) → Does command names p e a → Does command names p g b → (e ≡ g) × (a ≡ b)
one_work (Run o) names p e g a b x y = one_shown p o.fuel _ e g a b x y
one_work (Trace o) names p e g a b x y = one_shown p o.fuel _ e g a b x y
one_work (Check o) names p e g a b x y = (x.done ∙ sym y.done, x.nothing ∙ sym y.nothing)
one_work (Code o) names p e g a b x y = (x.done ∙ sym y.done, x.listing ∙ sym y.listing)
one_work (Load n) names p e g a b x y = one_shown p default_fuel _ e g a b x y
one_work (Pick seed o) names p e g a b x y = one_pick p seed o.fuel _ e g a b x y
one_work (Picked seed o) names p e g a b x y = one_pick p seed o.fuel _ e g a b x y
one_work (Replay o trace) names p e g a b x y = (x.done ∙ sym y.done, x.nothing ∙ sym y.nothing)
one_work (Build o) names p e g a b x y = absurd x
one_work (Exec fuel object) names p e g a b x y = absurd x
one_work (Sites sites seed o) names p e g a b x y = one_on_sites p sites seed o.fuel e g a b x y

-- a process has one object, which is within the limit or isn't
beyond : (front : Front) (bytes : List ℕ) → IsObject front.names bytes front.core → length bytes ≤ OBJECT_LIMIT
    → ((others : List ℕ) → IsObject front.names others front.core → OBJECT_LIMIT < length others) → ⊥
beyond front bytes f few none = let more = none bytes f in omega (arith, few, more)

one_built : (sources : List Source) (front : Front) (a b : Answer) → IsBuilt sources front a → IsBuilt sources front b → a ≡ b
one_built sources front a b (built {bytes = xs} f few) (built {bytes = ys} g less) = ap (Ended sources Done) (one_object front.names xs ys front.core front.core f g refl)
one_built sources front a b (built {bytes = xs} f few) (too_big none) = absurd (beyond front xs f few none)
one_built sources front a b (too_big none) (built {bytes = ys} g less) = absurd (beyond front ys g less none)
one_built sources front a b (too_big none) (too_big also) = refl

one_made : (by : Bool) (command : Command) (sources : List Source) (front : Front) (a b : Answer) → IsMade by command sources front a → IsMade by command sources front b → a ≡ b
one_made true command sources front a b x y = one_built sources front a b x y
one_made false command sources front a b (e, ls, r, x) (g, ms, s, y) =
    let one = one_work command front.names front.core e g ls ms r s in
    x ∙ ap (λ end. Ended sources end ls) one.0 ∙ ap (Ended sources g) one.1 ∙ sym y

module _ (texts : Texts) (command : Command) where
  worked_once : (sources : List Source) (front : Front) (t : Option (List ℕ)) (a b : Answer) → HasNoRepeats front.names → IsWorked (MayGive (Some texts)) command sources front t a
      → IsWorked (MayGive (Some texts)) command sources front t b → a ≡ b
  worked_once sources front None a b distinct x y = one_made (builds command) command sources front a b x y
  worked_once sources front (Some trace) a b distinct x y = one_replayed texts trace front a b distinct x y

  one_done : (said : Option (Phase EarlyEnd Accepted)) (a b : Answer) → IsFront (MayGive (Some texts)) (prelude_of (origin_of command)) (name_of (origin_of command)) said
      → IsDone (MayGive (Some texts)) command said a → IsDone (MayGive (Some texts)) command said b → a ≡ b
  one_done None a b stands x y = x ∙ sym y
  one_done (Some (refuses (refused sources code span))) a b stands x y = x ∙ sym y
  one_done (Some (refuses (failed sources))) a b stands x y = absurd x
  one_done (Some (accepts p)) a b stands x y =
      let ordered = accepted_is_ordered (Some texts) (prelude_of (origin_of command)) (name_of (origin_of command)) p stands in
      worked_once p.sources p.front (trace_of command) a b ordered.0 x y

one_text_answer : (texts : Texts) (command : Command) (a b : Answer) → IsTextAnswer (MayGive (Some texts)) command a → IsTextAnswer (MayGive (Some texts)) command b → a ≡ b
one_text_answer texts command a b x y =
    let P : Option (Phase EarlyEnd Accepted) → Type 0 = λ said. IsDone (MayGive (Some texts)) command said a in
    let one = one_front texts (prelude_of (origin_of command)) (name_of (origin_of command)) in
    one_done texts command y.said a b y.front (subst P (one.2 x.said x.front ∙ sym (one.2 y.said y.front)) x.done) y.done

one_answer : (texts : Texts) (command : Command) (a b : Answer) → IsAnswer (MayGive (Some texts)) command a → IsAnswer (MayGive (Some texts)) command b → a ≡ b
one_answer texts (Exec fuel object) a b x y = one_executed texts object fuel a b x y
one_answer texts command a b x y = one_text_answer texts command a b x y

-- ---- outcomes

one_of_texts : (texts : Texts) (command : Command) (o p : Outcome) → Owes (MayGive (Some texts)) command o → Owes (MayGive (Some texts)) command p → o ≡ p
one_of_texts texts command o p x y = x.comes ∙ ap outcome_of (one_answer texts command x.answer y.answer x.answers y.answers) ∙ sym y.comes

one_of_command : (held : Option Texts) (command : Command) (o p : Outcome) → IsTold held (origin_of command) → Owes (given held (origin_of command)) command o → Owes (given held (origin_of command)) command p → o ≡ p
one_of_command held command o p (texts, told) x y =
    let given_by : Outcome → Option Texts → Type 0 = λ q reads. Owes (MayGive reads) command q in
    one_of_texts texts command o p (subst (given_by o) told x) (subst (given_by p) told y)

pub at_most_one : (words : List (List ℕ)) (held : Option Texts) (o p : Outcome) → ((command : Command) → HasShape words command → IsTold held (origin_of command)) → OwesWords words held o → OwesWords words held p → o ≡ p
at_most_one words held o p told (inl (c, s, x)) (inl (d, t, y)) =
    let P : Command → Type 0 = λ command. Owes (given held (origin_of command)) command o in
    one_of_command held d o p (told d t) (subst P (one_command words c d s t) x) y
at_most_one words held o p told (inl (c, s, x)) (inr (none, e)) = absurd (none c s)
at_most_one words held o p told (inr (none, e)) (inl (d, t, y)) = absurd (none d t)
at_most_one words held o p told (inr (none, e)) (inr (none', e')) = e ∙ sym e'

-- ---- the status Usage

decides_else : (a : Answer) → (outcome_of a).status ≡ status.Usage → ⊥
decides_else (Absent name) is = cc
decides_else (Refusal sources code span) is = cc
decides_else (Ended sources Done bytes) is = cc
decides_else (Ended sources FuelSpent bytes) is = cc
decides_else (Ended sources (Trap at) bytes) is = cc
decides_else (Judged Yes) is = cc
decides_else (Judged (No k)) is = cc
decides_else (Executed object guarded.Done bytes) is = cc
decides_else (Executed object guarded.FuelSpent bytes) is = cc
decides_else (Executed object (guarded.Trap at) bytes) is = cc
decides_else (Executed object guarded.Misshapen bytes) is = cc

pub usage_is_for_no_shape : (words : List (List ℕ)) (held : Option Texts) (o : Outcome) → OwesWords words held o → o.status ≡ status.Usage → HasNoShape words
usage_is_for_no_shape words held o (inl (command, shape, owes)) is =
    absurd (decides_else owes.answer (sym (ap (λ x. x.status) owes.comes) ∙ is))
usage_is_for_no_shape words held o (inr (none, e)) is = none
