-- What files come to, by what the front says of them.
use Rattle.std.proofs.Common.{◌≡◌, ℕ, Bool, true, false, List, Option, Some, None, refl, sym, ◌∙◌, ap, subst}
use Rattle.pict_syntax.specs.declared.code.Code.{Code}
use Rattle.pict_syntax.specs.declared.source.Source.{Source}
use Rattle.pict_syntax.specs.declared.span.Span.{Span}
use Rattle.pict_words.specs.Words.{Command, Build, Exec}
use Rattle.pict_exec.specs.declared.guarded.ExecEnd.{ExecEnd}
use Rattle.pict_exec.specs.declared.guarded.ExecEnd.TheVariants as guarded
use Rattle.pict_gather.specs.Phases.{Phase, accepts, refuses}
use Rattle.pict_gather.specs.Fetching.{Fetch, missing}
use Rattle.pict_gather.specs.Gathered.{EarlyEnd, refused, failed}
use Rattle.pict_gather.specs.Reached.{Absent as absent, Reaches, not_there as no_such_file}
use Rattle.pict_front.specs.Front.{Front, Accepted, IsFront}
use Rattle.pict_replay.specs.declared.judging.Verdict.TheVariants.{Yes, No}
use Rattle.pict_top.specs.Origins.{origin_of, name_of, prelude_of, trace_of, TakesText, Works, builds}
use Rattle.pict_machine.specs.declared.event.End.{End}
use Rattle.pict_machine.specs.declared.event.End.TheVariants.{Done, FuelSpent, Trap}
use Rattle.pict_top.specs.declared.status.Status.TheVariants as status
use Rattle.pict_top.specs.Answer.{Answer, Absent, Refusal, Ended, Executed, IsReplayed, not_there, too_long, no_file, judged, IsBuilt, built, too_big, IsMade, IsWorked, IsDone, IsTextAnswer, IsExecuted, none_there, over_limit, no_object, executed, IsAnswer}
use Rattle.pict_top.specs.Outcome.{Outcome, outcome_of}
use Rattle.pict_top.specs.Owed.{Owes, OwesText, OwesWork, OwesReplay, OwesObject, OwesMade, OwesRun}

-- the name of a command's file
abbrev pub name : Command → List ℕ
name command = name_of (origin_of command)

module _ (G : List ℕ → Fetch → Type 0) (command : Command) where
  abbrev Stands : Option (Phase EarlyEnd Accepted) → Type 0
  Stands = IsFront G (prelude_of (origin_of command)) (name command)

  pub owes_absent : Stands None → OwesText G command (outcome_of (Absent (name command)))
  owes_absent stands = record { answer = Absent (name command); answers = record { said = None; front = stands; done = refl }; comes = refl }

  pub owes_refusal : (sources : List Source) (code : Code) (span : Span) → Stands (Some (refuses (refused sources code span))) → OwesText G command (outcome_of (Refusal sources code span))
  owes_refusal sources code span stands =
      record { answer = Refusal sources code span; answers = record { said = Some (refuses (refused sources code span)); front = stands; done = refl }; comes = refl }

  pub owes_made : (a : Accepted) → trace_of command ≡ None → Stands (Some (accepts a)) → (o : Outcome) → OwesMade a.sources a.front command o → OwesText G command o
  owes_made a takes stands o (answer, made, comes) =
      record {
        answer = answer;
        answers = record { said = Some (accepts a); front = stands; done = subst (λ t. IsWorked G command a.sources a.front t answer) (sym takes) made };
        comes = comes;
      }

  pub owes_replay : (a : Accepted) (trace : List ℕ) → trace_of command ≡ Some trace → Stands (Some (accepts a)) → (o : Outcome) → OwesReplay G trace a.front o → OwesText G command o
  owes_replay a trace takes stands o (answer, replayed, comes) =
      record {
        answer = answer;
        answers = record { said = Some (accepts a); front = stands; done = subst (λ t. IsWorked G command a.sources a.front t answer) (sym takes) replayed };
        comes = comes;
      }

  -- ---- where each text is there none is missing

  ends_there : (sources : List Source) (end : End) (bytes : List ℕ) → (outcome_of (Ended sources end bytes)).status ≡ status.Missing → ⊥
  ends_there sources Done bytes is = cc
  ends_there sources FuelSpent bytes is = cc
  ends_there sources (Trap at) bytes is = cc

  replay_there : (trace : List ℕ) (front : Front) (a : Answer) → (G trace missing → ⊥) → IsReplayed G trace front a → (outcome_of a).status ≡ status.Missing → ⊥
  replay_there trace front a there (not_there m) is = there m
  replay_there trace front a there (too_long m l) is = cc
  replay_there trace front a there (no_file m l n) is = cc
  replay_there trace front a there (judged {verdict = Yes} m l f v) is = cc
  replay_there trace front a there (judged {verdict = No k} m l f v) is = cc

  built_there : (sources : List Source) (front : Front) (a : Answer) → IsBuilt sources front a → (outcome_of a).status ≡ status.Missing → ⊥
  built_there sources front a (built f few) is = cc
  built_there sources front a (too_big none) is = cc

  made_there : (b : Bool) (sources : List Source) (front : Front) (a : Answer) → IsMade b command sources front a → (outcome_of a).status ≡ status.Missing → ⊥
  made_there false sources front a (end, bytes, does, e) is = ends_there sources end bytes (sym (ap (λ b. (outcome_of b).status) e) ∙ is)
  made_there true sources front a made is = built_there sources front a made is

  worked_there : (sources : List Source) (front : Front) (t : Option (List ℕ)) (a : Answer) → ((trace : List ℕ) → t ≡ Some trace → G trace missing → ⊥) → IsWorked G command sources front t a
      → (outcome_of a).status ≡ status.Missing → ⊥
  worked_there sources front None a there made is = made_there (builds command) sources front a made is
  worked_there sources front (Some trace) a there replayed is = replay_there trace front a (there trace refl) replayed is

  lacks_file : (prelude : Option (List ℕ)) (file : List ℕ) → Reaches G prelude file absent → G file missing
  lacks_file prelude file (no_such_file m) = m

  done_there : (said : Option (Phase EarlyEnd Accepted)) (a : Answer) → (G (name command) missing → ⊥) → ((trace : List ℕ) → trace_of command ≡ Some trace → G trace missing → ⊥) → Stands said
      → IsDone G command said a → (outcome_of a).status ≡ status.Missing → ⊥
  done_there None a there second stands is e = there (lacks_file (prelude_of (origin_of command)) (name command) stands)
  done_there (Some (refuses (refused sources code span))) a there second stands is e = let x : status.Refused ≡ status.Missing = sym (ap (λ b. (outcome_of b).status) is) ∙ e in cc
  done_there (Some (refuses (failed sources))) a there second stands is e = is
  done_there (Some (accepts b)) a there second stands is e = worked_there b.sources b.front (trace_of command) a second is e

  text_there : (a : Answer) → (G (name command) missing → ⊥) → ((trace : List ℕ) → trace_of command ≡ Some trace → G trace missing → ⊥) → IsTextAnswer G command a → (outcome_of a).status ≡ status.Missing → ⊥
  text_there a there second x is = done_there x.said a there second x.front x.done is

module _ (G : List ℕ → Fetch → Type 0) where
  guarded_there : (object bytes : List ℕ) (end : ExecEnd) → (outcome_of (Executed object end bytes)).status ≡ status.Missing → ⊥
  guarded_there object bytes guarded.Done is = cc
  guarded_there object bytes guarded.FuelSpent is = cc
  guarded_there object bytes (guarded.Trap at) is = cc
  guarded_there object bytes guarded.Misshapen is = cc

  object_there : (object : List ℕ) (fuel : ℕ) (a : Answer) → (G object missing → ⊥) → IsExecuted G object fuel a → (outcome_of a).status ≡ status.Missing → ⊥
  object_there object fuel a there (none_there m) is = there m
  object_there object fuel a there (over_limit m l) is = cc
  object_there object fuel a there (no_object m l n) is = cc
  object_there object fuel a there (executed {bytes = bytes} {end = end} m l f r) is = guarded_there object bytes end is

  answer_there : (command : Command) (a : Answer) → (G (name command) missing → ⊥) → ((trace : List ℕ) → trace_of command ≡ Some trace → G trace missing → ⊥) → IsAnswer G command a → (outcome_of a).status ≡ status.Missing → ⊥
  answer_there (Exec fuel object) a there second x is = object_there object fuel a there x is
  answer_there command a there second x is = text_there G command a there second x is

  pub not_missing : (command : Command) (o : Outcome) → (G (name command) missing → ⊥) → ((trace : List ℕ) → trace_of command ≡ Some trace → G trace missing → ⊥) → Owes G command o → o.status ≡ status.Missing → ⊥
  not_missing command o there second owes is = answer_there command owes.answer there second owes.answers (sym (ap (λ x. x.status) owes.comes) ∙ is)

  -- ---- by what a command takes

  text_answer : (command : Command) (a : Answer) → TakesText command → IsTextAnswer G command a → IsAnswer G command a
  text_answer (Exec fuel object) a takes x = absurd takes
  text_answer command a takes x = x

  pub owes_text : (command : Command) (o : Outcome) → TakesText command → OwesText G command o → Owes G command o
  owes_text command o takes owes = record { answer = owes.answer; answers = text_answer command owes.answer takes owes.answers; comes = owes.comes }

  pub owes_run : (object : List ℕ) (fuel : ℕ) (o : Outcome) → OwesRun G object fuel o → Owes G (Exec fuel object) o
  owes_run object fuel o (answer, x, comes) = record { answer = answer; answers = x; comes = comes }

-- ---- by whether it builds

pub made_by_work : (sources : List Source) (front : Front) (command : Command) (o : Outcome) → builds command ≡ false → OwesWork sources front command o → OwesMade sources front command o
made_by_work sources front command o none (end, bytes, does, comes) =
    let made : IsMade false command sources front (Ended sources end bytes) = (end, bytes, does, refl) in
    (Ended sources end bytes, subst (λ b. IsMade b command sources front (Ended sources end bytes)) (sym none) made, comes)

pub made_by_build : (sources : List Source) (front : Front) (command : Command) (o : Outcome) → builds command ≡ true → OwesObject sources front o → OwesMade sources front command o
made_by_build sources front command o is (answer, made, comes) = (answer, subst (λ b. IsMade b command sources front answer) (sym is) made, comes)

pub works_by : (command : Command) → TakesText command → builds command ≡ false → Works command
works_by (Exec fuel object) takes none = takes
works_by (Build options) takes none = absurd (let x : true ≡ false = none in cc)
works_by command takes none = tt
