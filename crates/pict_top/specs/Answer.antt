-- The answer to a file by the definitions: there is no such file, or a text is refused, or the command does its work with the
-- program, or says whether a replay file agrees with it, or writes its object. An object is answered as a file of its own: there is
-- none, or it is refused, or run.
use Rattle.std.specs.Prelude.{◌≡◌, ℕ, ◌≤◌, ◌<◌, Bool, true, false, List, [], ◌∷◌, length, Option, Some, None}
use Rattle.pict_syntax.specs.declared.limits.TheConstants.{TEXT_LIMIT, OBJECT_LIMIT}
use Rattle.pict_syntax.specs.declared.code.Code as refusals
use Rattle.pict_syntax.specs.declared.code.Code.TheVariants.{B1, V1, O1, O2}
use Rattle.pict_syntax.specs.declared.source.Source.{Source}
use Rattle.pict_syntax.specs.declared.span.Span.{Span}
use Rattle.pict_core.specs.Term.{Process}
use Rattle.pict_core.specs.Step.{Label}
use Rattle.pict_core.specs.Run.{Runs, bytes_of, steps_done}
use Rattle.pict_core.specs.Places.{Place}
use Rattle.pict_code.specs.Nodes.{nodes_of}
use Rattle.pict_code.specs.Listing.{listing_text}
use Rattle.pict_trace.specs.Lines.{lines_text}
use Rattle.pict_gather.specs.Phases.{Phase, accepts, refuses}
use Rattle.pict_gather.specs.Fetching.{Fetch, text, missing}
use Rattle.pict_gather.specs.Gathered.{EarlyEnd, refused, failed}
use Rattle.pict_front.specs.Front.{Front, Accepted, IsFront, first_place}
use Rattle.pict_replay.specs.Files.{IsFileFor, IsNoFile}
use Rattle.pict_replay.specs.Replayed.{Line}
use Rattle.pict_replay.specs.Verdicts.{IsVerdict}
use Rattle.pict_replay.specs.declared.judging.Verdict.{Verdict}
use Rattle.pict_object.specs.Cores.{IsObject}
use Rattle.pict_object.specs.Decoded.{IsNoObject, IsDecoded}
use Rattle.pict_built.specs.Laws.{AreBytes}
use Rattle.pict_exec.specs.Ends as guarded
use Rattle.pict_exec.specs.declared.guarded.ExecEnd.{ExecEnd}
use Rattle.pict_words.specs.Words.{Command, Run, Trace, Check, Code, Load, Pick, Picked, Replay, Build, Exec, Sites, default_fuel}
use Rattle.pict_load.specs.Text.{load_text}
use Rattle.pict_load.specs.Counted.{communications_of}
use Rattle.pict_load.specs.Summary.{summary_text}
use Rattle.pict_top.specs.Origins.{origin_of, name_of, prelude_of, trace_of, builds}
use Rattle.pict_machine.specs.Events.{end_of}
use Rattle.pict_top.specs.Picking.{PicksAndShows, picked_bytes, recorded}
use Rattle.pict_top.specs.Siting.{NetworkShows}
use Rattle.pict_machine.specs.declared.event.End.{End}
use Rattle.pict_machine.specs.declared.event.End.TheVariants.{Done}

-- What a command does with an accepted program: how it ends, and which bytes it writes.
abbrev pub Work : Type 1
Work = End → List ℕ → Type 0

-- what is written of a run, by the number of steps done, its end and its labels
abbrev pub Writing : Type 0
Writing = ℕ → End → List (ℕ × Label) → List ℕ

-- The process runs with this fuel, and what is written are these bytes of its run.
pub record Shows (process : Process) (fuel : ℕ) (written : Writing) (end : End) (bytes : List ℕ) : Type 0 where
  pub labels : List (ℕ × Label)
  pub runs : Runs process fuel (end_of end) labels
  pub shows : bytes ≡ written (steps_done (end_of end) runs.steps) end labels

-- the bytes that are printed
abbrev pub printed : Writing
printed steps end labels = bytes_of labels

-- a line for each communication and each printing
abbrev pub traced : List (List ℕ) → Writing
traced names steps end labels = lines_text names labels

-- the summary of the run of the program that is made from n
abbrev pub summed_up : ℕ → Writing
summed_up n steps end labels =
    summary_text n (length (load_text n)) (record { end = end; steps = steps; communications = communications_of labels; printed = length (bytes_of labels) })

-- The listing of the process' instructions is written, and that is all.
pub record Lists (names : List (List ℕ)) (process : Process) (end : End) (bytes : List ℕ) : Type 0 where
  pub done : end ≡ Done
  pub listing : bytes ≡ listing_text names (nodes_of process)

-- The program is accepted, and that is all: nothing is written.
pub record IsChecked (end : End) (bytes : List ℕ) : Type 0 where
  pub done : end ≡ Done
  pub nothing : bytes ≡ []

-- What a command does with the names and the core process of a program: a row for each command. `replay` checks it as `check` does;
-- what it answers hangs on its second file, as `IsReplayed` says. What `build` comes to says `IsBuilt`, and `exec` has no program:
-- neither has a row.
abbrev pub Does : Command → List (List ℕ) → Process → Work
Does (Run options) names process = Shows process options.fuel printed
Does (Trace options) names process = Shows process options.fuel (traced names)
Does (Check options) names process = IsChecked
Does (Code options) names process = Lists names process
Does (Load n) names process = Shows process default_fuel (summed_up n)
Does (Pick seed options) names process = PicksAndShows process seed options.fuel picked_bytes
Does (Picked seed options) names process = PicksAndShows process seed options.fuel (recorded names)
Does (Replay options trace) names process = IsChecked
Does (Build options) names process = λ end bytes. ⊥
Does (Exec fuel object) names process = λ end bytes. ⊥
Does (Sites sites seed options) names process = NetworkShows process sites seed options.fuel

-- With the name of the text that isn't there, or with the texts that were read. A refusal, and how the work ended, may stand in any of them.
-- The run of an object has its name, its end and the bytes that it printed
pub data Answer : Type 0 where
  Absent : List ℕ → Answer
  Refusal : List Source → refusals.Code → Span → Answer
  Ended : List Source → End → List ℕ → Answer
  Judged : Verdict → Answer
  Executed : List ℕ → ExecEnd → List ℕ → Answer

-- a text alone, and a byte of it
abbrev pub alone : List ℕ → List ℕ → List Source
alone name t = record { name = name; text = t } ∷ []

abbrev pub byte_at : ℕ → Span
byte_at at = record { text = 0; start = at; end = at }

-- What is answered on the text under this name as a replay file, where `Gives` says what a shelf gives, and this program is accepted:
-- it isn't there, or is too long, or no replay file; or it is one, whose choices and lines agree with the program or have a fault.
pub data IsReplayed (Gives : List ℕ → Fetch → Type 0) (trace : List ℕ) (front : Front) : Answer → Type 0 where
  not_there : Gives trace missing → IsReplayed Gives trace front (Absent trace)
  too_long : {t : List ℕ} → Gives trace (text t) → TEXT_LIMIT < length t → IsReplayed Gives trace front (Refusal (alone trace []) B1 (byte_at 0))
  no_file : {t : List ℕ} {at : ℕ} → Gives trace (text t) → length t ≤ TEXT_LIMIT → IsNoFile t at → IsReplayed Gives trace front (Refusal (alone trace t) V1 (byte_at at))
  judged : {t : List ℕ} {names : List (List ℕ)} {places : List Place} {lines : List Line} {verdict : Verdict}
      → Gives trace (text t) → length t ≤ TEXT_LIMIT → IsFileFor front.names names t places lines → IsVerdict front.core places lines verdict
      → IsReplayed Gives trace front (Judged verdict)

-- What `build` comes to with an accepted program: the object of its process is written, and that is all; or each object of it is too
-- long, and the file is refused at its first byte.
pub data IsBuilt (sources : List Source) (front : Front) : Answer → Type 0 where
  built : {bytes : List ℕ} → IsObject front.names bytes front.core → length bytes ≤ OBJECT_LIMIT → IsBuilt sources front (Ended sources Done bytes)
  too_big : ((bytes : List ℕ) → IsObject front.names bytes front.core → OBJECT_LIMIT < length bytes) → IsBuilt sources front (Refusal sources O2 first_place)

-- what a command comes to with an accepted program alone, by whether it builds
abbrev pub IsMade : Bool → Command → List Source → Front → Answer → Type 0
IsMade false command sources front answer =
    (end : End) × (bytes : List ℕ) × Does command front.names front.core end bytes × (answer ≡ Ended sources end bytes)
IsMade true command sources front answer = IsBuilt sources front answer

-- what a command comes to with an accepted program, by the name of its replay file, where it takes one
abbrev pub IsWorked : (List ℕ → Fetch → Type 0) → Command → List Source → Front → Option (List ℕ) → Answer → Type 0
IsWorked Gives command sources front None answer = IsMade (builds command) command sources front answer
IsWorked Gives command sources front (Some trace) answer = IsReplayed Gives trace front answer

-- behind the phases before the command's own work. That the shelf failed is no answer
abbrev pub IsDone : (List ℕ → Fetch → Type 0) → Command → Option (Phase EarlyEnd Accepted) → Answer → Type 0
IsDone Gives command None answer = answer ≡ Absent (name_of (origin_of command))
IsDone Gives command (Some (refuses (refused sources code span))) answer = answer ≡ Refusal sources code span
IsDone Gives command (Some (refuses (failed sources))) answer = ⊥
IsDone Gives command (Some (accepts a)) answer = IsWorked Gives command a.sources a.front (trace_of command) answer

-- where `Gives` says what a command is given under a name, and it takes the text of a program
pub record IsTextAnswer (Gives : List ℕ → Fetch → Type 0) (command : Command) (answer : Answer) : Type 0 where
  pub said : Option (Phase EarlyEnd Accepted)
  pub front : IsFront Gives (prelude_of (origin_of command)) (name_of (origin_of command)) said
  pub done : IsDone Gives command said answer

-- These bytes are the object of a process, whose labels are numbered by the object's own, and which has no places. It runs with this
-- fuel to this end, and prints these bytes.
pub record RunsObject (object : List ℕ) (fuel : ℕ) (end : ExecEnd) (bytes : List ℕ) : Type 0 where
  pub names : List (List ℕ)
  pub process : Process
  pub is : IsDecoded [] names object process
  pub labels : List (ℕ × Label)
  pub runs : Runs process fuel (guarded.end_of end) labels
  pub prints : bytes ≡ bytes_of labels

-- What `exec` comes to with the file of this name and this fuel: it isn't there; or is too long, or no object, and refused at its first
-- byte; or it is run, and a wrong step within the fuel is the end of that.
pub data IsExecuted (Gives : List ℕ → Fetch → Type 0) (object : List ℕ) (fuel : ℕ) : Answer → Type 0 where
  none_there : Gives object missing → IsExecuted Gives object fuel (Absent object)
  over_limit : {t : List ℕ} → Gives object (text t) → OBJECT_LIMIT < length t → IsExecuted Gives object fuel (Refusal (alone object []) O2 (byte_at 0))
  no_object : {t : List ℕ} → Gives object (text t) → length t ≤ OBJECT_LIMIT → (AreBytes t → IsNoObject t)
      → IsExecuted Gives object fuel (Refusal (alone object []) O1 (byte_at 0))
  executed : {t bytes : List ℕ} {end : ExecEnd} → Gives object (text t) → length t ≤ OBJECT_LIMIT → AreBytes t → RunsObject t fuel end bytes
      → IsExecuted Gives object fuel (Executed object end bytes)

-- where `Gives` says what a command is given under a name
abbrev pub IsAnswer : (List ℕ → Fetch → Type 0) → Command → Answer → Type 0
IsAnswer Gives (Exec fuel object) answer = IsExecuted Gives object fuel answer
IsAnswer Gives command answer = IsTextAnswer Gives command answer
