-- The laws of what words come to.
use Rattle.std.specs.Prelude.{◌≡◌, ℕ, ◌≤◌, Bool, List, length, Option, Some}
use Rattle.std.specs.List.{AllByRecursion}
use Rattle.pict_syntax.specs.declared.limits.TheConstants.{TEXT_LIMIT, OBJECT_LIMIT}
use Rattle.pict_outside.specs.Texts.{Texts}
use Rattle.pict_core.specs.Term.{Process}
use Rattle.pict_core.specs.Closed.{IsClosed}
use Rattle.pict_gather.specs.Phases.{Exactly, accepts}
use Rattle.pict_gather.specs.Fetching.{MayGive, text}
use Rattle.pict_front.specs.Front.{Accepted, IsFront}
use Rattle.pict_ranges.specs.Ranges.{NestsWithin}
use Rattle.pict_object.specs.Cores.{IsObject}
use Rattle.pict_built.specs.Laws.{AreBytes}
use Rattle.pict_exec.specs.declared.guarded.ExecEnd.{ExecEnd}
use Rattle.pict_replay.specs.declared.judging.Verdict.TheVariants.{Yes}
use Rattle.pict_words.specs.Words.{HasShape, Load}
use Rattle.pict_top.specs.Answer.{Judged, Executed, Shows, printed, IsReplayed, IsExecuted}
use Rattle.pict_top.specs.Origins.{File, prelude_of}
use Rattle.pict_top.specs.Picking.{PicksAndShows, recorded}
use Rattle.pict_top.specs.Siting.{NetworkShows}
use Rattle.pict_machine.specs.declared.event.End.{End}
use Rattle.pict_top.specs.Outcome.{Outcome, status_of_end, status_of_guarded}
use Rattle.pict_top.specs.Owed.{OwesWords, FaultsWords}

-- words over a shelf that tells its texts come to exactly one outcome: to one, and to no other
abbrev pub OneOutcome : Type 0
OneOutcome = (words : List (List ℕ)) (texts : Texts) → Exactly (OwesWords words (Some texts))

-- over any shelf, whether or not it tells its texts, the words `load N` come to exactly one outcome; and there is no file whose
-- reading could fail
abbrev pub LoadNeedsNoShelf : Type 0
LoadNeedsNoShelf =
    (words : List (List ℕ)) (n : ℕ) (held : Option Texts) → HasShape words (Load n) → Exactly (OwesWords words held) × ((o : Outcome) → FaultsWords words held o → ⊥)

-- What `picked` writes of an accepted program, alone or behind the prelude, where that is no longer than a text may be and values
-- nest no deeper than in a line that is read, is answered `yes` over the same program.
abbrev pub PickedIsAnswered : Type 0
PickedIsAnswered =
    (held : Option Texts) (alone : Bool) (file trace bytes : List ℕ) (a : Accepted) (seed fuel : ℕ) (end : End)
    → IsFront (MayGive held) (prelude_of (File alone file)) file (Some (accepts a))
    → (r : PicksAndShows a.front.core seed fuel (recorded a.front.names) end bytes) → AllByRecursion NestsWithin r.labels → length bytes ≤ TEXT_LIMIT
    → MayGive held trace (text bytes) → IsReplayed (MayGive held) trace a.front (Judged Yes)

-- On one site a program runs as `run` runs it, whatever the seed: it ends so, and prints the same bytes.
abbrev pub OneSiteRunsAsText : Type 0
OneSiteRunsAsText =
    (process : Process) (seed fuel : ℕ) (end : End) (bytes : List ℕ) → IsClosed process
    → NetworkShows process 1 seed fuel end bytes → Shows process fuel printed end bytes

-- The object of an accepted program, as `build` writes it, is run by `exec` as `run` runs the program, whatever the fuel: with the same
-- status, which is never Misshapen, and the same bytes.
abbrev pub BuiltRunsAsText : Type 0
BuiltRunsAsText =
    (held : Option Texts) (prelude : Option (List ℕ)) (file object t bytes : List ℕ) (a : Accepted) (fuel : ℕ) (end : End)
    → IsFront (MayGive held) prelude file (Some (accepts a)) → IsObject a.front.names t a.front.core → length t ≤ OBJECT_LIMIT → AreBytes t
    → MayGive held object (text t) → Shows a.front.core fuel printed end bytes
    → (last : ExecEnd) × (status_of_guarded last ≡ status_of_end end) × IsExecuted (MayGive held) object fuel (Executed object last bytes)
