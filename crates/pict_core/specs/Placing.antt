-- A deed, placed in a configuration.
use Rattle.std.specs.Prelude.{ℕ, ◌≡◌, Option, option_map, unwrap_or}
use Rattle.pict_core.specs.Term.{Process}
use Rattle.pict_core.specs.Configuration.{Ready, Parked, Entry, Configuration}
use Rattle.pict_core.specs.Step.{StepOutcome, Steps, Traps, Wrong, Quiet, Comm, gone, kept, added, with_channel, served, took, act}
use Rattle.pict_core.specs.Deed.{Deed, Ends, Keeps, Forks, Opens, Parks, Serves, Takes, Stops, Misfits, deed}

-- the deed of the process at stamp s, whose partner, if it has one, is at stamp r
abbrev pub place : Configuration → ℕ → ℕ → Deed → StepOutcome
place C s r (Ends label) = Steps (gone s C) label
place C s r (Keeps p label) = Steps (kept s p C) label
place C s r (Forks p q) = Steps (added Ready q (kept s p C)) Quiet
place C s r (Opens p) = Steps (kept s p (with_channel C)) Quiet
place C s r (Parks c p) = Steps (added Parked p (gone s C)) Quiet
place C s r (Serves c v replicated reader body) =
    Steps (served replicated reader (added Ready body (gone r (gone s C)))) (Comm c v)
place C s r (Takes c v replicated body) = Steps (added Ready body (gone r (took replicated s C))) (Comm c v)
place C s r (Stops at) = Traps at
place C s r Misfits = Wrong

abbrev pub stamp_or_none : Option Entry → ℕ
stamp_or_none partner = unwrap_or (option_map (λ (u : Entry). u.stamp) partner) 0

-- What becomes of a configuration in the step of a process is the deed of the process, placed.
abbrev pub ActsArePlaced : Type 0
ActsArePlaced =
    (C : Configuration) (s : ℕ) (partner : Option Entry) (p : Process)
    → act C s partner p ≡ place C s (stamp_or_none partner) (deed C.channels (option_map (λ (u : Entry). u.process) partner) p)
