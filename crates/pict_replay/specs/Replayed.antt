-- Choices and the lines of a trace, replayed: whether the lines are those of the choices' run, and else the first step at fault.
use Rattle.std.specs.Prelude.{ℕ, ◌≡◌, ◌≢◌, ◌+◌, Bool, true, false, ◌||◌, nat_eq, nat_lt, List, [], ◌∷◌, ◌++◌, length, if◌then◌else◌}
use Rattle.pict_syntax.specs.declared.span.Span.{Span}
use Rattle.pict_core.specs.Term.{Process}
use Rattle.pict_core.specs.Configuration.{Configuration, opening}
use Rattle.pict_core.specs.Step.{Label, Steps, Traps}
use Rattle.pict_core.specs.Run.{shown}
use Rattle.pict_core.specs.Places.{Place, IsPlace, outcome_at}
use Rattle.pict_core.specs.FreeRun.{FreelyRuns}

-- a line: a label, with the number of its step before it
abbrev pub Line : Type 0
Line = ℕ × Label

-- Choices and lines agree: each choice is possible, and the lines are the labels of the steps that aren't quiet, with the
-- numbers of the steps.
pub record Agrees (p : Process) (choices : List Place) (lines : List Line) : Type 0 where
  pub last : Configuration
  pub runs : FreelyRuns (opening p) choices lines last

-- the label that the unused lines give for step k: that of the next line, where it has this number
abbrev pub given : ℕ → List Line → List Line
given k [] = []
given k (line ∷ lines) = if nat_eq line.0 k then line ∷ [] else []

-- the lines that are unused after step k
abbrev pub unused_after : ℕ → List Line → List Line
unused_after k [] = []
unused_after k (line ∷ lines) = if nat_eq line.0 k then lines else line ∷ lines

-- some line has a number below k
abbrev pub is_overdue : ℕ → List Line → Bool
is_overdue k [] = false
is_overdue k (line ∷ lines) = nat_lt line.0 k || is_overdue k lines

-- These choices are done from C, one after the other, and none of their steps is at fault. Behind them stand the
-- configuration that they lead to, and the lines that are still unused there.
pub data Replays (C : Configuration) (lines : List Line) : List Place → Configuration → List Line → Type 0 where
  at_start : Replays C lines [] C lines
  by_step : {choices : List Place} {D E : Configuration} {unused : List Line} {place : Place} {label : Label}
      → Replays C lines choices D unused
      → is_overdue (length choices + 1) unused ≡ false → IsPlace D place → outcome_at D place ≡ Steps E label
      → shown (length choices + 1) label ≡ given (length choices + 1) unused
      → Replays C lines (choices ++ place ∷ []) E (unused_after (length choices + 1) unused)

-- Step k, from D, with these lines unused and these choices left, is at fault.
pub data IsAtFault (k : ℕ) (D : Configuration) (unused : List Line) : List Place → Type 0 where
  -- an unused line has a number below k
  overdue : {rest : List Place} → is_overdue k unused ≡ true → IsAtFault k D unused rest
  -- no choice is left, and lines are left over
  left_over : unused ≢ [] → IsAtFault k D unused []
  -- the choice isn't possible: there is no such process or no such partner, or the step divides by zero
  no_place : {place : Place} {rest : List Place} → ¬ IsPlace D place → IsAtFault k D unused (place ∷ rest)
  traps : {place : Place} {rest : List Place} {at : Span} → outcome_at D place ≡ Traps at → IsAtFault k D unused (place ∷ rest)
  -- the step shows another label than the lines give, or one where they give none, or none where they give one
  differs : {place : Place} {rest : List Place} {E : Configuration} {label : Label}
      → outcome_at D place ≡ Steps E label → shown k label ≢ given k unused → IsAtFault k D unused (place ∷ rest)

-- The fault of choices and lines: step k is at fault, and none before it is.
pub record IsFault (p : Process) (choices : List Place) (lines : List Line) (k : ℕ) : Type 0 where
  pub before : List Place
  pub rest : List Place
  pub whole : choices ≡ before ++ rest
  pub number : k ≡ length before + 1
  pub at : Configuration
  pub unused : List Line
  pub replays : Replays (opening p) lines before at unused
  pub fails : IsAtFault k at unused rest
