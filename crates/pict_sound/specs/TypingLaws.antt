-- The laws of well typed configurations, each the contract of a public function that does nothing.
use Rattle.std.specs.Prelude.{ℕ, ◌≡◌, List, [], ◌∷◌}
use Rattle.pict_core.specs.Term.{Process}
use Rattle.pict_core.specs.Configuration.{Configuration, opening}
use Rattle.pict_core.specs.Step.{Label, Choice, Free, IsWrong, Wrong, next}
use Rattle.pict_core.specs.Run.{Reaches, Misshapen, Runs}
use Rattle.pict_typing.specs.Worlds.{over}
use Rattle.pict_typing.specs.Processes.{IsTyped, IsWellTyped}
use Rattle.pict_reduction.specs.Reached.{FreelyReaches}

-- Each free step of a well typed configuration gives a well typed one.
abbrev pub FreeStepsKeepTyping : Type 0
FreeStepsKeepTyping = (names : List (List ℕ)) (C : Configuration) (choice : Choice) (D : Configuration) (label : Label)
    → IsWellTyped names C → Free C choice D label → IsWellTyped names D

-- A well typed configuration isn't wrong.
abbrev pub WellTypedIsNotWrong : Type 0
WellTypedIsNotWrong = (names : List (List ℕ)) (C : Configuration) → IsWellTyped names C → IsWrong C → ⊥

-- the free steps of these choices, one after the other, lead from one configuration to another
pub data LeadTo : List Choice → Configuration → Configuration → Type 0 where
  nowhere : {C : Configuration} → LeadTo [] C C
  first : {C D E : Configuration} {choice : Choice} {choices : List Choice} {label : Label}
      → Free C choice D label → LeadTo choices D E → LeadTo (choice ∷ choices) C E

-- No list of choices leads from a well typed configuration to a wrong one.
abbrev pub NoChoicesGoWrong : Type 0
NoChoicesGoWrong = (names : List (List ℕ)) (choices : List Choice) (C D : Configuration)
    → IsWellTyped names C → LeadTo choices C D → IsWrong D → ⊥

-- No configuration that free steps reach from the opening one of a typed process is wrong.
abbrev pub TypedIsNeverWrong : Type 0
TypedIsNeverWrong = (names : List (List ℕ)) (p : Process) (C : Configuration)
    → IsTyped (over names []) p → FreelyReaches (opening p) C → IsWrong C → ⊥

-- In an oldest-first run of a typed process no step is wrong, and no run of it ends by a wrong step.
abbrev pub TypedStepsAreNotWrong : Type 0
TypedStepsAreNotWrong = (names : List (List ℕ)) (p : Process) (n : ℕ) (labels : List (ℕ × Label)) (C : Configuration)
    → IsTyped (over names []) p → Reaches n (opening p) labels C → next C ≡ Wrong → ⊥

abbrev pub TypedRunsAreNotWrong : Type 0
TypedRunsAreNotWrong = (names : List (List ℕ)) (p : Process) (fuel : ℕ) (labels : List (ℕ × Label))
    → IsTyped (over names []) p → Runs p fuel Misshapen labels → ⊥
