-- What becomes of processes in a step, whatever keeps them.
use Rattle.std.specs.Prelude.{Bool, true, false, List, [], ◌∷◌}
use Rattle.pict_syntax.specs.declared.span.Span.{Span}
use Rattle.pict_core.specs.Step.{Label}

-- They move on and show a label, stop at a place by a zero divisor, or the step is wrong; or nothing is ready.
pub data Moved (S : Type 0) : Type 0 where
  Moves : S → Label → Moved S
  Stops : Span → Moved S
  Misshapen : Moved S
  Over : Moved S

-- a replicated reader stays, a plain one ends
abbrev pub if_replicated : {A : Type 0} → Bool → A → List A
if_replicated true reader = reader ∷ []
if_replicated false reader = []
