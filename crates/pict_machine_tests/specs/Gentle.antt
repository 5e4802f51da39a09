-- Processes no step of which is wrong in any order: they send values to readers that take any value and end.
use Rattle.std.specs.Prelude.{ℕ, Bool}
use Rattle.pict_syntax.specs.declared.span.Span.{Span}
use Rattle.pict_core.specs.Closed.{IsUnder}
use Rattle.pict_core.specs.Term.{Val, Any, Process, Zero, Par, New, Out, In}
use Rattle.pict_reduction.specs.Reduction.{IsName}

pub data IsGentle : Process → Type 0 where
  ends : IsGentle Zero
  both : {p q : Process} → IsGentle p → IsGentle q → IsGentle (Par p q)
  opens : {p : Process} → IsGentle p → IsGentle (New p)
  sends : {chan message : Val} {at : Span} → IsName chan → IsGentle (Out chan message at)
  reads : {chan : Val} {replicated : Bool} → IsName chan → IsGentle (In chan replicated Any Zero)

-- gentle, and over so many variables
pub record IsGentleOver (n : ℕ) (p : Process) : Type 0 where
  pub gentle : IsGentle p
  pub under : IsUnder n 0 p
