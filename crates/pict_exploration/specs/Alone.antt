-- Reductions of one process by itself that print nothing: conditionals, and outputs to primitives.
use Rattle.std.specs.Prelude.{ℕ, List, []}
use Rattle.pict_core.specs.Term.{Process}
use Rattle.pict_reduction.specs.Congruence.{Congruent}
use Rattle.pict_reduction.specs.Reduction.{Reduces}
use Rattle.pict_reduction.specs.Reduction as rule

-- what reduces is one process by itself: a conditional, or an output to a primitive
abbrev pub IsByItself : {n : ℕ} {bytes : List ℕ} {p q : Process} → Reduces n bytes p q → Type 0
IsByItself (rule.communicates name matches) = ⊥
IsByItself (rule.serves name matches) = ⊥
IsByItself rule.chooses = Unit {0}
IsByItself (rule.performs acts leaves) = Unit {0}
IsByItself (rule.in_par h) = IsByItself h
IsByItself (rule.in_new h) = IsByItself h
IsByItself (rule.up_to c h d) = IsByItself h

-- One process of p reduces by itself and prints nothing; q is what is left.
pub record ReducesAlone (n : ℕ) (p q : Process) : Type 0 where
  pub reduces : Reduces n [] p q
  pub alone : IsByItself reduces

-- Some such reductions, or none, lead from p to q, up to congruence.
pub data SettlesTo (n : ℕ) : Process → Process → Type 0 where
  at_end : {p q : Process} → Congruent n p q → SettlesTo n p q
  by_reduction : {p q r : Process} → ReducesAlone n p q → SettlesTo n q r → SettlesTo n p r
