-- Replacements that keep kinds.
use Rattle.std.specs.Prelude.{◌≡◌, ℕ, List, Some}
use Rattle.pict_types.specs.Kinds.{Kind, proper, operator_of, kind_at, with_parameters, IsWellFormed}
use Rattle.pict_types.specs.Replacing.{Head, variable, operator, nothing, Replacement}

-- what stands for an operator variable of n arguments is a variable like it, or an operator of as many parameters
abbrev pub StandsForOperator : List (List ℕ) → List Kind → ℕ → Head → Type 0
StandsForOperator ns js n (variable j) = kind_at js j ≡ Some (operator_of n)
StandsForOperator ns js n (operator m t) = (m ≡ n) × IsWellFormed ns (with_parameters m js) t
StandsForOperator ns js n nothing = ⊥

-- the replacement puts well formed types and operators for variables of their kinds
pub record ReplacesKinds (ns : List (List ℕ)) (s : Replacement) (ks js : List Kind) : Type 0 where
  pub types_ : (i : ℕ) → kind_at ks i ≡ Some proper → IsWellFormed ns js (s.type_of i)
  pub heads_ : (i n : ℕ) → kind_at ks i ≡ Some (operator_of n) → StandsForOperator ns js n (s.head_of i)
