-- What a refusal of a program's types says.
use Rattle.std.specs.Prelude.{ℕ, List}
use Rattle.pict_syntax.specs.Trees.{Decs}
use Rattle.pict_rules.specs.Derivations.{IsStuckAt}
use Rattle.pict_infer.specs.declared.error.InferError.{InferError}
use Rattle.pict_infer.specs.declared.error.InferError.TheVariants as infer
use Rattle.pict_check.specs.declared.error.TypeError.{TypeError}
use Rattle.pict_check.specs.declared.error.TypeError.TheVariants.{Named, Memory}

abbrev pub of_infer_error : InferError → TypeError
of_infer_error (infer.Named c i told) = Named c i told
of_infer_error infer.Memory = Memory

-- it is the place where the typing rules are stuck, with its code; want of memory may come at any time
abbrev pub IsTypeStop : List (List ℕ) → Decs → TypeError → Type 0
IsTypeStop names p (Named c i told) = IsStuckAt names p c i
IsTypeStop names p Memory = Unit {0}
