-- When a call's result is what a rule answers.
use Rattle.std.specs.Prelude.{◌≡◌, Option, Some, Result, Ok, Err}
use Rattle.pict_syntax.specs.declared.code.Code.TheVariants.{K4}
use Rattle.pict_syntax.specs.declared.span.Span.{Span}
use Rattle.pict_syntax.specs.Stops.{Stop}
use Rattle.pict_types.specs.declared.limits.SizeError.{SizeError}
use Rattle.pict_types.specs.declared.limits.SizeError.TheVariants.{TooBig, Memory as SizeMemory}
use Rattle.pict_types.specs.Types.{PlainType}
use Rattle.pict_types.specs.Plain.{plain}
use Rattle.pict_normal.specs.declared.stops.KindError.{KindError}
use Rattle.pict_normal.specs.declared.stops.KindError.TheVariants.{Named as KindNamed, Memory as KindMemory}
use Rattle.pict_rules.specs.Rules.{Sort, nothing_, Result as Given, Rule, ok, stuck}
use Rattle.pict_rules.specs.Derivations.{Runs}
use Rattle.pict_infer.specs.declared.error.InferError.{InferError}
use Rattle.pict_infer.specs.declared.error.InferError.TheVariants.{Named, Memory}
use Rattle.pict_infer.specs.declared.error.Told.{Told}
use Rattle.pict_infer.specs.declared.error.Told.TheVariants.{Nothing, Types}

abbrev pub of_kind_error : KindError → InferError
of_kind_error (KindNamed c i) = Named c i Nothing
of_kind_error KindMemory = Memory

-- a type that is too big is refused at this place
abbrev pub of_size_error : Span → SizeError → InferError
of_size_error s (TooBig m) = Named K4 s Nothing
of_size_error s SizeMemory = Memory

-- the refusal is this one; want of memory may come at any time
abbrev pub IsStopped : Option Stop → InferError → Type 0
IsStopped o (Named c i told) = o ≡ Some (c, i)
IsStopped o Memory = Unit {0}

-- the refusal is the rule's; want of memory may come at any time
abbrev pub IsRefused : {s : Sort} → Rule s → InferError → Type 0
IsRefused r (Named c i told) = Runs r (stuck c i)
IsRefused r Memory = Unit {0}

-- what is answered stands for what the rule gives
abbrev pub IsAnswer : {s : Sort} {T : Type 0} → Rule s → (T → Given s) → Result T InferError → Type 0
IsAnswer r f (Ok x) = Runs r (ok (f x))
IsAnswer r f (Err e) = IsRefused r e

-- no result
abbrev pub nothing : Unit {0} → Given nothing_
nothing x = tt

-- the types that are told are these two
abbrev pub AreToldBy : PlainType → PlainType → Told → Type 0
AreToldBy s t (Types u v) = (plain u ≡ s) × (plain v ≡ t)
AreToldBy s t Nothing = ⊥
