-- What a refusal says of the places where a rule fails.
use Rattle.std.specs.Prelude.{◌≡◌, List, [], ◌∷◌, Option, Some}
use Rattle.pict_syntax.specs.declared.code.Code.TheVariants.{K4}
use Rattle.pict_syntax.specs.declared.span.Span.{Span}
use Rattle.pict_syntax.specs.Stops.{Stop}
use Rattle.pict_normal.specs.declared.made.MakeError.{MakeError}
use Rattle.pict_normal.specs.declared.made.MakeError.TheVariants.{TooHeavy, Memory as Memory_}
use Rattle.pict_normal.specs.declared.stops.KindError.{KindError}
use Rattle.pict_normal.specs.declared.stops.KindError.TheVariants.{Named, Memory}

-- the error is this refusal; want of memory may come at any time
abbrev pub IsRefusal : Option Stop → KindError → Type 0
IsRefusal o (Named code span) = o ≡ Some (code, span)
IsRefusal o Memory = Unit {0}

abbrev pub BeginsWith : List Stop → Stop → Type 0
BeginsWith [] p = ⊥
BeginsWith (x ∷ stops) p = x ≡ p

-- the error is the first of these refusals
abbrev pub IsFirst : List Stop → KindError → Type 0
IsFirst stops (Named code span) = BeginsWith stops (code, span)
IsFirst stops Memory = Unit {0}

-- a type that isn't made is refused as a whole, if not for want of memory
abbrev pub kind_error : Span → MakeError → KindError
kind_error span TooHeavy = Named K4 span
kind_error span Memory_ = Memory
