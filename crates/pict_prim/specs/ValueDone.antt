-- What is done to core values stands for an effect.
use Rattle.std.specs.Prelude.{◌≡◌, Option, None, option_map, IsSome, IfSome, Result, IfOk}
use Rattle.std.specs.declared.alloc.AllocError.{AllocError}
use Rattle.pict_core.specs.Plain.{plain_val}
use Rattle.pict_core.specs.Primitives.{Effect, Nothing, Answer, Trap}
use Rattle.pict_prim.specs.Printed.{printed_of}
use Rattle.pict_prim.specs.declared.outcome.ValueDone.{ValueDone}
use Rattle.pict_prim.specs.declared.outcome.ValueDone.TheVariants as done

abbrev pub effect_value_done : ValueDone → Effect
effect_value_done (done.Printed v) = record { printed = printed_of (plain_val v); leaves = Nothing }
effect_value_done (done.Answer k a) = record { printed = None; leaves = Answer (plain_val k) (plain_val a) }
effect_value_done (done.PrintedAnswer v k a) = record { printed = printed_of (plain_val v); leaves = Answer (plain_val k) (plain_val a) }
effect_value_done done.ZeroDivisor = record { printed = None; leaves = Trap }

-- What is printed is a text or a number.
abbrev pub PrintsText : ValueDone → Type 0
PrintsText (done.Printed v) = IsSome (printed_of (plain_val v))
PrintsText (done.Answer k a) = Unit {0}
PrintsText (done.PrintedAnswer v k a) = IsSome (printed_of (plain_val v))
PrintsText done.ZeroDivisor = Unit {0}

-- On success the effect is this one, or there is none in both.
abbrev pub Attempts : Result (Option ValueDone) AllocError → Option Effect → Type 0
Attempts result e = IfOk result (λ o. (option_map effect_value_done o ≡ e) × IfSome o PrintsText)
