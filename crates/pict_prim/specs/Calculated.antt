-- What is calculated from two numbers stands for an effect.
use Rattle.std.specs.Prelude.{Option, Some, None}
use Rattle.pict_core.specs.Term.{Val, Int, Boolean}
use Rattle.pict_core.specs.Primitives.{Effect, Answer, Trap}
use Rattle.pict_heap.specs.HeapState.{HeapState, value_of}
use Rattle.pict_heap.specs.declared.word.Word.{Word}
use Rattle.pict_prim.specs.declared.numbers.Calculated.{Calculated}
use Rattle.pict_prim.specs.declared.numbers.Calculated.TheVariants as calculated

-- the effect of what is calculated, answered at k
abbrev pub effect_calculated : Val → Calculated → Effect
effect_calculated k (calculated.Number n) = record { printed = None; leaves = Answer k (Int n) }
effect_calculated k (calculated.Truth b) = record { printed = None; leaves = Answer k (Boolean b) }
effect_calculated k calculated.ZeroDivisor = record { printed = None; leaves = Trap }

-- the effect of answering this word at k, or of a trap where there is none
abbrev pub effect_answered : HeapState → Val → Option Word → Effect
effect_answered h k (Some answer) = record { printed = None; leaves = Answer k (value_of h answer) }
effect_answered h k None = record { printed = None; leaves = Trap }
