-- What a step of a picker shows, by words of its heap.
use Rattle.std.specs.Prelude.{Option, Some, None}
use Rattle.pict_syntax.specs.declared.span.Span.{Span}
use Rattle.pict_core.specs.Step as step
use Rattle.pict_core.specs.Step.{printing}
use Rattle.pict_heap.specs.HeapState.{HeapState, IsWord, value_of}
use Rattle.pict_prim.specs.Acts.{IsPrinted}
use Rattle.pict_prim.specs.Printed.{printed_of}
use Rattle.pict_picker.specs.declared.did.Did.{Did}
use Rattle.pict_picker.specs.declared.did.Did.TheVariants as did

-- the label of the step; a trap has none, and shows nothing
abbrev pub label_of : HeapState → Did → step.Label
label_of h did.Quiet = step.Quiet
label_of h (did.Comm channel value) = step.Comm channel (value_of h value)
label_of h (did.Print word) = printing (printed_of (value_of h word))
label_of h (did.Trapped at) = step.Quiet

-- its words are words of the heap, and what it prints is a text or a number
abbrev pub IsDidOf : HeapState → Did → Type 0
IsDidOf h did.Quiet = Unit {0}
IsDidOf h (did.Comm channel value) = IsWord h value
IsDidOf h (did.Print word) = IsPrinted h word
IsDidOf h (did.Trapped at) = Unit {0}

abbrev pub trap_of : Did → Option Span
trap_of did.Quiet = None
trap_of (did.Comm channel value) = None
trap_of (did.Print word) = None
trap_of (did.Trapped at) = Some at
