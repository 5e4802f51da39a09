-- What events stand for before the two words of a value that is received are told apart.
use Rattle.std.specs.Prelude.{Option, Some, None}
use Rattle.pict_syntax.specs.declared.span.Span.{Span}
use Rattle.pict_core.specs.Step as step
use Rattle.pict_core.specs.Step.{printing}
use Rattle.pict_desk.specs.Known.{value_in}
use Rattle.pict_heap.specs.HeapState.{HeapState, value_of}
use Rattle.pict_desk.specs.Pairs.{IsPair}
use Rattle.pict_prim.specs.Acts.{IsPrinted}
use Rattle.pict_prim.specs.Printed.{printed_of}
use Rattle.pict_turns.specs.declared.event.Shown.{Shown}
use Rattle.pict_turns.specs.declared.event.Shown.TheVariants as shows

-- the label of what is shown; a trap has none, and shows nothing
abbrev pub label_shown : HeapState → Shown → step.Label
label_shown h shows.Quiet = step.Quiet
label_shown h (shows.Comm channel value) = step.Comm channel (value_in h value.0 value.1)
label_shown h (shows.Print word) = printing (printed_of (value_of h word))
label_shown h (shows.Trapped at) = step.Quiet

-- what is received is the two words of a word of the heap; what is printed is such a word, a text or a number
abbrev pub IsShownOf : HeapState → Shown → Type 0
IsShownOf h shows.Quiet = Unit {0}
IsShownOf h (shows.Comm channel value) = IsPair h value
IsShownOf h (shows.Print word) = IsPrinted h word
IsShownOf h (shows.Trapped at) = Unit {0}

abbrev pub trap_shown : Shown → Option Span
trap_shown shows.Quiet = None
trap_shown (shows.Comm channel value) = None
trap_shown (shows.Print word) = None
trap_shown (shows.Trapped at) = Some at
