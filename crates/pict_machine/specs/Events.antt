-- What events and ends stand for. An event's words are those of a heap.
use Rattle.std.specs.Prelude.{◌≡◌, ℕ, List, Option, Some, None}
use Rattle.pict_syntax.specs.declared.span.Span.{Span}
use Rattle.pict_core.specs.Term.{Val}
use Rattle.pict_core.specs.Step as step
use Rattle.pict_core.specs.Step.{printing}
use Rattle.pict_core.specs.Run as run
use Rattle.pict_heap.specs.HeapState.{HeapState, IsWord, value_of}
use Rattle.pict_prim.specs.Acts.{IsPrinted}
use Rattle.pict_prim.specs.Printed.{printed_of}
use Rattle.pict_machine.specs.declared.event.End.{End}
use Rattle.pict_machine.specs.declared.event.End.TheVariants as end
use Rattle.pict_machine.specs.declared.event.Event.{Event}
use Rattle.pict_machine.specs.declared.event.Event.TheVariants as event

-- the label of an event; a trap has none, and shows nothing
abbrev pub label_of : HeapState → Event → step.Label
label_of h event.Quiet = step.Quiet
label_of h (event.Comm channel value) = step.Comm channel (value_of h value)
label_of h (event.Print word) = printing (printed_of (value_of h word))
label_of h (event.Trapped at) = step.Quiet

-- an event's words are words of the heap, and what it prints is a text or a number
abbrev pub IsEventOf : HeapState → Event → Type 0
IsEventOf h event.Quiet = Unit {0}
IsEventOf h (event.Comm channel value) = IsWord h value
IsEventOf h (event.Print word) = IsPrinted h word
IsEventOf h (event.Trapped at) = Unit {0}

abbrev pub trap_of : Event → Option Span
trap_of event.Quiet = None
trap_of (event.Comm channel value) = None
trap_of (event.Print word) = None
trap_of (event.Trapped at) = Some at

-- a communication or a printing
abbrev pub IsShown : Event → Type 0
IsShown event.Quiet = ⊥
IsShown (event.Comm channel value) = Unit {0}
IsShown (event.Print word) = Unit {0}
IsShown (event.Trapped at) = ⊥

abbrev pub end_of : End → run.End
end_of end.Done = run.Done
end_of end.FuelSpent = run.FuelSpent
end_of (end.Trap at) = run.Trap at

-- communications change nothing of the view of a watcher to which this comes next
abbrev pub PassesCommunications : (List ℕ → ℕ → step.Label → List ℕ) → Type 0
PassesCommunications next = (view : List ℕ) (number channel : ℕ) (value : Val) → next view number (step.Comm channel value) ≡ view
