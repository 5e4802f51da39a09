-- What a process does in a step, by words.
use Rattle.std.specs.Prelude.{◌≡◌, ◌<◌, ℕ, true, List, length, slice_index_or, Option, Some, None, Result, Ok, Err}
use Rattle.std.specs.declared.alloc.AllocError.{AllocError}
use Rattle.pict_core.specs.Term.{Process, Zero}
use Rattle.pict_core.specs.Deed as deeds
use Rattle.pict_core.specs.Step.{Label, Quiet, printing}
use Rattle.pict_heap.specs.HeapState.{HeapState, value_of}
use Rattle.pict_heap.specs.declared.word.Word.{Word}
use Rattle.pict_prim.specs.Acts.{IsPrinted}
use Rattle.pict_prim.specs.Printed.{printed_of}
use Rattle.pict_view.specs.Partners.{is_input}
use Rattle.pict_view.specs.Placed.{partner_at}
use Rattle.pict_view.specs.View.{list_at}
use Rattle.pict_desk.specs.Pairs.{IsPair}
use Rattle.pict_picker.specs.Waiting.{pair_value, process_of, IsWaiting, IsKept}
use Rattle.pict_picker.specs.declared.deed.Deed.{Deed}
use Rattle.pict_picker.specs.declared.deed.Deed.TheVariants as deed
use Rattle.pict_picker.specs.declared.waiting.Waiting.TheVariants.{Output}

-- the label of a step that prints this word, or nothing
abbrev pub label_printed : HeapState → Option Word → Label
label_printed h None = Quiet
label_printed h (Some word) = printing (printed_of (value_of h word))

abbrev pub IsPrintedOrNone : HeapState → Option Word → Type 0
IsPrintedOrNone h None = Unit {0}
IsPrintedOrNone h (Some word) = IsPrinted h word

-- the j-th that waits at a channel
abbrev pub waits_at : List (List Process) → ℕ → ℕ → Process
waits_at lists j c = slice_index_or (list_at c lists) j Zero

-- the deed of the process `own`, with the j-th at its channel
abbrev pub deed_of : Process → HeapState → List (List Process) → ℕ → Process → Deed → deeds.Deed
deed_of core h lists j own (deed.Ends shown) = deeds.Ends (label_printed h shown)
deed_of core h lists j own (deed.Keeps w shown) = deeds.Keeps (process_of core h w) (label_printed h shown)
deed_of core h lists j own (deed.Forks left right) = deeds.Forks (process_of core h left) (process_of core h right)
deed_of core h lists j own (deed.Opens part) = deeds.Opens (process_of core h part)
deed_of core h lists j own (deed.Waits c) = deeds.Parks c own
deed_of core h lists j own (deed.Parks c kept) = deeds.Parks c (process_of core h (Output kept))
deed_of core h lists j own (deed.Serves c message replicated body) =
    deeds.Serves c (pair_value h message) replicated (waits_at lists j c) (process_of core h body)
deed_of core h lists j own (deed.Takes c message replicated body) = deeds.Takes c (pair_value h message) replicated (process_of core h body)
deed_of core h lists j own (deed.Stops at) = deeds.Stops at

-- Its words are words of the heap, its processes may be ready, and its channel and its partner are there.
abbrev pub FitsDeed : Process → HeapState → List (List Process) → ℕ → Process → Deed → Type 0
FitsDeed core h lists j own (deed.Ends shown) = IsPrintedOrNone h shown
FitsDeed core h lists j own (deed.Keeps w shown) = IsWaiting core h w × IsPrintedOrNone h shown
FitsDeed core h lists j own (deed.Forks left right) = IsWaiting core h left × IsWaiting core h right
FitsDeed core h lists j own (deed.Opens part) = IsWaiting core h part
FitsDeed core h lists j own (deed.Waits c) = (c < length lists) × (is_input own ≡ true)
FitsDeed core h lists j own (deed.Parks c kept) = (c < length lists) × IsKept h kept
FitsDeed core h lists j own (deed.Serves c message replicated body) =
    (c < length lists) × (j < length (list_at c lists)) × IsPair h message × IsWaiting core h body
FitsDeed core h lists j own (deed.Takes c message replicated body) =
    (c < length lists) × (j < length (list_at c lists)) × IsPair h message × IsWaiting core h body
FitsDeed core h lists j own (deed.Stops at) = Unit {0}

-- what the process does where these wait at channels, with the j-th of those at its own
abbrev pub deed_at : List (List Process) → ℕ → Process → deeds.Deed
deed_at lists j own = deeds.deed (length lists) (partner_at j lists own) own

-- These words say what the process does.
pub record IsDeed (core : Process) (h : HeapState) (lists : List (List Process)) (j : ℕ) (own : Process) (d : Deed) : Type 0 where
  pub is : deed_at lists j own ≡ deed_of core h lists j own d
  pub fits : FitsDeed core h lists j own d

-- Nothing is done: memory is wanting, or the step divides by zero.
abbrev pub IsUndone : Result Deed AllocError → Type 0
IsUndone (Err error) = Unit {0}
IsUndone (Ok (deed.Stops at)) = Unit {0}
IsUndone (Ok d) = ⊥
