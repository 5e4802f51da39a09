-- What an event answers, and what it does.
use Rattle.std.specs.Prelude.{◌≡◌, ◌≢◌, [], Option, Some, None, Result, Ok, Err}
use Rattle.std.specs.declared.alloc.AllocError.{AllocError}
use Rattle.pict_core.specs.Term.{Process}
use Rattle.pict_heap.specs.HeapState.{HeapState}
use Rattle.pict_picker.specs.Events.{label_of, IsDidOf}
use Rattle.pict_picker.specs.declared.did.Did.{Did}
use Rattle.pict_picker.specs.declared.did.Did.TheVariants as did
use Rattle.pict_view.specs.Moved.{Stops}
use Rattle.pict_view.specs.Placed.{next_view}
use Rattle.pict_turns.specs.Acting.{IsDone, IsRefused}
use Rattle.pict_turns.specs.Views.{view_with_turn}
use Rattle.pict_turns.specs.declared.store.Store.{Store}
use Rattle.pict_network.specs.Network.{Network}
use Rattle.pict_network.specs.Events.{Happening, Moved, Stepped, Stopped, Misshapen, events}
use Rattle.pict_network.specs.Runs.{choice, next_happening}
use Rattle.rand_pcg.specs.Lcg.{Lcg}
use Rattle.pict_sites.specs.declared.happened.Happened.{Happened}
use Rattle.pict_sites.specs.declared.happened.Happened.TheVariants as happened

-- What happens to N is the step with the label of what is shown, by words of this heap, and leads to a network that passes the test.
-- Where it divides by zero N itself passes it.
abbrev pub IsDid : HeapState → (Network → Type 0) → Network → Did → Happening → Type 0
IsDid heap Stands N (did.Trapped at) h = (h ≡ Stopped at) × Stands N
IsDid heap Stands N d h = (M : Network) × (h ≡ Stepped M (label_of heap d)) × Stands M

-- The same, or it moves a process.
abbrev pub IsHappened : HeapState → (Network → Type 0) → Network → Happened → Happening → Type 0
IsHappened heap Stands N happened.Moved h = (M : Network) × (h ≡ Moved M) × Stands M
IsHappened heap Stands N (happened.Stepped d) h = IsDid heap Stands N d h

-- what is shown are words of the heap
abbrev pub HasWords : HeapState → Happened → Type 0
HasWords heap happened.Moved = Unit {0}
HasWords heap (happened.Stepped d) = IsDidOf heap d

-- What the answer says, for each network that passes the first test: this happened to it, and what comes of it passes the second
-- test. Or memory was wanting, and it passes the second test itself.
abbrev pub Happens : HeapState → (Network → Type 0) → (Network → Type 0) → (Network → Happening) → Result Happened AllocError → Type 0
Happens heap Before After event (Ok x) = (N : Network) → Before N → IsHappened heap After N x (event N)
Happens heap Before After event (Err e) = (N : Network) → Before N → After N

-- some network passes the test, and what happens to it isn't wrong
pub record IsRightFor (Stands : Network → Type 0) (event : Network → Happening) : Type 0 where
  pub network : Network
  pub stands : Stands network
  pub right : event network ≢ Misshapen

-- What the answer says of the step of who has the turn in a store: it is done, with the label of what is shown; it divides by
-- zero, or memory was wanting, and then nothing has changed but room, spare blocks and work.
abbrev pub IsDidBy : Process → Store → Store → Result Did AllocError → Type 0
IsDidBy core old new (Ok (did.Trapped at)) = (next_view (view_with_turn core old) ≡ Stops at) × IsRefused core old new
IsDidBy core old new (Ok d) = IsDone core old new (label_of new.desk.heap d) × IsDidOf new.desk.heap d
IsDidBy core old new (Err e) = IsRefused core old new

-- What the answer says of the next event of a seed's run of N, from one generator to the next: it happened, or none is possible, and
-- then nothing has changed.
abbrev pub IsNext : HeapState → (Network → Type 0) → Network → Lcg → Lcg → Option Happened → Type 0
IsNext heap Stands N g h None = (events N ≡ []) × Stands N × (h ≡ g)
IsNext heap Stands N g h (Some x) = IsHappened heap Stands N x (next_happening N g) × (h ≡ (choice N g).1)
