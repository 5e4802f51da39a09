-- What an answer says, by what it says of other networks of queues.
use Rattle.std.proofs.Common.{◌≡◌, sym, subst, Result, Ok, Err, IfOk}
use Rattle.std.specs.declared.alloc.AllocError.{AllocError}
use Rattle.pict_heap.specs.HeapState.{HeapState}
use Rattle.pict_picker.specs.declared.did.Did.TheVariants as did
use Rattle.pict_network.specs.Network.{Network}
use Rattle.pict_network.specs.Events.{Happening}
use Rattle.pict_sites.specs.Happening.{IsHappened, Happens}
use Rattle.pict_sites.specs.declared.happened.Happened.{Happened}
use Rattle.pict_sites.specs.declared.happened.Happened.TheVariants as happened

module _ (heap : HeapState) (Before Lent After Settled : Network → Type 0) (event : Network → Happening) (f : (N : Network) → Before N → Lent N) (g : (M : Network) → After M → Settled M) where
  pub happens_by : (x : Result Happened AllocError) → Happens heap Lent After event x → Happens heap Before Settled event x
  happens_by (Err e) k = λ N b. g N (k N (f N b))
  happens_by (Ok happened.Moved) k = λ N b. let y = k N (f N b) in (y.0, y.1, g y.0 y.2)
  happens_by (Ok (happened.Stepped did.Quiet)) k = λ N b. let y = k N (f N b) in (y.0, y.1, g y.0 y.2)
  happens_by (Ok (happened.Stepped (did.Comm channel value))) k = λ N b. let y = k N (f N b) in (y.0, y.1, g y.0 y.2)
  happens_by (Ok (happened.Stepped (did.Print word))) k = λ N b. let y = k N (f N b) in (y.0, y.1, g y.0 y.2)
  happens_by (Ok (happened.Stepped (did.Trapped at))) k = λ N b. let y = k N (f N b) in (y.0, g N y.1)

-- what an Ok says of the same event under another name
pub happens_ok : (heap : HeapState) (Before After : Network → Type 0) (event named : Network → Happening) (x : Result Happened AllocError) → ((N : Network) → Before N → named N ≡ event N) → Happens heap Before After event x
    → IfOk x (λ h. (N : Network) → Before N → IsHappened heap After N h (named N))
happens_ok heap Before After event named (Ok x) same k = λ N b. subst (IsHappened heap After N x) (sym (same N b)) (k N b)
happens_ok heap Before After event named (Err e) same k = tt
