-- The first that acts silently, or else the first that reduces by itself.
use Rattle.std.proofs.Common.{ℕ, inl, inr, List, Option, Some, None, Result, Ok, Err, IfOk}
use Rattle.std.specs.declared.alloc.AllocError.{AllocError}
use Rattle.pict_core.specs.Configuration.{Entry}
use Rattle.pict_reduction.specs.Silent.{is_silent}
use Rattle.pict_orders.specs.Settling.{goes_alone, FirstReady, FirstQuiet}

pub silent_first : (es : List Entry) (i : ℕ) → FirstReady (is_silent es) es (Some i) → FirstQuiet es (Some i)
silent_first es i h = (h.0, h.1, inl h.2)

pub alone_first : (es : List Entry) (r : Result (Option ℕ) AllocError) → FirstReady (is_silent es) es None → IfOk r (λ first. FirstReady goes_alone es first) → IfOk r (λ first. FirstQuiet es first)
alone_first es (Ok None) h k = (h, k)
alone_first es (Ok (Some i)) h k = (k.0, k.1, inr k.2)
alone_first es (Err e) h k = k
