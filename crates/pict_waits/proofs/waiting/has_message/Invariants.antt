use Rattle.std.proofs.Common.{◌≡◌, drop}
use Rattle.std.specs.List.{list_any}
use Rattle.pict_waits.specs.declared.waiting.Waiting.{Waiting}
use Rattle.pict_waits.specs.Waiting.{is_message}
use Rattle.pict_waits.proofs.waiting.has_message.Given as goal

abbrev pub invariant-loop-waiting : goal.invariant-loop-waiting
invariant-loop-waiting l =
    list_any (λ (w : Waiting). is_message w.kind) l.waits ≡ list_any (λ (w : Waiting). is_message w.kind) (drop l.waiting-index l.waits)
