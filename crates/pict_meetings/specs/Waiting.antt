-- What waits first at a channel.
use Rattle.std.specs.Prelude.{◌≢◌, ℕ, zero, suc, ◌+◌, List, ◌∷◌}
use Rattle.pict_queue.specs.QueuesState.{QueuesState}
use Rattle.pict_queue.specs.Contents.{contents}
use Rattle.pict_meetings.specs.declared.waiting.Waiting.{Waiting}
use Rattle.pict_meetings.specs.declared.waiting.Waiting.TheVariants.{Nothing, Output, Input}

-- what the oldest of these blocks is: where its first word is 0 an output of kept values, where it is n + 1 the input of node n
abbrev pub oldest : List (List ℕ) → Waiting
oldest ((zero ∷ held) ∷ rest) = Output
oldest ((suc number ∷ held) ∷ rest) = Input number
oldest _ = Nothing

abbrev pub waits_first : QueuesState → ℕ → Waiting
waits_first s channel = oldest (contents s (channel + 1))

abbrev pub NoInputWaits : QueuesState → ℕ → Type 0
NoInputWaits s channel = (number : ℕ) → waits_first s channel ≢ Input number

abbrev pub NoOutputWaits : QueuesState → ℕ → Type 0
NoOutputWaits s channel = waits_first s channel ≢ Output
