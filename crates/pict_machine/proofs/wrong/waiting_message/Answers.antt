use Rattle.std.proofs.Common.{ℕ, ◌+◌, sym, ap, ◌∙◌}
use Rattle.std.specs.Prelude.{option_map, slice_get, slice_index}
use Rattle.pict_queue.specs.Contents.{contents}
use Rattle.pict_queue.specs.QueuesState.{QueuesState, queue_blocks}
use Rattle.pict_region.specs.RegionState.{words_of}
use Rattle.pict_machine.proofs.Asking.{peeked_message}
use Rattle.pict_machine.proofs.wrong.waiting_message.Goals as goal

pub returns-clause-message : goal.returns-clause-message
returns-clause-message c k rest e =
    let q = c.args.queues.now in
    let queue : ℕ = c.from.result + 1 in
    peeked_message q.region (queue_blocks q queue) k rest c.in-Some.tag c.in-Some-peek.payload (ap (λ n. contents q (n + 1)) c.from.ensures ∙ e) (sym c.in-Some.is ∙ c.peek.ensures.word)
    (sym c.in-Some-peek.is ∙ c.peek-in-Some.ensures.word
    ∙ ap (λ (s : QueuesState). option_map (λ b. slice_index (words_of s.region b) 5) (slice_get (queue_blocks s queue) 0)) c.peek.ensures.rest)
