use Rattle.std.proofs.Common.{◌∙◌, ap, arith}
use Rattle.pict_region.proofs.Uses.{holds_width, holds_taken}
use Rattle.pict_queue.proofs.Uses.{wide_none, wide_taken, wide_set, wide_kept, first_wide}
use Rattle.pict_machine_tests.proofs.queues.are_moved.Goals as goal

pub set-requires-clause-inside : goal.set-requires-clause-inside
set-requires-clause-inside c = omega (arith, holds_width _ _ _ (holds_taken _ _ _ 2 c.take-a.ensures.live))

pub set-requires-2-clause-inside : goal.set-requires-2-clause-inside
set-requires-2-clause-inside c = omega (arith, holds_width _ _ _ (holds_taken _ _ _ 2 c.take-b.ensures.live))

pub peek-requires-clause-inside : goal.peek-requires-clause-inside
peek-requires-clause-inside c some =
    let none = wide_none _ 2 (c.in_ok-reserve.ensures.live ∙ ap (λ r. r.live) c.in_ok-second.ensures.region ∙ ap (λ r. r.live) c.in_ok-first.ensures.region ∙ c.new-queues.ensures.live) in
    let a = wide_taken _ _ _ _ none c.take-a.ensures.live in
    let a-set = wide_set _ _ _ _ _ _ a c.take-a.ensures.held.live c.set.ensures.live in
    let a-pushed = wide_kept _ _ _ (omega arith) a-set c.push_back.ensures.rest.contents in
    let b = wide_taken _ _ _ _ a-pushed c.take-b.ensures.live in
    let b-set = wide_set _ _ _ _ _ _ b c.take-b.ensures.held.live c.set-2.ensures.live in
    let b-pushed = wide_kept _ _ _ (omega arith) b-set c.push_back-2.ensures.rest.contents in
    let moved = wide_kept _ _ _ (omega arith) b-pushed c.move_front.ensures.rest.contents in
    omega (arith, first_wide c.move_front.new.self _ 2 c.move_front.ensures.once moved some)
