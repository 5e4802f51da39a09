use Rattle.std.proofs.Common.{ℕ, List, [], length, get_or, sym, ◌∙◌, ap, subst, arith}
use Rattle.pict_queue.specs.QueuesState.{queue_blocks}
use Rattle.pict_queue.proofs.Uses.{AreWide, wide_none, wide_insert, wide_kept, first_wide}
use Rattle.pict_machine_tests.proofs.queues.are_read_in_place.Goals as goal

pub scatter_first-requires-clause-some : goal.scatter_first-requires-clause-some
scatter_first-requires-clause-some c = omega (arith, ap length c.push_front.ensures.list)

pub scatter_first-requires-clause-inside : goal.scatter_first-requires-clause-inside
scatter_first-requires-clause-inside c =
    let pushed = ap (λ (words : List (List ℕ)). length (get_or words 0 [])) c.push_front.ensures.pushed in
    omega (arith, pushed, ap length c.take_gathered-block.ensures.words)

pub move_front-requires-clause-some : goal.move_front-requires-clause-some
move_front-requires-clause-some c = omega (arith, ap length c.push_front.ensures.list, ap (λ s. length (queue_blocks s c.in_ok-queue.queue.0)) c.scatter_first.ensures.rest)

pub peek-requires-clause-inside : goal.peek-requires-clause-inside
peek-requires-clause-inside c some =
    let none = wide_none _ 6 (c.in_ok-reserve.ensures.live ∙ ap (λ r. r.live) c.in_ok-queue.ensures.region ∙ c.new-queues.ensures.live) in
    let made = wide_insert _ _ 6 _ _ none (omega arith) c.take_gathered-block.ensures.live.live in
    let pushed = wide_kept _ _ 6 (omega arith) made c.push_front.ensures.rest.contents in
    let read : AreWide c.scatter_first.new.self.region.live 6 = subst (λ m. AreWide m 6) (sym (ap (λ s. s.region.live) c.scatter_first.ensures.rest)) pushed in
    let moved = wide_kept _ _ 6 (omega arith) read c.move_front.ensures.rest.contents in
    omega (arith, first_wide c.move_front.new.self _ 6 c.move_front.ensures.once moved some)
