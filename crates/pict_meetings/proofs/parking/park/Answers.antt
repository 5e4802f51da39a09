use Rattle.std.proofs.Common.{◌+◌, length, sym, ap, ◌∙◌, subst, arith}
use Rattle.pict_core.specs.Step.{Quiet}
use Rattle.pict_blocks.proofs.Held.{made_pushed, made_no_more}
use Rattle.pict_turns.specs.Acting.{IsDone}
use Rattle.pict_desk.specs.Code.{core_in}
use Rattle.pict_turns.specs.Views.{acting_words}
use Rattle.pict_turns.specs.declared.store.Store.{Store}
use Rattle.pict_meetings.proofs.Waits.{kept_done, input_done}
use Rattle.pict_meetings.proofs.parking.park.Goals as goal

pub returns-clause-output : goal.returns-clause-output
returns-clause-output c sends none =
    let core = core_in c.args.code.now in
    let s = c.args.store.now in
    let down = c.set_down-block.new.store.queues in
    let q = c.wait_behind.new.queues in
    let words = acting_words core s in
    let m = c.set_down-block.ensures.made in
    let w = c.wait_behind.ensures in
    subst (λ (x : Store). IsDone core s x Quiet) (sym (ap (λ (x : Store). record x { queues = q }) c.set_down-block.ensures.rest))
    (kept_done core s q c.args.channel c.requires.queue
    (made_pushed s.queues down q (c.args.channel + 1) c.set_down-block.result (length words + 1) words m w.waiting)
    (λ other apart. w.others other apart ∙ m.contents other)
    (w.queues ∙ ap length m.queues)
    (made_no_more s.queues down q c.set_down-block.result (length words + 1) words m w.gone)
    (let count = ap length m.queues in let left = m.spare_queues in let more = w.queues in let behind = w.spare_queues in omega (arith, count, left, more, behind))
    sends none)

pub returns-clause-input : goal.returns-clause-input
returns-clause-input c replicated pattern part receives none =
    let core = core_in c.args.code.now in
    let s = c.args.store.now in
    let down = c.set_down-block.new.store.queues in
    let q = c.wait_behind.new.queues in
    let words = acting_words core s in
    let m = c.set_down-block.ensures.made in
    let w = c.wait_behind.ensures in
    subst (λ (x : Store). IsDone core s x Quiet) (sym (ap (λ (x : Store). record x { queues = q }) c.set_down-block.ensures.rest))
    (input_done core s q c.args.channel c.requires.queue
    (made_pushed s.queues down q (c.args.channel + 1) c.set_down-block.result (length words + 1) words m w.waiting)
    (λ other apart. w.others other apart ∙ m.contents other)
    (w.queues ∙ ap length m.queues)
    (made_no_more s.queues down q c.set_down-block.result (length words + 1) words m w.gone)
    (let count = ap length m.queues in let left = m.spare_queues in let more = w.queues in let behind = w.spare_queues in omega (arith, count, left, more, behind))
    replicated pattern part receives none)

pub returns-clause-desk : goal.returns-clause-desk
returns-clause-desk c = ap (λ (x : Store). x.desk) c.set_down-block.ensures.rest
