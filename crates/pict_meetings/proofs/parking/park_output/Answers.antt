use Rattle.std.proofs.Common.{◌+◌, length, ap, ◌∙◌, arith}
use Rattle.pict_blocks.specs.Keeping.{kept_words}
use Rattle.pict_blocks.proofs.Held.{made_pushed, made_no_more}
use Rattle.pict_meetings.proofs.Waits.{sent_done}
use Rattle.pict_meetings.proofs.parking.park_output.Goals as goal

pub returns-clause-done : goal.returns-clause-done
returns-clause-done c core sends none =
    let s = c.args.store.now in
    let k = c.kept_output-kept in
    let made = c.kept_block-waiting.new.queues in
    let q = c.wait_behind.new.queues in
    let m = c.kept_block-waiting.ensures.made in
    let w = c.wait_behind.ensures in
    rw c.set.ensures (sent_done core s q c.args.channel c.args.message c.args.at k.result c.requires.queue
    k.ensures.to k.ensures.message k.ensures.at c.ranges.channel.fits k.ensures.fits sends
    (made_pushed s.queues made q (c.args.channel + 1) c.kept_block-waiting.result 9 (kept_words k.result) m w.waiting)
    (λ other apart. w.others other apart ∙ m.contents other)
    (w.queues ∙ ap length m.queues)
    (made_no_more s.queues made q c.kept_block-waiting.result 9 (kept_words k.result) m w.gone)
    (let count = ap length m.queues in let left = m.spare_queues in let more = w.queues in let behind = w.spare_queues in omega (arith, count, left, more, behind))
    none)
