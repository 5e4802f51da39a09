use Rattle.std.proofs.Common.{◌<◌, length, ◌∙◌, arith}
use Rattle.pict_queue.specs.Contents.{contents}
use Rattle.pict_sites.proofs.Turned.{one_turned, other_stays}
use Rattle.pict_sites.proofs.turning.turn.Goals as goal

pub loop-i-preserved : goal.loop-i-preserved
loop-i-preserved c =
    let low : c.loop-i.i < length (contents c.args.queues.now 0) = omega (arith, c.loop-i-test.true, c.requires.there) in
    record {
      turned = c.move_front.ensures.moved 0 ∙ one_turned c.loop-i.queues (contents c.args.queues.now 0) c.loop-i.i c.loop-i.invariant.turned low;
      others = λ other h. c.move_front.ensures.moved other ∙ other_stays c.loop-i.queues other h ∙ c.loop-i.invariant.others other h;
      many = c.move_front.ensures.rest.queues ∙ c.loop-i.invariant.many;
    }
