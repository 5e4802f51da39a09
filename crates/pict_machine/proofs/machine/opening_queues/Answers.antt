use Rattle.std.proofs.Common.{rules}
use Rattle.pict_machine.proofs.Opening.{none_live}
use Rattle.pict_machine.proofs.machine.opening_queues.Goals as goal

pub returns : goal.returns
returns c = record {
  queues = search rules;
  ready = search rules;
  others = search rules;
  none_held = λ block held.
      none_live c.new-queues.result.region c.new-queues.ensures.live block
      (c.in_ok-add_queue.ensures.no_more block (c.in_ok-reserve.ensures.no_more block (c.spawn.ensures.no_more block held))).live;
}
