use Rattle.std.proofs.Common.{◌≡◌, length}
use Rattle.pict_queue.specs.Contents.{contents, KeepsOtherContents}
use Rattle.pict_sites.specs.Turning.{turned}
use Rattle.pict_sites.proofs.turning.turn.Given as goal

abbrev pub invariant-loop-i : goal.invariant-loop-i
invariant-loop-i l = record {
  turned : contents l.queues 0 ≡ turned l.i (contents l.fn.queues 0);
  others : KeepsOtherContents l.fn.queues l.queues 0;
  many : length l.queues.queues ≡ length l.fn.queues.queues;
}
