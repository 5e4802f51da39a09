use Rattle.std.proofs.Common.{◌≡◌, length}
use Rattle.pict_sites.specs.Opening.{IsFirstOf}
use Rattle.pict_sites.proofs.loading.all_queues.Given as goal

abbrev pub invariant-loop-n : goal.invariant-loop-n
invariant-loop-n l = record {
  count : length l.queues.items ≡ l.n;
  first : IsFirstOf l.fn.first l.queues.items;
}
