-- The type variables so far.
use Rattle.std.proofs.Common.{◌≡◌, ◌+◌, ◌++◌, length}
use Rattle.pict_rules.specs.Environments.{moved_binders}
use Rattle.pict_infer.specs.Knowing.{known_types}
use Rattle.pict_infer.proofs.added.join_binders.Given as goal

abbrev pub invariant-loop-b : goal.invariant-loop-b
invariant-loop-b l = record {
  count : length l.all.items ≡ l.by + length l.yielded;
  joined : known_types l.all.items ≡ moved_binders l.by (known_types l.yielded) ++ known_types l.fn.outer.items;
}
