-- What is told so far, and what is to be told of those to come, is all.
use Rattle.std.proofs.Common.{◌≡◌, ◌≤◌, ◌++◌, drop}
use Rattle.pict_unused.specs.Telling.{told_from}
use Rattle.pict_unused.proofs.certain.told.Given as goal

abbrev pub invariant-loop-item : goal.invariant-loop-item
invariant-loop-item l = record {
  within : l.number ≤ l.item-index;
  told : l.hints.items ++ told_from l.number (drop l.item-index l.items) l.table ≡ told_from 0 l.items l.table;
}
