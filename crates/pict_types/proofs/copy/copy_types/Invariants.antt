-- What was copied, and then what is left, is the whole row.
use Rattle.std.proofs.Common.{◌≡◌, drop}
use Rattle.pict_types.specs.Plain.{plain_types}
use Rattle.pict_types.proofs.Rows.{then_types}
use Rattle.pict_types.proofs.copy.copy_types.Given as goal

abbrev pub invariant-loop-t : goal.invariant-loop-t
invariant-loop-t l = then_types (plain_types l.copies.items) (plain_types (drop l.t-index l.ts)) ≡ plain_types l.ts
