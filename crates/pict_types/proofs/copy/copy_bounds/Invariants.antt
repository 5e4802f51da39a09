-- What was copied, and then what is left, is the whole row.
use Rattle.std.proofs.Common.{◌≡◌, drop}
use Rattle.pict_types.specs.Plain.{plain_bounds}
use Rattle.pict_types.proofs.Rows.{then_bounds}
use Rattle.pict_types.proofs.copy.copy_bounds.Given as goal

abbrev pub invariant-loop-b : goal.invariant-loop-b
invariant-loop-b l = then_bounds (plain_bounds l.copies.items) (plain_bounds (drop l.b-index l.bs)) ≡ plain_bounds l.bs
