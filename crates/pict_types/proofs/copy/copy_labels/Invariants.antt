-- What was copied, and then what is left, is the whole row.
use Rattle.std.proofs.Common.{◌≡◌, drop}
use Rattle.pict_types.specs.Plain.{plain_labels}
use Rattle.pict_types.proofs.Rows.{then_labels}
use Rattle.pict_types.proofs.copy.copy_labels.Given as goal

abbrev pub invariant-loop-l : goal.invariant-loop-l
invariant-loop-l l = then_labels (plain_labels l.copies.items) (plain_labels (drop l.l-index l.ls)) ≡ plain_labels l.ls
