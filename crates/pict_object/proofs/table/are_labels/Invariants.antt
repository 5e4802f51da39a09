use Rattle.std.proofs.Common.{[], drop}
use Rattle.std.specs.Prelude.{◌↔◌}
use Rattle.pict_object.specs.Heads.{lent, AreLabelTexts}
use Rattle.pict_object.proofs.table.are_labels.Given as goal

abbrev pub invariant-loop-text : goal.invariant-loop-text
invariant-loop-text l = AreLabelTexts [] (lent l.table) ↔ AreLabelTexts l.before (lent (drop l.text-index l.table))
