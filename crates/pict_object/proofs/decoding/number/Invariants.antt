use Rattle.pict_object.specs.Heads.{lent}
use Rattle.pict_object.proofs.Numbering.{IsSoFar}
use Rattle.pict_object.proofs.decoding.number.Given as goal

abbrev pub invariant-loop-text : goal.invariant-loop-text
invariant-loop-text l = IsSoFar l.initial.names l.names (lent l.table) l.labels.items l.text-index
