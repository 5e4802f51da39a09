-- The first tokens say whether a program begins with an import, and with which.
use Rattle.pict_programs.proofs.Once.{one_tree}
use Rattle.pict_programs.proofs.law_one_tree.Goals as goal

pub returns : goal.returns
returns c = one_tree
