-- The machine that reads declarations comes to one end.
use Rattle.pict_automaton.proofs.Programs.{one_tree}
use Rattle.pict_automaton.proofs.law_one_tree.Goals as goal

pub returns : goal.returns
returns c = one_tree
