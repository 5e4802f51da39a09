-- The first places of each kind exclude one another.
use Rattle.pict_automaton.proofs.OneVerdict.{one_verdict}
use Rattle.pict_automaton.proofs.law_one_verdict.Goals as goal

pub returns : goal.returns
returns c = one_verdict
