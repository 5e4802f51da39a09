-- The law is its lemma.
use Rattle.pict_scope.proofs.Clean.{one_scope_stop}
use Rattle.pict_scope.proofs.laws.law_one_scope_stop.Goals as goal

pub returns : goal.returns
returns c = one_scope_stop
