-- The law is its lemma.
use Rattle.pict_scope.proofs.Clean.{stands_once}
use Rattle.pict_scope.proofs.laws.law_stands_once.Goals as goal

pub returns : goal.returns
returns c = stands_once
