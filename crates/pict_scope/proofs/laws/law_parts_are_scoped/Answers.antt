-- The law is its lemma.
use Rattle.pict_scope.proofs.Clean.{parts_are_scoped}
use Rattle.pict_scope.proofs.laws.law_parts_are_scoped.Goals as goal

pub returns : goal.returns
returns c = parts_are_scoped
