-- The law is its lemma.
use Rattle.pict_scope.proofs.LabelsScoped.{scoped_distinct}
use Rattle.pict_scope.proofs.laws.law_no_label_twice.Goals as goal

pub returns : goal.returns
returns c = scoped_distinct
