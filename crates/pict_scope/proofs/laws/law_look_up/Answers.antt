-- The laws are their lemmas.
use Rattle.pict_scope.proofs.LookUp.{values_by_look_up, types_by_look_up}
use Rattle.pict_scope.proofs.laws.law_look_up.Goals as goal

pub returns-clause-values : goal.returns-clause-values
returns-clause-values c = values_by_look_up

pub returns-clause-types : goal.returns-clause-types
returns-clause-types c = types_by_look_up
