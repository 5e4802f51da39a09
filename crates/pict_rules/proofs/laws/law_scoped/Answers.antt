use Rattle.pict_rules.proofs.ReachedNames.{no_stop_is_reached, uses_are_known}
use Rattle.pict_rules.proofs.laws.law_scoped.Goals as goal

pub returns-clause-stops : goal.returns-clause-stops
returns-clause-stops c = no_stop_is_reached

pub returns-clause-uses : goal.returns-clause-uses
returns-clause-uses c = uses_are_known
