use Rattle.pict_rules.proofs.RegularAll.{regularity, reached_regular}
use Rattle.pict_rules.proofs.laws.law_regularity.Goals as goal

pub returns-clause-given : goal.returns-clause-given
returns-clause-given c = regularity

pub returns-clause-reached : goal.returns-clause-reached
returns-clause-reached c = reached_regular
