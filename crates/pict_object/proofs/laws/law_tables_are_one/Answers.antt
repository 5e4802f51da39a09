use Rattle.pict_object.proofs.Tables.{tables_are_one}
use Rattle.pict_object.proofs.laws.law_tables_are_one.Goals as goal

pub returns : goal.returns
returns c = tables_are_one
