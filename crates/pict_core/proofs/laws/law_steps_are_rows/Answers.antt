use Rattle.pict_core.proofs.Tabled.{row_of, act_of}
use Rattle.pict_core.proofs.laws.law_steps_are_rows.Goals as goal

pub returns : goal.returns
returns c C s o p D label = (row_of C s o p D label, act_of C s o p D label)
