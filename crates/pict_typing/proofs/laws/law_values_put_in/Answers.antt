use Rattle.pict_typing.proofs.Conclusions.{values_put}
use Rattle.pict_typing.proofs.laws.law_values_put_in.Goals as goal

pub returns : goal.returns
returns c = values_put
