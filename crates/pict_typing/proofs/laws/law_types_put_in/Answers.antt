use Rattle.pict_typing.proofs.Conclusions.{types_put}
use Rattle.pict_typing.proofs.laws.law_types_put_in.Goals as goal

pub returns : goal.returns
returns c = types_put
