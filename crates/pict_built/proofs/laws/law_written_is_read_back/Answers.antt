use Rattle.pict_built.proofs.Back.{written_is_read_back}
use Rattle.pict_built.proofs.laws.law_written_is_read_back.Goals as goal

pub returns : goal.returns
returns c = written_is_read_back
