-- Reading a text from left to right comes to its end or to a stop.
use Rattle.pict_total.proofs.Cuts.{some_whole_cut}
use Rattle.pict_total.proofs.law_some_whole_cut.Goals as goal

pub returns : goal.returns
returns c = some_whole_cut
