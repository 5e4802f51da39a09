use Rattle.pict_top.proofs.Some.{load_needs_no_shelf}
use Rattle.pict_top.proofs.laws.law_load_needs_no_shelf.Goals as goal

pub returns : goal.returns
returns c = load_needs_no_shelf
