use Rattle.pict_blocks.proofs.Forking.{tests_choose}
use Rattle.pict_blocks.proofs.laws.law_tests_choose.Goals as goal

pub returns : goal.returns
returns c = tests_choose
