use Rattle.pict_replay.proofs.SomeFile.{one_file_for}
use Rattle.pict_replay.proofs.laws.law_one_file.Goals as goal

pub returns : goal.returns
returns c = one_file_for
