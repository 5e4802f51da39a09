use Rattle.pict_replay.proofs.SomeFile.{some_file}
use Rattle.pict_replay.proofs.laws.law_some_file.Goals as goal

pub returns : goal.returns
returns c = some_file
