use Rattle.pict_replay.proofs.Filing.{files_are_read_once}
use Rattle.pict_replay.proofs.laws.law_files_are_read_once.Goals as goal

pub returns : goal.returns
returns c = files_are_read_once
