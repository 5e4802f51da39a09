use Rattle.pict_exec.proofs.Rooms.{frames_are_few}
use Rattle.pict_exec.proofs.laws.law_frames_are_few.Goals as goal

pub returns : goal.returns
returns c = frames_are_few
