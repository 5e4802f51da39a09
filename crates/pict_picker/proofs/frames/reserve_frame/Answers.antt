use Rattle.std.proofs.Common.{arith}
use Rattle.pict_picker.proofs.frames.reserve_frame.Goals as goal

pub returns-clause-room : goal.returns-clause-room
returns-clause-room c w there = let many = c.len_at.ensures w there in omega (arith, many, c.in_ok-reserve_exact.ensures.ok)
