use Rattle.pict_blocks.proofs.Written.{writes_one}
use Rattle.pict_blocks.proofs.frames.write_pair.Goals as goal

pub returns-clause-writes : goal.returns-clause-writes
returns-clause-writes c =
    writes_one _ _ _ _ c.set_pair.ensures.live c.set_pair.ensures.free c.set_pair.ensures.blocks c.set_pair.ensures.rest c.set_pair.ensures.lists c.set_pair.ensures.held
