use Rattle.pict_region.proofs.Counts.{blocks_more}
use Rattle.pict_region.proofs.region.Region.reserve.Goals as goal

pub returns-clause-least : goal.returns-clause-least
returns-clause-least c =
    blocks_more c.args.self.now c.make_spare.new.self c.args.width c.make_spare.ensures.live c.make_spare.ensures.more c.make_spare.ensures.others
