use Rattle.pict_load.proofs.Drawing.{three_rings}
use Rattle.pict_load.proofs.rings.rings_of.Goals as goal

pub returns : goal.returns
returns c =
    three_rings c.args.n c.new-generator.result c.draw-first.new.generator c.draw-second.new.generator c.draw-first.result c.draw-second.result c.draw-third.result
    c.new-generator.ensures c.draw-first.ensures.ring c.draw-first.ensures.after c.draw-second.ensures.ring c.draw-second.ensures.after c.draw-third.ensures.ring
