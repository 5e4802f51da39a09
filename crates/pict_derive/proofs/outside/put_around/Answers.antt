-- The last layer is put around the rest.
use Rattle.std.proofs.Common.{◌∙◌}
use Rattle.pict_derive.proofs.Surrounding.{one_less}
use Rattle.pict_derive.proofs.outside.put_around.Goals as goal

pub loop-layer-preserved : goal.loop-layer-preserved
loop-layer-preserved c =
    c.loop-layer.invariant ∙ one_less c.loop-layer.layers.items c.pop.new.self.items c.in-Some.layer c.loop-layer.rest c.in_ok-rest.rest c.in-Some.ensures.items c.in_ok-rest.ensures
