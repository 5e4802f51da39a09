-- A new channel, and its reader beside the rest.
use Rattle.std.proofs.Common.{◌∙◌}
use Rattle.pict_core.specs.Term.{Var}
use Rattle.pict_core.specs.Plain.{plain_core}
use Rattle.pict_translation.specs.Placed.{beside, each}
use Rattle.pict_derive.proofs.Surrounding.{nested}
use Rattle.pict_derive.proofs.outside.Outside.nest.Goals as goal

pub returns : goal.returns
returns c f s is =
    let k = c.in_ok-level.level in
    c.in_ok-level.ensures.core (λ k. beside (each k f) (s k))
    ∙ c.in_ok-beside.ensures.core (each (Var k) f) (s (Var k)) (nested f k c.new_channel.new.self.depth c.args.self.now.depth _ (plain_core c.args.body) c.in_ok-level.ensures.depth is c.in_ok-reader.ensures)
