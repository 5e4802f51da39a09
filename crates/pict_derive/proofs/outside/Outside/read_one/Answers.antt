-- The pattern that binds all.
use Rattle.std.proofs.Common.{◌∙◌, ◌+◌, ap, sym, get_or}
use Rattle.pict_core.specs.Closed.{binds}
use Rattle.pict_translation.specs.Simple.{nothing}
use Rattle.pict_derive.proofs.Surrounding.{plain_bind}
use Rattle.pict_derive.proofs.outside.Outside.read_one.Goals as goal

pub returns : goal.returns
returns c f s sent =
    let size = c.in_ok-inside.ensures ∙ ap (λ p. c.args.self.now.depth + binds p) (sym plain_bind) in
    rw plain_bind at (c.in_ok-read.ensures (λ xs. f (get_or xs 0 nothing)) s sent size)
