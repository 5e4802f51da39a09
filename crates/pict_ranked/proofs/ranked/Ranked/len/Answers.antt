use Rattle.std.proofs.Common.{length, ap, ◌∙◌}
use Rattle.pict_ranked.proofs.Ranks.{counted}
use Rattle.pict_ranked.proofs.ranked.Ranked.len.Goals as goal

pub returns : goal.returns
returns g c = c.total.ensures ∙ counted c.self.inside.slots.items _ c.self.inside.counts c.self.invariant ∙ ap (λ z. length z.items) c.self.view_is
