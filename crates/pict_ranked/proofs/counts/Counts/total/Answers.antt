use Rattle.std.proofs.Common.{◌≤◌, ◌<◌, length, ap, ◌∙◌, arith}
use Rattle.std.proofs.lemmas.List.{get_or_read}
use Rattle.pict_ranked.specs.Tree.{total}
use Rattle.pict_ranked.proofs.Trees.{root}
use Rattle.pict_ranked.proofs.counts.Counts.total.Goals as goal

pub returns-else-self-eq0 : goal.returns-else-self-eq0
returns-else-self-eq0 c =
    let some : 1 ≤ c.self.inside.width = omega (arith, c.if-self-eq0.false) in
    let size : 1 < length c.self.inside.nodes.items = omega (arith, some, c.self.invariant.size) in
    get_or_read c.self.inside.nodes.items 1 c.index.result.now size c.index.ensures 0
    ∙ root c.self.inside.width c.self.inside.nodes.items c.self.invariant some ∙ ap total c.self.view_is
