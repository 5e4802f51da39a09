-- One binder less, and as many are left.
use Rattle.std.proofs.Common.{rules, ◌≡◌, ◌∙◌, ◌<◌, drop, length, arith}
use Rattle.pict_binders.proofs.Numbers.{cut_more}
use Rattle.pict_binders.proofs.binders.Binders.cut.Goals as goal

pub loop-self-preserved : goal.loop-self-preserved
loop-self-preserved c =
    let more : c.args.left < length c.loop-self.self = search rules in
    cut_more c.loop-self.self c.unbind.new.self c.args.left c.unbind.ensures.rest more ∙ c.loop-self.invariant
