use Rattle.std.proofs.Common.{◌≡◌, ◌-◌, ◌<◌, ◌&&◌, nat_lt, take, ◌∙◌, arith, get_or}
use Rattle.pict_code.specs.Levels.{has}
use Rattle.pict_lower.proofs.Ordered.{cut_once, cut_done, rises_taken}
use Rattle.pict_lower.proofs.levels.below.Goals as goal
use Rattle.pict_lower.proofs.levels.below.Goals.{then-loop-count-test+else-levels-count, else-loop-count-test}

pub loop-count-preserved : goal.loop-count-preserved
loop-count-preserved c = (
  omega arith,
  λ level. cut_once c.args.limit c.args.levels.now c.loop-count.count (omega arith) c.loop-count.invariant.0 (omega (arith, c.if-levels-count.true)) level ∙ c.loop-count.invariant.1 level,
)

pub returns-clause-rises : goal.returns-clause-rises
returns-clause-rises c = rises_taken 0 c.loop-count.count c.args.levels.now c.requires

pub returns-clause-below : goal.returns-clause-below
returns-clause-below c =
    λ level.
    let low : 0 < c.loop-count.count → get_or c.args.levels.now (c.loop-count.count - 1) 0 < c.args.limit = elim c.loop-count-test.branch [
      | then-loop-count-test+else-levels-count w ↦ λ _. omega (arith, w.if-levels-count.false)
      | else-loop-count-test w ↦ λ h. absurd (omega (arith, h, w.loop-count-test.false))
    ] in
    cut_done c.args.limit c.args.levels.now c.loop-count.count c.requires c.loop-count.invariant.0 low level ∙ c.loop-count.invariant.1 level
