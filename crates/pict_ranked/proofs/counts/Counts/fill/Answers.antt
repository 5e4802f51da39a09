use Rattle.std.proofs.Common.{ℕ, List, ◌-◌, ◌≡◌, length, ap, ◌∙◌, arith}
use Rattle.pict_ranked.specs.Tree.{total}
use Rattle.pict_ranked.proofs.Leaves.{fill_on, total_filled, length_filled}
use Rattle.pict_ranked.proofs.counts.Counts.fill.Goals as goal

pub add-requires-clause-fits : goal.add-requires-clause-fits
add-requires-clause-fits c =
    let e : total c.loop-leaf.self ≡ c.loop-leaf.leaf = ap total c.loop-leaf.invariant ∙ total_filled c.loop-leaf.leaf (length c.args.self.now - c.loop-leaf.leaf) in
    let l : length c.loop-leaf.self ≡ length c.args.self.now = ap (λ (z : List ℕ). length z) c.loop-leaf.invariant ∙ length_filled c.loop-leaf.leaf (length c.args.self.now) (omega (arith, c.loop-leaf-test.true, c.requires)) in
    let r = c.requires in
    let t = c.loop-leaf-test.true in
    omega (arith, e, l, r, t)

pub loop-leaf-preserved : goal.loop-leaf-preserved
loop-leaf-preserved c =
    fill_on c.loop-leaf.leaf (length c.args.self.now) c.loop-leaf.self c.add.new.self (omega (arith, c.loop-leaf-test.true, c.requires)) c.loop-leaf.invariant c.add.ensures
