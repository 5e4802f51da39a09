use Rattle.std.proofs.Common.{◌≡◌, ◌+◌, ◌-◌, arith}
use Rattle.pict_core.specs.Plain.{plain_core}
use Rattle.pict_lower.proofs.Laying.{next, laid_behind, laid_here, whole_laid}
use Rattle.pict_lower.proofs.lowering.lower.Goals as goal

pub add_node-requires : goal.add_node-requires
add_node-requires c =
    let ps = c.in_ok-places.places.items in
    let i = c.loop-number.number - 1 in
    let n = next (plain_core c.args.core.now) ps i c.index.result.now c.in_ok-places.ensures (omega arith) c.index.ensures in
    (n.rest, laid_behind ps i c.loop-number.number c.index.result.now c.loop-number.nodes.items c.loop-number.sizes.items n (omega arith) c.loop-number.invariant.1)

pub loop-number-preserved : goal.loop-number-preserved
loop-number-preserved c =
    let ps = c.in_ok-places.places.items in
    let i = c.loop-number.number - 1 in
    let n = next (plain_core c.args.core.now) ps i c.index.result.now c.in_ok-places.ensures (omega arith) c.index.ensures in (
      omega arith,
      laid_here ps i c.index.result.now c.add_node.new.nodes.items c.add_node.new.sizes.items n
          (c.in_ok-add_node.ensures n.rest (laid_behind ps i c.loop-number.number c.index.result.now c.loop-number.nodes.items c.loop-number.sizes.items n (omega arith) c.loop-number.invariant.1)),
    )

pub returns : goal.returns
returns c =
    whole_laid (plain_core c.args.core.now) c.in_ok-places.places.items c.loop-number.number c.loop-number.nodes.items c.reverse.new.self.items c.loop-number.sizes.items
    c.in_ok-places.ensures (omega arith) c.loop-number.invariant.1 c.reverse.ensures.items
