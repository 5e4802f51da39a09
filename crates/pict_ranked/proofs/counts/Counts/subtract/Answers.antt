use Rattle.std.proofs.Common.{◌+◌, ◌-◌, ◌≤◌, ◌<◌, length, drop, set, refl, ap, ◌∙◌, arith, rules}
use Rattle.std.proofs.lemmas.List.{get_or_read}
use Rattle.pict_ranked.proofs.Changing.{IsMore, shift_more, above_leaf, above_node, whole, off_within, off_here, off_leaves}
use Rattle.pict_ranked.proofs.Leaves.{leaf_within, leaf_counts, leaf_set}
use Rattle.pict_ranked.proofs.counts.Counts.subtract.Goals as goal

pub loop-k-init : goal.loop-k-init
loop-k-init c =
    let h = leaf_within c.self.inside.width c.self.inside.nodes.items c.args.self.now c.args.leaf c.self.invariant c.self.view_is c.requires.within in
    let e = leaf_counts c.self.inside.width c.self.inside.nodes.items c.args.self.now c.args.leaf c.self.invariant c.self.view_is h c.index_mut.result.now c.index_mut.ensures.value in
    let some = c.requires.some in (
      refl,
      above_leaf IsMore shift_more c.self.inside.width c.self.inside.nodes.items c.args.leaf (c.index_mut.result.now - 1) c.self.invariant h (omega (arith, e.0, e.1, some)),
    )

pub invariant_of-self : goal.invariant_of-self
invariant_of-self c = whole IsMore c.loop-k.self-inside.width _ c.loop-k.self-inside.nodes.items c.loop-k.k c.loop-k.invariant.1 (omega (arith, c.loop-k-test.false))

pub index_mut-requires-in-loop-k : goal.index_mut-requires-in-loop-k
index_mut-requires-in-loop-k c = let s : c.loop-k.k < length c.loop-k.self-inside.nodes.items = off_within IsMore c.loop-k.self-inside.width _ c.loop-k.self-inside.nodes.items c.loop-k.k c.loop-k.invariant.1 in search rules

pub overflow_sub-index_mut-in-loop-k : goal.overflow_sub-index_mut-in-loop-k
overflow_sub-index_mut-in-loop-k c =
    let s = off_within IsMore c.loop-k.self-inside.width _ c.loop-k.self-inside.nodes.items c.loop-k.k c.loop-k.invariant.1 in
    let e = get_or_read c.loop-k.self-inside.nodes.items c.loop-k.k c.index_mut-in-loop-k.result.now s c.index_mut-in-loop-k.ensures.value 0 in
    let off = off_here IsMore c.loop-k.self-inside.width _ c.loop-k.self-inside.nodes.items c.loop-k.k c.loop-k.invariant.1 (omega (arith, c.loop-k-test.true)) in
    omega (arith, e, off)

pub loop-k-preserved : goal.loop-k-preserved
loop-k-preserved c =
    let some : 1 ≤ c.loop-k.k = omega (arith, c.loop-k-test.true) in
    let s = off_within IsMore c.loop-k.self-inside.width _ c.loop-k.self-inside.nodes.items c.loop-k.k c.loop-k.invariant.1 in
    let e = get_or_read c.loop-k.self-inside.nodes.items c.loop-k.k c.index_mut-in-loop-k.result.now s c.index_mut-in-loop-k.ensures.value 0 in
    let off = off_here IsMore c.loop-k.self-inside.width _ c.loop-k.self-inside.nodes.items c.loop-k.k c.loop-k.invariant.1 some in (
      c.loop-k.invariant.0,
      above_node IsMore shift_more c.loop-k.self-inside.width _ c.loop-k.self-inside.nodes.items c.loop-k.k (c.index_mut-in-loop-k.result.now - 1) some c.loop-k.invariant.1 (omega (arith, e, off)),
    )

pub returns : goal.returns
returns c =
    let h = leaf_within c.self.inside.width c.self.inside.nodes.items c.args.self.now c.args.leaf c.self.invariant c.self.view_is c.requires.within in
    let e = leaf_counts c.self.inside.width c.self.inside.nodes.items c.args.self.now c.args.leaf c.self.invariant c.self.view_is h c.index_mut.result.now c.index_mut.ensures.value in
    off_leaves IsMore c.loop-k.self-inside.width _ c.loop-k.self-inside.nodes.items c.loop-k.k c.loop-k.invariant.1
    ∙ ap (λ z. drop z (set c.self.inside.nodes.items (c.self.inside.width + c.args.leaf) (c.index_mut.result.now - 1))) c.loop-k.invariant.0
    ∙ leaf_set c.self.inside.width c.self.inside.nodes.items c.args.self.now c.args.leaf c.self.view_is (c.index_mut.result.now - 1)
    ∙ ap (λ z. set c.args.self.now c.args.leaf (z - 1)) e.1
