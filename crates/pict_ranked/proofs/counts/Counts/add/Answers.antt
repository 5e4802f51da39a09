use Rattle.std.proofs.Common.{ℕ, ◌+◌, ◌≤◌, ◌<◌, ◌^◌, List, length, drop, set, refl, ap, ◌∙◌, arith, rules}
use Rattle.std.proofs.lemmas.List.{get_or_read, length-drop}
use Rattle.pict_ranked.specs.Tree.{total}
use Rattle.pict_ranked.proofs.Trees.{below_total}
use Rattle.pict_ranked.proofs.Changing.{IsLess, shift_less, above_leaf, above_node, whole, off_within, off_here, off_leaves, room, room_above}
use Rattle.pict_ranked.proofs.Leaves.{leaf_within, leaf_counts, leaf_set}
use Rattle.pict_ranked.proofs.counts.Counts.add.Goals as goal

pub overflow_add-index_mut : goal.overflow_add-index_mut
overflow_add-index_mut c =
    let h = leaf_within c.self.inside.width c.self.inside.nodes.items c.args.self.now c.args.leaf c.self.invariant c.self.view_is c.requires.within in
    let e = leaf_counts c.self.inside.width c.self.inside.nodes.items c.args.self.now c.args.leaf c.self.invariant c.self.view_is h c.index_mut.result.now c.index_mut.ensures.value in
    let b = below_total c.self.inside.width c.self.inside.nodes.items c.self.invariant (c.self.inside.width + c.args.leaf) (omega (arith, h)) (omega (arith, h)) in
    let t = ap total c.self.view_is in
    let l = ap (λ (z : List ℕ). length z) c.self.view_is in
    let d = length-drop c.self.inside.width c.self.inside.nodes.items in
    let f = c.requires.fits in
    let s = c.self.invariant.size in
    let w = c.self.invariant.complete.0 in
    omega (arith, e.0, b, t, l, d, f, s, w)

pub loop-k-init : goal.loop-k-init
loop-k-init c =
    let h = leaf_within c.self.inside.width c.self.inside.nodes.items c.args.self.now c.args.leaf c.self.invariant c.self.view_is c.requires.within in
    let e = leaf_counts c.self.inside.width c.self.inside.nodes.items c.args.self.now c.args.leaf c.self.invariant c.self.view_is h c.index_mut.result.now c.index_mut.ensures.value in
    let t = ap total c.self.view_is in
    let l = ap (λ (z : List ℕ). length z) c.self.view_is in
    let d = length-drop c.self.inside.width c.self.inside.nodes.items in
    let s = c.self.invariant.size in
    let w = c.self.invariant.complete.0 in
    let f : total (drop c.self.inside.width c.self.inside.nodes.items) + 1 < 2 ^ 32 = let g = c.requires.fits in omega (arith, t, l, d, s, w, g) in (
      refl,
      above_leaf IsLess shift_less c.self.inside.width c.self.inside.nodes.items c.args.leaf (c.index_mut.result.now + 1) c.self.invariant h (omega (arith, e.0)),
      room_above c.self.inside.nodes.items (c.self.inside.width + c.args.leaf) (c.index_mut.result.now + 1) (omega (arith, h)) (room c.self.inside.width c.self.inside.nodes.items c.self.invariant f (c.self.inside.width + c.args.leaf) (omega (arith, h))),
    )

pub invariant_of-self : goal.invariant_of-self
invariant_of-self c = whole IsLess c.loop-k.self-inside.width _ c.loop-k.self-inside.nodes.items c.loop-k.k c.loop-k.invariant.1 (omega (arith, c.loop-k-test.false))

pub index_mut-requires-in-loop-k : goal.index_mut-requires-in-loop-k
index_mut-requires-in-loop-k c = let s : c.loop-k.k < length c.loop-k.self-inside.nodes.items = off_within IsLess c.loop-k.self-inside.width _ c.loop-k.self-inside.nodes.items c.loop-k.k c.loop-k.invariant.1 in search rules

pub overflow_add-index_mut-in-loop-k : goal.overflow_add-index_mut-in-loop-k
overflow_add-index_mut-in-loop-k c =
    let s = off_within IsLess c.loop-k.self-inside.width _ c.loop-k.self-inside.nodes.items c.loop-k.k c.loop-k.invariant.1 in
    let e = get_or_read c.loop-k.self-inside.nodes.items c.loop-k.k c.index_mut-in-loop-k.result.now s c.index_mut-in-loop-k.ensures.value 0 in
    let r = c.loop-k.invariant.2 c.loop-k.k (omega (arith, c.loop-k-test.true)) (omega arith) in
    omega (arith, e, r)

pub loop-k-preserved : goal.loop-k-preserved
loop-k-preserved c =
    let some : 1 ≤ c.loop-k.k = omega (arith, c.loop-k-test.true) in
    let s = off_within IsLess c.loop-k.self-inside.width _ c.loop-k.self-inside.nodes.items c.loop-k.k c.loop-k.invariant.1 in
    let e = get_or_read c.loop-k.self-inside.nodes.items c.loop-k.k c.index_mut-in-loop-k.result.now s c.index_mut-in-loop-k.ensures.value 0 in
    let off = off_here IsLess c.loop-k.self-inside.width _ c.loop-k.self-inside.nodes.items c.loop-k.k c.loop-k.invariant.1 some in (
      c.loop-k.invariant.0,
      above_node IsLess shift_less c.loop-k.self-inside.width _ c.loop-k.self-inside.nodes.items c.loop-k.k (c.index_mut-in-loop-k.result.now + 1) some c.loop-k.invariant.1 (omega (arith, e, off)),
      room_above c.loop-k.self-inside.nodes.items c.loop-k.k (c.index_mut-in-loop-k.result.now + 1) some c.loop-k.invariant.2,
    )

pub returns : goal.returns
returns c =
    let h = leaf_within c.self.inside.width c.self.inside.nodes.items c.args.self.now c.args.leaf c.self.invariant c.self.view_is c.requires.within in
    let e = leaf_counts c.self.inside.width c.self.inside.nodes.items c.args.self.now c.args.leaf c.self.invariant c.self.view_is h c.index_mut.result.now c.index_mut.ensures.value in
    off_leaves IsLess c.loop-k.self-inside.width _ c.loop-k.self-inside.nodes.items c.loop-k.k c.loop-k.invariant.1
    ∙ ap (λ z. drop z (set c.self.inside.nodes.items (c.self.inside.width + c.args.leaf) (c.index_mut.result.now + 1))) c.loop-k.invariant.0
    ∙ leaf_set c.self.inside.width c.self.inside.nodes.items c.args.self.now c.args.leaf c.self.view_is (c.index_mut.result.now + 1)
    ∙ ap (λ z. set c.args.self.now c.args.leaf (z + 1)) e.1
