use Rattle.std.proofs.Common.{ℕ, ◌≤◌, ◌<◌, ◌*◌, ◌+◌, ◌-◌, List, length, take, drop, get_or, sym, subst, arith}
use Rattle.std.proofs.lemmas.List.{get_or_read, length-drop}
use Rattle.pict_ranked.specs.Tree.{total, node}
use Rattle.pict_ranked.proofs.Totals.{some_counted}
use Rattle.pict_ranked.proofs.Descending.{Descends, begins, goes_left, goes_right, is_within, is_before, is_here}
use Rattle.pict_ranked.proofs.counts.Counts.find.Goals as goal

pub loop-k-init : goal.loop-k-init
loop-k-init c =
    let h : c.args.i < total (drop c.self.inside.width c.self.inside.nodes.items) = subst (λ l. c.args.i < total l) (sym c.self.view_is) c.requires in
    let l = some_counted (drop c.self.inside.width c.self.inside.nodes.items) (omega (arith, h)) in
    let some : 1 ≤ c.self.inside.width = omega (arith, l, length-drop c.self.inside.width c.self.inside.nodes.items, c.self.invariant.size) in
    (omega arith, begins c.self.inside.width c.self.inside.nodes.items c.self.invariant c.args.i h some)

pub loop-k-preserved-then-left-count : goal.loop-k-preserved-then-left-count
loop-k-preserved-then-left-count c =
    let size : 2 * c.loop-k.k < length c.self.inside.nodes.items = omega (arith, c.loop-k-test.true, c.self.invariant.size) in
    let e = get_or_read c.self.inside.nodes.items (2 * c.loop-k.k) c.index.result.now size c.index.ensures 0 in
    let h : c.loop-k.left < node c.self.inside.nodes.items (2 * c.loop-k.k) = omega (arith, c.if-left-count.true, e) in
    (omega (arith, c.loop-k.invariant.0), goes_left c.self.inside.width c.self.inside.nodes.items c.self.invariant c.args.i c.loop-k.left c.loop-k.k c.loop-k.invariant.1 c.loop-k-test.true h)

pub loop-k-preserved : goal.loop-k-preserved
loop-k-preserved c =
    let size : 2 * c.loop-k.k < length c.self.inside.nodes.items = omega (arith, c.loop-k-test.true, c.self.invariant.size) in
    let e = get_or_read c.self.inside.nodes.items (2 * c.loop-k.k) c.index.result.now size c.index.ensures 0 in
    let h : node c.self.inside.nodes.items (2 * c.loop-k.k) ≤ c.loop-k.left = omega (arith, c.if-left-count.false, e) in
    let d = goes_right c.self.inside.width c.self.inside.nodes.items c.self.invariant c.args.i c.loop-k.left c.loop-k.k c.loop-k.invariant.1 c.loop-k-test.true c.loop-k.invariant.0 h in
    (omega arith, subst (λ z. Descends c.self.inside.width c.self.inside.nodes.items c.args.i (c.loop-k.left - z) (2 * c.loop-k.k + 1)) (sym e) d)

pub returns-clause-within : goal.returns-clause-within
returns-clause-within c =
    let h : c.self.inside.width ≤ c.loop-k.k = omega (arith, c.loop-k-test.false) in
    subst (λ (l : List ℕ). c.loop-k.k - c.self.inside.width < length l) c.self.view_is
    (is_within c.self.inside.width c.self.inside.nodes.items c.self.invariant c.args.i c.loop-k.left c.loop-k.k c.loop-k.invariant.1 h)

pub returns-clause-before : goal.returns-clause-before
returns-clause-before c =
    let h : c.self.inside.width ≤ c.loop-k.k = omega (arith, c.loop-k-test.false) in
    subst (λ l. total (take (c.loop-k.k - c.self.inside.width) l) ≤ c.args.i) c.self.view_is
    (is_before c.self.inside.width c.self.inside.nodes.items c.self.invariant c.args.i c.loop-k.left c.loop-k.k c.loop-k.invariant.1 h)

pub returns-clause-here : goal.returns-clause-here
returns-clause-here c =
    let h : c.self.inside.width ≤ c.loop-k.k = omega (arith, c.loop-k-test.false) in
    subst (λ l. c.args.i < total (take (c.loop-k.k - c.self.inside.width) l) + get_or l (c.loop-k.k - c.self.inside.width) 0) c.self.view_is
    (is_here c.self.inside.width c.self.inside.nodes.items c.self.invariant c.args.i c.loop-k.left c.loop-k.k c.loop-k.invariant.1 h)
