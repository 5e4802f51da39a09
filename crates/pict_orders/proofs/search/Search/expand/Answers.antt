use Rattle.std.proofs.Common.{◌∙◌, arith, refl, ◌≤◌, length}
use Rattle.pict_orders.proofs.Trying.{expanded_none, expand_on, expand_no_more, expand_all}
use Rattle.pict_orders.proofs.search.Search.expand.Goals as goal

pub loop-ready-init : goal.loop-ready-init
loop-ready-init c = record { limit = refl; grows = omega arith; few = λ h. h; expanded = λ p u h. expanded_none p c.args.self.now c.args.number h }

pub returns-in_default-clause-goes : goal.returns-in_default-clause-goes
returns-in_default-clause-goes c =
    λ p u h.
    expand_no_more p c.args.self.now c.loop-ready.self c.expand_at.new.self c.args.number c.loop-ready.ready c.ready_count-count.result c.index.result.now c.in_ok-extent.extent c.requires c.index.ensures
    c.ready_count-count.ensures c.loop-ready-test.true u (c.loop-ready.invariant.expanded p u h) c.in_ok-extent.ensures.goes c.in_default.not-All

pub loop-ready-preserved : goal.loop-ready-preserved
loop-ready-preserved c = record {
  limit = c.in_ok-extent.ensures.limit ∙ c.loop-ready.invariant.limit;
  grows = omega (arith, c.loop-ready.invariant.grows, c.in_ok-extent.ensures.grows);
  few = λ h.
      let before : length c.loop-ready.self.found.items ≤ c.loop-ready.self.limit = omega (arith, c.loop-ready.invariant.limit, c.loop-ready.invariant.few h) in
      let after = c.in_ok-extent.ensures.few before in
      omega (arith, c.loop-ready.invariant.limit, after);
  expanded = λ p u h.
      expand_on p c.args.self.now c.loop-ready.self c.expand_at.new.self c.args.number c.loop-ready.ready c.ready_count-count.result c.index.result.now c.in_ok-extent.extent c.requires c.index.ensures
      c.ready_count-count.ensures c.loop-ready-test.true u (c.loop-ready.invariant.expanded p u h) c.in_ok-extent.ensures.goes c.in-All.is;
}

pub returns-clause-goes : goal.returns-clause-goes
returns-clause-goes c =
    λ p u h.
    expand_all p c.args.self.now c.loop-ready.self c.args.number c.loop-ready.ready c.ready_count-count.result c.index.result.now c.requires c.index.ensures c.ready_count-count.ensures
    c.loop-ready-test.false (c.loop-ready.invariant.expanded p u h)
