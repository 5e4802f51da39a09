use Rattle.std.proofs.Common.{◌∙◌, arith, refl, ◌≤◌, length}
use Rattle.pict_orders.proofs.Trying.{tried_none, try_on, try_no_more, try_all}
use Rattle.pict_orders.proofs.search.Search.expand_at.Goals as goal

pub loop-partner-init : goal.loop-partner-init
loop-partner-init c = record { limit = refl; grows = omega arith; few = λ h. h; tried = λ p u h one. tried_none p c.args.self.now c.args.number c.args.ready h }

pub returns-in_default-clause-goes : goal.returns-in_default-clause-goes
returns-in_default-clause-goes c = λ p u h one.
    try_no_more p c.args.self.now c.loop-partner.self c.try_at.new.self c.args.number c.args.ready c.loop-partner.partner c.partner_count-partners.result c.index.result.now c.in_ok-extent.extent c.requires c.index.ensures
    c.partner_count-partners.ensures (omega (arith, c.max-partner-end.ensures, c.loop-partner-test.true)) one u (c.loop-partner.invariant.tried p u h one) c.in_ok-extent.ensures.goes c.in_default.not-All

pub loop-partner-preserved : goal.loop-partner-preserved
loop-partner-preserved c = record {
  limit = c.in_ok-extent.ensures.limit ∙ c.loop-partner.invariant.limit;
  grows = omega (arith, c.loop-partner.invariant.grows, c.in_ok-extent.ensures.grows);
  few = λ h.
      let before : length c.loop-partner.self.found.items ≤ c.loop-partner.self.limit = omega (arith, c.loop-partner.invariant.limit, c.loop-partner.invariant.few h) in
      let after = c.in_ok-extent.ensures.few before in
      omega (arith, c.loop-partner.invariant.limit, after);
  tried = λ p u h one.
      try_on p c.args.self.now c.loop-partner.self c.try_at.new.self c.args.number c.args.ready c.loop-partner.partner c.partner_count-partners.result c.index.result.now c.in_ok-extent.extent c.requires c.index.ensures
      c.partner_count-partners.ensures (omega (arith, c.max-partner-end.ensures, c.loop-partner-test.true)) one u (c.loop-partner.invariant.tried p u h one) c.in_ok-extent.ensures.goes c.in-All.is;
}

pub returns-clause-goes : goal.returns-clause-goes
returns-clause-goes c = λ p u h one.
    try_all p c.args.self.now c.loop-partner.self c.args.number c.args.ready c.loop-partner.partner c.partner_count-partners.result c.index.result.now c.requires c.index.ensures c.partner_count-partners.ensures
    (omega (arith, c.max-partner-end.ensures, c.loop-partner-test.false)) (c.loop-partner.invariant.tried p u h one)
