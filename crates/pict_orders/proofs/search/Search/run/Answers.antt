use Rattle.std.proofs.Common.{◌∙◌, arith, refl, ◌≤◌, length}
use Rattle.pict_orders.proofs.Trying.{run_none, run_on, run_no_more, run_all, run_out}
use Rattle.pict_orders.proofs.search.Search.run.Goals as goal

pub loop-number-init : goal.loop-number-init
loop-number-init c = record { limit = refl; some = omega arith; few = λ h. h; run = λ p u h. run_none p c.args.self.now h }

pub returns-then-number-len-clause-goes : goal.returns-then-number-len-clause-goes
returns-then-number-len-clause-goes c =
    λ p u h. run_all p c.args.self.now c.loop-number.self c.loop-number.number (c.loop-number.invariant.run p u h) (omega arith)

pub loop-number-preserved : goal.loop-number-preserved
loop-number-preserved c = record {
  limit = c.in_ok-extent.ensures.limit ∙ c.loop-number.invariant.limit;
  some = omega (arith, c.in_ok-extent.ensures.grows);
  few = λ h.
      let before : length c.loop-number.self.found.items ≤ c.loop-number.self.limit = omega (arith, c.loop-number.invariant.limit, c.loop-number.invariant.few h) in
      let after = c.in_ok-extent.ensures.few before in
      omega (arith, c.loop-number.invariant.limit, after);
  run = λ p u h.
      run_on p c.args.self.now c.loop-number.self c.expand.new.self c.loop-number.number c.in_ok-extent.extent (omega arith) u (c.loop-number.invariant.run p u h) c.in_ok-extent.ensures.goes c.in-All.is;
}

pub returns-in_default-clause-goes : goal.returns-in_default-clause-goes
returns-in_default-clause-goes c =
    λ p u h.
    run_no_more p c.args.self.now c.loop-number.self c.expand.new.self c.loop-number.number c.in_ok-extent.extent (omega arith) u (c.loop-number.invariant.run p u h) c.in_ok-extent.ensures.goes c.in_default.not-All

pub returns-clause-goes : goal.returns-clause-goes
returns-clause-goes c =
    λ p u h. run_out p c.args.self.now c.loop-number.self c.loop-number.number (c.loop-number.invariant.run p u h)
