-- Costs add up.
use Rattle.std.proofs.Common.{ℕ, ◌+◌, ◌≤◌, ◌≡◌, arith, cond, true, false, Bool, nat_lt, ◌^◌, ◌-◌}
use Rattle.pict_region.specs.RegionState.{raised, raised_by}
use Rattle.pict_queue.specs.QueuesState.{QueuesState, CostsAtMost}

pub costs_more : (a b c : QueuesState) (m n k : ℕ) → m + n ≤ k → CostsAtMost m a b → CostsAtMost n b c → CostsAtMost k a c
costs_more a b c m n k h v w = record { least = omega (arith, v.least, w.least); most = omega (arith, h, v.most, w.most) }

raised_once : (w : ℕ) (b : Bool) → (w ≤ cond b (w + 1) w) × (cond b (w + 1) w ≤ w + 1)
raised_once w true = (omega arith, omega arith)
raised_once w false = (omega arith, omega arith)

pub costs_one : (a b : QueuesState) → b.region.work ≡ raised a.region.work → CostsAtMost 1 a b
costs_one a b e = let r = raised_once a.region.work (nat_lt a.region.work (2 ^ 64 - 1)) in record { least = omega (arith, e, r.0); most = omega (arith, e, r.1) }

pub costs_nothing : (a b : QueuesState) → b.region.work ≡ a.region.work → CostsAtMost 0 a b
costs_nothing a b e = record { least = omega (arith, e); most = omega (arith, e) }

pub costs_by : (a b : QueuesState) (n : ℕ) → b.region.work ≡ raised_by n a.region.work → CostsAtMost n a b
costs_by a b n e = record { least = omega (arith, e); most = omega (arith, e) }

pub costs_up : (a b : QueuesState) (m n : ℕ) → m ≤ n → CostsAtMost m a b → CostsAtMost n a b
costs_up a b m n h c = record { least = c.least; most = omega (arith, h, c.most) }
