-- How the work rises.
use Rattle.std.proofs.Common.{ℕ, ◌+◌, ◌-◌, ◌^◌, ◌≤◌, Bool, true, false, cond, ltb, arith}
use Rattle.pict_region.specs.RegionState.{raised}

chosen_least : (b : Bool) (work : ℕ) → work ≤ cond b (work + 1) work
chosen_least true work = omega arith
chosen_least false work = omega arith

pub raised_least : (work : ℕ) → work ≤ raised work
raised_least work = chosen_least (ltb work (2 ^ 64 - 1)) work
