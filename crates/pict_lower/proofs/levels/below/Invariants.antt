use Rattle.std.proofs.Common.{◌≡◌, ℕ, ◌≤◌, ◌&&◌, nat_lt, take, length}
use Rattle.pict_code.specs.Levels.{has}
use Rattle.pict_lower.proofs.levels.below.Given as goal

abbrev pub invariant-loop-count : goal.invariant-loop-count
invariant-loop-count l = (l.count ≤ length l.levels) × ((level : ℕ) → nat_lt level l.limit && has level (take l.count l.levels) ≡ nat_lt level l.limit && has level l.levels)

abbrev pub decreases-loop-count : goal.decreases-loop-count
decreases-loop-count l = l.count
