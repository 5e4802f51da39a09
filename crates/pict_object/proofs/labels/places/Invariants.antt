use Rattle.std.proofs.Common.{◌≡◌, ◌<◌, ℕ}
use Rattle.pict_object.specs.Sizes.{place_at}
use Rattle.pict_object.specs.Collected.{number_at}
use Rattle.pict_object.proofs.labels.places.Given as goal

abbrev pub invariant-loop-k : goal.invariant-loop-k
invariant-loop-k l = (j : ℕ) → j < l.k → place_at l.places.items (number_at l.table j) ≡ j
