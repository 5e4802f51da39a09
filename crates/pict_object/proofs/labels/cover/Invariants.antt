use Rattle.std.proofs.Common.{◌≡◌, ◌-◌, ℕ, length}
use Rattle.pict_object.specs.Sizes.{place_at}
use Rattle.pict_object.proofs.labels.cover.Given as goal

abbrev pub invariant-loop-places : goal.invariant-loop-places
invariant-loop-places l = (label : ℕ) → place_at l.places.items label ≡ place_at l.initial.places.items label

abbrev pub decreases-loop-places : goal.decreases-loop-places
decreases-loop-places l = l.len - length l.places.items
