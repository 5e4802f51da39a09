use Rattle.std.proofs.Common.{ℕ, ◌≢◌, ◌≤◌, ◌<◌, Some, slice_get}
use Rattle.pict_shapes.specs.Fitting.{labels_in}
use Rattle.pict_shapes.proofs.matching.place_between.Given as goal

abbrev pub invariant-loop-place : goal.invariant-loop-place
invariant-loop-place l = (k : ℕ) → l.from ≤ k → k < l.place → slice_get (labels_in l.fields) k ≢ Some l.label.0
