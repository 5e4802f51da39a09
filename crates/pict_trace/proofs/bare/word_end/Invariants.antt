use Rattle.std.proofs.Common.{length, ◌-◌, ◌≡◌, ◌<◌, ◌≤◌, ℕ, slice_index, false}
use Rattle.pict_trace.specs.Reading.{is_end}
use Rattle.pict_trace.proofs.bare.word_end.Given as goal

abbrev pub invariant-loop-len : goal.invariant-loop-len
invariant-loop-len l = record {
  within : l.len ≤ length l.text;
  before : (k : ℕ) → k < l.len → is_end (slice_index l.text k) ≡ false;
}

abbrev pub decreases-loop-len : goal.decreases-loop-len
decreases-loop-len l = length l.text - l.len
