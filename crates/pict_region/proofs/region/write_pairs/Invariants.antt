use Rattle.std.proofs.Common.{◌≡◌, ◌+◌, ◌*◌, length}
use Rattle.pict_region.proofs.Pairs.{so_far}
use Rattle.pict_region.proofs.region.write_pairs.Given as goal

abbrev pub invariant-loop-index : goal.invariant-loop-index
invariant-loop-index l = record {
  place : l.place ≡ l.start + 2 * l.index-index;
  len : length l.words ≡ length l.fn.words;
  words : l.words ≡ so_far l.start l.fn.words l.values l.indices l.index-index;
}
