use Rattle.std.proofs.Common.{arith, refl, ◌∙◌}
use Rattle.pict_region.proofs.Pairs.{pairs_more}
use Rattle.pict_region.proofs.region.write_pairs.Goals as goal

pub loop-index-preserved : goal.loop-index-preserved
loop-index-preserved c = record {
  place = let e = c.loop-index.invariant.place in omega arith;
  len = c.put_pair.ensures.len ∙ c.loop-index.invariant.len;
  words = c.put_pair.ensures.words
      ∙ pairs_more _ _ _ _ _ _ _ _ c.loop-index-test.true c.requires.inside c.loop-index.invariant.place refl c.loop-index.invariant.words;
}
