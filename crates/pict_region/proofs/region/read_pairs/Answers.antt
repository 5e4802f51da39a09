use Rattle.std.proofs.Common.{arith, refl, ◌∙◌}
use Rattle.std.proofs.lemmas.List.{length-set}
use Rattle.pict_region.proofs.Pairs.{words_more, others_more}
use Rattle.pict_region.proofs.region.read_pairs.Goals as goal

pub loop-index-preserved : goal.loop-index-preserved
loop-index-preserved c = record {
  place = let e = c.loop-index.invariant.place in omega arith;
  len = length-set c.loop-index.values _ _ ∙ c.loop-index.invariant.len;
  words = words_more _ _ _ _ _ _ _ _ c.loop-index-test.true c.requires.rising refl
      (omega (arith, c.loop-index.invariant.len, c.requires.known c.loop-index.index-index)) c.requires.inside c.loop-index.invariant.place
      refl refl c.loop-index.invariant.words;
  others = λ index none. others_more _ _ _ _ _ _ index c.loop-index-test.true refl c.loop-index.invariant.others none;
}
