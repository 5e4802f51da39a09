use Rattle.std.proofs.Common.{◌∙◌, arith}
use Rattle.std.proofs.lemmas.List.{length-set}
use Rattle.pict_region.specs.Values.{gathered}
use Rattle.pict_region.proofs.Pairs.{overlaid_behind}
use Rattle.pict_region.proofs.region.put_gathered.Goals as goal

pub returns-clause-words : goal.returns-clause-words
returns-clause-words c =
    c.write_pairs.ensures.words
    ∙ overlaid_behind c.args.start c.args.word (gathered c.args.values.now c.args.indices.now) c.args.words.now (omega (arith, c.requires.inside))

pub returns-clause-len : goal.returns-clause-len
returns-clause-len c = c.write_pairs.ensures.len ∙ length-set c.args.words.now c.args.start c.args.word
