use Rattle.pict_words.proofs.Seeds.{no_plain, no_seed, seeded_some}
use Rattle.pict_words.proofs.words.seeded_by_five.Goals as goal

pub returns-in-None-clause-none : goal.returns-in-None-clause-none
returns-in-None-clause-none c e = no_plain _ (c.asked_by_four.ensures.none c.in-None.is)

pub returns-in-Some-clause-some : goal.returns-in-Some-clause-some
returns-in-Some-clause-some c =
    let asked = c.in-Some.asked in seeded_some c.with_seed.result _ asked.word.now c.args.seed.now asked.fueled asked.options c.in-Some.ensures.some c.with_seed.ensures.some

pub returns-in-Some-clause-none : goal.returns-in-Some-clause-none
returns-in-Some-clause-none c e = no_seed _ (c.with_seed.ensures.none e)
