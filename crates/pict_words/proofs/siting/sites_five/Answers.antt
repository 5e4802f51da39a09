use Rattle.pict_words.specs.Plain.{plain_options}
use Rattle.pict_words.proofs.Commands.{no_sites}
use Rattle.pict_words.proofs.Sites.{no_seeded, sited_some}
use Rattle.pict_words.proofs.siting.sites_five.Goals as goal

pub returns-in-None-clause-none : goal.returns-in-None-clause-none
returns-in-None-clause-none c e = no_seeded _ (c.seeded_by_four.ensures.none c.in-None.is)

pub returns-in-Some-clause-some : goal.returns-in-Some-clause-some
returns-in-Some-clause-some c =
    let s = c.in-Some.seeded in sited_some c.sites_of.result _ s.word.now c.args.sites.now s.seed (plain_options s.options) c.in-Some.ensures.some c.sites_of.ensures.some

pub returns-in-Some-clause-none : goal.returns-in-Some-clause-none
returns-in-Some-clause-none c e =
    let s = c.in-Some.seeded in no_sites _ s.word.now s.seed (plain_options s.options) c.in-Some.ensures.some (c.sites_of.ensures.none e)
