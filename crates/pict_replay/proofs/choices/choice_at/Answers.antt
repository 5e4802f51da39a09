use Rattle.pict_replay.proofs.OneReading.{choice_found, no_first, no_second}
use Rattle.pict_replay.proofs.choices.choice_at.Goals as goal

pub returns-in-Some-number_until-clause-some : goal.returns-in-Some-number_until-clause-some
returns-in-Some-number_until-clause-some c = choice_found c.args.text.now c.in-Some.ready.1.now c.in-Some-number_until.partner.1.now _ c.in-Some.ensures.some c.in-Some-number_until.ensures.some

pub returns-in-None-number_until-clause-none : goal.returns-in-None-number_until-clause-none
returns-in-None-number_until-clause-none c e = no_second c.args.text.now c.in-Some.ready.1.now c.in-Some.ready.0 c.in-Some.ensures.small c.in-Some.ensures.some (c.number_until-in-Some.ensures.none c.in-None-number_until.is)

pub returns-in-None-clause-none : goal.returns-in-None-clause-none
returns-in-None-clause-none c e = no_first c.args.text.now (c.number_until.ensures.none c.in-None.is)
