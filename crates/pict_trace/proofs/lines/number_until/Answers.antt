use Rattle.pict_trace.proofs.Shown.{number_found, number_none, stop_none}
use Rattle.pict_trace.proofs.lines.number_until.Goals as goal

pub returns-in-Some-behind-clause-some : goal.returns-in-Some-behind-clause-some
returns-in-Some-behind-clause-some c = number_found c.args.text.now c.args.stop c.in-Some.n c.word_end-len.result c.in-Some-behind.rest.now c.in-Some.ensures.some c.in-Some-behind.ensures.some

pub returns-in-None-behind-clause-none : goal.returns-in-None-behind-clause-none
returns-in-None-behind-clause-none c e = stop_none c.args.text.now c.args.stop c.word_end-len.result c.requires.stop c.word_end-len.ensures.before c.word_end-len.ensures.ends (c.behind.ensures.none c.in-None-behind.is)

pub returns-in-None-clause-none : goal.returns-in-None-clause-none
returns-in-None-clause-none c e = number_none c.args.text.now c.args.stop c.word_end-len.result c.requires.stop c.word_end-len.ensures.before c.word_end-len.ensures.ends (c.number_of.ensures.none c.in-None.is)
