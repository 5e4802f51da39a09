use Rattle.pict_trace.proofs.Bares.{bare_found, bare_bad}
use Rattle.pict_trace.proofs.bare.read_bare.Goals as goal

pub returns-in-Some-clause-ok : goal.returns-in-Some-clause-ok
returns-in-Some-clause-ok c names = bare_found names c.args.text.now c.word_end-len.result _ (c.in-Some.ensures.some names) c.word_end-len.ensures.ends

pub returns-in-None-clause-bad : goal.returns-in-None-clause-bad
returns-in-None-clause-bad c e = bare_bad c.args.text.now c.word_end-len.result c.requires.no_string c.requires.no_character c.word_end-len.ensures.before c.word_end-len.ensures.ends (c.bare_value.ensures.none c.in-None.is)
