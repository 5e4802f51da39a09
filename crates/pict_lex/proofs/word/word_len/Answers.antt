use Rattle.pict_lex.proofs.RunLemmas.{word_taken}
use Rattle.pict_lex.proofs.word.word_len.Goals as goal

pub returns-else-is_word_byte-clause-word : goal.returns-else-is_word_byte-clause-word
returns-else-is_word_byte-clause-word c =
    let i = c.loop-len.invariant in word_taken c.args.rest.now c.loop-len.len i.some i.within c.requires.letter i.word

pub returns-after-loop-len-clause-word : goal.returns-after-loop-len-clause-word
returns-after-loop-len-clause-word c =
    let i = c.loop-len.invariant in word_taken c.args.rest.now c.loop-len.len i.some i.within c.requires.letter i.word
