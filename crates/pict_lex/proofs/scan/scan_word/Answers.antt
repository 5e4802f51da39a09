use Rattle.std.proofs.Common.{refl}
use Rattle.pict_lex.proofs.FrontLemmas.{word_token}
use Rattle.pict_syntax.specs.Tokens.{keyword}
use Rattle.pict_lex.proofs.scan.scan_word.Goals as goal

pub returns-in-Some : goal.returns-in-Some
returns-in-Some c =
    let e = c.word_len-len.ensures in
    word_token c.args.rest.now c.word_len-len.result (keyword c.in-Some.keyword) e.some e.within c.requires.letter e.longest c.in-Some.ensures.found tt

pub returns-in-None : goal.returns-in-None
returns-in-None c =
    let e = c.word_len-len.ensures in
    word_token c.args.rest.now c.word_len-len.result _ e.some e.within c.requires.letter e.longest (refl, e.word, c.in-None.ensures.none) tt
