use Rattle.pict_lex.proofs.DueLemmas.{plain_item}
use Rattle.pict_lex.proofs.literal.byte_due.Goals as goal

pub returns-then-byte-le126 : goal.returns-then-byte-le126
returns-then-byte-le126 c =
    plain_item c.args.quote c.args.after.now c.requires.some (c.if-byte-ge32.true, c.if-byte-le126.true) c.requires.no_backslash c.if-byte-quote.false
