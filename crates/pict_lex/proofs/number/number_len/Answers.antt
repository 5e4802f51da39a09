use Rattle.pict_lex.proofs.NumberLemmas.{minus_read, plain_read}
use Rattle.pict_lex.proofs.number.number_len.Goals as goal

pub returns-then-rest-eq45-clause-number : goal.returns-then-rest-eq45-clause-number
returns-then-rest-eq45-clause-number c =
    let e = c.digits_end.ensures in minus_read c.args.rest.now c.digits_end.result c.requires c.if-rest-eq45.true e.after e.within e.digits e.longest

pub returns-else-rest-eq45-clause-number : goal.returns-else-rest-eq45-clause-number
returns-else-rest-eq45-clause-number c =
    let e = c.digits_end-else-rest-eq45.ensures in
    plain_read c.args.rest.now c.digits_end-else-rest-eq45.result c.requires c.if-rest-eq45.false e.within e.digits e.longest
