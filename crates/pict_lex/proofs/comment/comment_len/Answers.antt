use Rattle.std.proofs.Common.{arith}
use Rattle.pict_lex.proofs.BracketLemmas.{open_more, open_less, open_same, open_to_end, closed_here}
use Rattle.pict_lex.proofs.comment.comment_len.Goals as goal

pub returns-then-rest-at-lt2-clause-none : goal.returns-then-rest-at-lt2-clause-none
returns-then-rest-at-lt2-clause-none c =
    open_to_end c.args.rest.now c.inside.at c.inside.depth c.inside-test.true c.if-rest-at-lt2.true c.inside.invariant.searching

pub inside-preserved-in-Opening : goal.inside-preserved-in-Opening
inside-preserved-in-Opening c =
    let more = open_more c.args.rest.now c.inside.at c.inside.depth c.inside-test.true c.if-rest-at-lt2.false c.inside.invariant.searching c.in-Opening.ensures in
    record { within = more.within; deep = omega arith; searching = more }

pub inside-preserved-in-Closing : goal.inside-preserved-in-Closing
inside-preserved-in-Closing c =
    let less = open_less c.args.rest.now c.inside.at c.inside.depth c.inside-test.true c.if-rest-at-lt2.false c.inside.invariant.searching c.in-Closing.ensures in
    record { within = less.within; deep = omega arith; searching = less }

pub inside-preserved : goal.inside-preserved
inside-preserved c =
    let same = open_same c.args.rest.now c.inside.at c.inside.depth c.inside-test.true c.if-rest-at-lt2.false c.inside.invariant.searching c.in-None.ensures.0 c.in-None.ensures.1 in
    record { within = same.within; deep = omega arith; searching = same }

pub returns-clause-found : goal.returns-clause-found
returns-clause-found c = closed_here c.args.rest.now c.inside.at c.inside.depth c.inside-test.false c.requires c.inside.invariant.searching
