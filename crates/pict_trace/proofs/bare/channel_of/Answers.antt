use Rattle.std.proofs.Common.{◌≡◌, sym, ◌∙◌, arith}
use Rattle.std.proofs.lemmas.Fmt.{decimal_injective}
use Rattle.pict_trace.proofs.bare.channel_of.Goals as goal

pub returns-then-number-from-clause-none : goal.returns-then-number-from-clause-none
returns-then-number-from-clause-none c e n few is =
    let same : c.in-Some.number ≡ n = decimal_injective c.in-Some.number n (omega arith) (omega arith) (sym c.in-Some.ensures.some ∙ is) in
    omega (arith, same, few, c.if-number-from.true)
