use Rattle.std.proofs.Common.{◌≡◌, sym, ◌∙◌, arith}
use Rattle.std.proofs.lemmas.Fmt.{decimal_injective}
use Rattle.pict_words.proofs.words.fuel_of.Goals as goal

pub returns-then-fuel-gt-FUEL_LIMIT-clause-none : goal.returns-then-fuel-gt-FUEL_LIMIT-clause-none
returns-then-fuel-gt-FUEL_LIMIT-clause-none c e fuel below is =
    let same : c.in-Some.fuel ≡ fuel = decimal_injective c.in-Some.fuel fuel (omega arith) (omega (arith, below)) (sym c.in-Some.ensures.some ∙ is) in
    omega (arith, c.if-fuel-gt-FUEL_LIMIT.true, same, below)
