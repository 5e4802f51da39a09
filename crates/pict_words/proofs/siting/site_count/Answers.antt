use Rattle.std.proofs.Common.{◌≡◌, ◌≤◌, sym, ◌∙◌, arith}
use Rattle.std.proofs.lemmas.Fmt.{decimal_injective}
use Rattle.pict_words.proofs.siting.site_count.Goals as goal

pub returns-then-count-eq0-clause-none : goal.returns-then-count-eq0-clause-none
returns-then-count-eq0-clause-none c e n x =
    let some : 1 ≤ n = x.some in
    let few : n ≤ 64 = x.few in
    let same : c.in-Some.count ≡ n = decimal_injective c.in-Some.count n (omega arith) (omega (arith, few)) (sym c.in-Some.ensures.some ∙ x.is) in
    omega (arith, c.if-count-eq0.true, same, some)

pub returns-then-count-gt-SITE_LIMIT-clause-none : goal.returns-then-count-gt-SITE_LIMIT-clause-none
returns-then-count-gt-SITE_LIMIT-clause-none c e n x =
    let few : n ≤ 64 = x.few in
    let same : c.in-Some.count ≡ n = decimal_injective c.in-Some.count n (omega arith) (omega (arith, few)) (sym c.in-Some.ensures.some ∙ x.is) in
    omega (arith, c.if-count-gt-SITE_LIMIT.true, same, few)
