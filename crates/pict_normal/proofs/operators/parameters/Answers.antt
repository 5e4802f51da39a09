-- Each turn the greatest of the parameters that are left is added.
use Rattle.std.proofs.Common.{◌≡◌, ◌-◌, ◌+◌, sym, ◌∙◌, ap, arith}
use Rattle.pict_normal.specs.WrittenArguments.{parameters}
use Rattle.pict_normal.proofs.BareOperators.{before_none, parameters_more, types_before}
use Rattle.pict_normal.proofs.operators.parameters.Goals as goal

pub loop-k-preserved : goal.loop-k-preserved
loop-k-preserved c =
    let n = c.args.count in
    let k = c.loop-k.k in
    ap (λ ts. types_before ts (parameters (n - (k + 1)))) c.in_ok-push.ensures.items
    ∙ parameters_more c.loop-k.types.items n k (omega (arith, c.loop-k-test.true))
    ∙ c.loop-k.invariant

pub returns : goal.returns
returns c =
    let n = c.args.count in
    let none : n - c.loop-k.k ≡ 0 = omega (arith, c.loop-k-test.false) in
    sym (before_none c.loop-k.types.items) ∙ sym (ap (λ m. types_before c.loop-k.types.items (parameters m)) none) ∙ c.loop-k.invariant
