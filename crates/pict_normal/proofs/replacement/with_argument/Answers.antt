-- The measures together, where they are light.
use Rattle.std.proofs.Common.{◌≡◌, ◌+◌, ap, sym, subst, arith}
use Rattle.std.specs.Prelude.{IfErr, IfOk}
use Rattle.pict_normal.specs.Made.{IsReason, counted}
use Rattle.pict_normal.proofs.Making.{if_err, reason_by}
use Rattle.pict_syntax.proofs.ListLemmas.{both_ok}
use Rattle.pict_normal.proofs.replacement.with_argument.Goals as goal

pub returns-then-used-clause-weight : goal.returns-then-used-clause-weight
returns-then-used-clause-weight c =
    subst (λ b. IfOk c.light.result (λ m. m.weight ≡ c.args.together.weight + counted b c.args.part.weight)) (sym c.if-used.true)
    (both_ok c.light.result (λ m e l. omega (arith, ap (λ y. y.weight) e, l, c.beside.ensures.weight)) c.light.ensures.same c.light.ensures.light)

pub returns-then-used-clause-reason : goal.returns-then-used-clause-reason
returns-then-used-clause-reason c =
    subst (λ b. IfErr c.light.result (λ e. IsReason (c.args.together.weight + counted b c.args.part.weight) e)) (sym c.if-used.true)
    (if_err c.light.result (λ e h. reason_by c.beside.result.weight (c.args.together.weight + c.args.part.weight) e (λ g. omega (arith, g, c.beside.ensures.weight)) h) c.light.ensures.reason)
