-- Two patterns side by side.
use Rattle.std.proofs.Common.{◌+◌, ◌≤◌, length, refl, subst, arith}
use Rattle.pict_infer.specs.Knowing.{deepest}
use Rattle.pict_infer.proofs.Beside.{both_beside}
use Rattle.pict_infer.proofs.added.Added.join.Goals as goal

pub invariant_of-result : goal.invariant_of-result
invariant_of-result c =
    let n = length c.args.inner.binders.items in
    let within : deepest c.args.inner.values.items ≤ c.args.self.base + n = subst (λ b. deepest c.args.inner.values.items ≤ b + n) c.requires.base c.args.inner.placed in
    let all = c.in_ok-values.ensures.each n within in
    record { placed = omega (arith, all.placed, c.in_ok-binders.ensures.count) }

pub returns-clause-joined : goal.returns-clause-joined
returns-clause-joined c =
    let n = length c.args.inner.binders.items in
    let within : deepest c.args.inner.values.items ≤ c.args.self.base + n = subst (λ b. deepest c.args.inner.values.items ≤ b + n) c.requires.base c.args.inner.placed in
    both_beside c.args.self.base c.in-Ok.by n c.args.self c.args.inner c.in_ok-binders.binders.items c.in_ok-values.values.items refl c.requires.base (omega arith) refl c.in_ok-binders.ensures.count c.in_ok-binders.ensures.joined (c.in_ok-values.ensures.each n within)
