-- What the place of a name says of its kind.
use Rattle.std.proofs.Common.{◌∙◌, sym, arith}
use Rattle.pict_normal.specs.Around.{around}
use Rattle.pict_normal.proofs.Refused.{apply_missing, apply_type, apply_fits, apply_other}
use Rattle.pict_normal.proofs.stops.raw_head.Goals as goal

pub returns-in_default-clause-kinds : goal.returns-in_default-clause-kinds
returns-in_default-clause-kinds c =
    apply_missing c.args.span (around c.args.inner.now c.args.c.now) c.args.name.0 c.args.count (sym c.in_ok-i.ensures ∙ c.in_default.is)

pub returns-then-n-count-clause-kinds : goal.returns-then-n-count-clause-kinds
returns-then-n-count-clause-kinds c =
    apply_fits c.args.span (around c.args.inner.now c.args.c.now) c.args.name.0 c.in-Some.i c.args.count c.in-Some-arity.n (sym c.in_ok-i.ensures ∙ c.in-Some.is) (sym c.arity.ensures ∙ c.in-Some-arity.is) (omega arith)

pub returns-in-None-clause-first : goal.returns-in-None-clause-first
returns-in-None-clause-first c =
    apply_type c.args.span (around c.args.inner.now c.args.c.now) c.args.name.0 c.in-Some.i c.args.count (sym c.in_ok-i.ensures ∙ c.in-Some.is) (sym c.arity.ensures ∙ c.in-None.is)

pub returns-else-n-count-clause-first : goal.returns-else-n-count-clause-first
returns-else-n-count-clause-first c =
    apply_other c.args.span (around c.args.inner.now c.args.c.now) c.args.name.0 c.in-Some.i c.args.count c.in-Some-arity.n (sym c.in_ok-i.ensures ∙ c.in-Some.is) (sym c.arity.ensures ∙ c.in-Some-arity.is) (λ e. absurd (omega arith))
