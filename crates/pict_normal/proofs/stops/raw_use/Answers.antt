-- What the place of a name says of its kind.
use Rattle.std.proofs.Common.{◌∙◌, sym}
use Rattle.pict_normal.specs.Around.{around}
use Rattle.pict_normal.proofs.BinderPlaces.{use_missing}
use Rattle.pict_normal.proofs.Refused.{use_type, use_operator}
use Rattle.pict_normal.proofs.stops.raw_use.Goals as goal

pub returns-in_default-clause-kinds : goal.returns-in_default-clause-kinds
returns-in_default-clause-kinds c =
    use_missing c.args.span (around c.args.inner.now c.args.c.now) c.args.name.0 (sym c.in_ok-i.ensures ∙ c.in_default.is)

pub returns-in-None-clause-kinds : goal.returns-in-None-clause-kinds
returns-in-None-clause-kinds c =
    use_type c.args.span (around c.args.inner.now c.args.c.now) c.args.name.0 c.in-Some.i (sym c.in_ok-i.ensures ∙ c.in-Some.is) (sym c.arity.ensures ∙ c.in-None.is)

pub returns-in-Some-arity-clause-first : goal.returns-in-Some-arity-clause-first
returns-in-Some-arity-clause-first c =
    use_operator c.args.span (around c.args.inner.now c.args.c.now) c.args.name.0 c.in-Some.i c.in-Some-arity.field-0 (sym c.in_ok-i.ensures ∙ c.in-Some.is) (sym c.arity.ensures ∙ c.in-Some-arity.is)
