-- The binders come first, and then the entries of the context.
use Rattle.std.proofs.Common.{◌-◌, ◌∙◌, sym, ap, arith}
use Rattle.pict_normal.specs.Around.{scope_of}
use Rattle.pict_types.specs.PlainContext.{plain_context}
use Rattle.pict_types.specs.Places.{arity_at}
use Rattle.pict_normal.proofs.BinderPlaces.{arity_first, arity_rest}
use Rattle.pict_normal.proofs.stops.arity.Goals as goal

pub returns-then-place-len : goal.returns-then-place-len
returns-then-place-len c =
    c.arity.ensures ∙ sym (arity_first (scope_of c.args.inner.now) (plain_context c.args.c.now) c.args.place (omega (arith, c.len.ensures)))

pub returns : goal.returns
returns c =
    let d = plain_context c.args.c.now in
    c.arity-2.ensures
    ∙ ap (λ n. arity_at d (c.args.place - n)) c.len-2.ensures
    ∙ sym (arity_rest (scope_of c.args.inner.now) d c.args.place (omega (arith, c.len.ensures)))
