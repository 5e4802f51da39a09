-- The place of a name among the binders, or else behind them.
use Rattle.std.proofs.Common.{◌≡◌, ◌+◌, ◌∙◌, length, sym, ap, Some, arith}
use Rattle.pict_normal.specs.Around.{scope_of}
use Rattle.pict_types.specs.PlainContext.{plain_context}
use Rattle.pict_normal.proofs.BinderPlaces.{place_first, place_rest, place_neither}
use Rattle.pict_normal.proofs.stops.place_of.Goals as goal

pub returns-in_ok-number-in-Some : goal.returns-in_ok-number-in-Some
returns-in_ok-number-in-Some c =
    ap Some c.in_ok-number-in-Some.ensures
    ∙ sym (place_first (scope_of c.args.inner.now) (plain_context c.args.c.now) c.args.name.0 c.in-Some.i (sym c.place.ensures ∙ c.in-Some.is))

pub returns-in_ok-number-in-Some-place : goal.returns-in_ok-number-in-Some-place
returns-in_ok-number-in-Some-place c =
    let e : c.in_ok-number-in-Some-place.field-0 ≡ length (scope_of c.args.inner.now) + c.in-Some-place.i = omega (arith, c.in_ok-number-in-Some-place.ensures, c.saturating_add.ensures, c.len.ensures) in
    ap Some e
    ∙ sym (place_rest (scope_of c.args.inner.now) (plain_context c.args.c.now) c.args.name.0 c.in-Some-place.i (sym c.place.ensures ∙ c.in-None.is) (sym c.place-in-None.ensures ∙ c.in-Some-place.is))

pub returns-in-None-place : goal.returns-in-None-place
returns-in-None-place c =
    sym (place_neither (scope_of c.args.inner.now) (plain_context c.args.c.now) c.args.name.0 (sym c.place.ensures ∙ c.in-None.is) (sym c.place-in-None.ensures ∙ c.in-None-place.is))
