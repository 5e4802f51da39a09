-- The binders are variables, and the entries of the context come after them.
use Rattle.std.proofs.Common.{◌-◌, subst, arith}
use Rattle.pict_normal.specs.Around.{scope_of}
use Rattle.pict_types.specs.Entries.{Definition}
use Rattle.pict_types.specs.Plain.{plain_bound, plain_arg}
use Rattle.pict_types.specs.PlainContext.{plain_context}
use Rattle.pict_types.specs.PlainEntries.{plain_what}
use Rattle.pict_types.specs.Places.{IsWhatAt}
use Rattle.pict_normal.proofs.BinderPlaces.{no_definition_first, no_definition_rest, none_past, variable_there, what_rest}
use Rattle.pict_normal.proofs.tops.definition.Goals as goal

pub returns-then-i-len-clause-none : goal.returns-then-i-len-clause-none
returns-then-i-len-clause-none c =
    no_definition_first c.args.inner.now.binders.items (plain_context c.args.c.now) c.args.i (omega (arith, c.len.ensures))

pub returns-in-None-clause-none : goal.returns-in-None-clause-none
returns-in-None-clause-none c =
    no_definition_rest (scope_of c.args.inner.now) (plain_context c.args.c.now) c.args.i (c.args.i - c.len-2.result) (omega (arith, c.len.ensures, c.len-2.ensures))
    (none_past (plain_context c.args.c.now) (c.args.i - c.len-2.result) c.in-None.ensures.none)

pub returns-in-Some-Variable-clause-none : goal.returns-in-Some-Variable-clause-none
returns-in-Some-Variable-clause-none c =
    let d = plain_context c.args.c.now in
    let j = c.args.i - c.len-2.result in
    no_definition_rest (scope_of c.args.inner.now) d c.args.i j (omega (arith, c.len.ensures, c.len-2.ensures))
    (variable_there d j (plain_bound c.in-Some-Variable.field-0-0) (subst (λ w. IsWhatAt d j (plain_what w)) c.in-Some-Variable.field-0-is c.in-Some-Variable.ensures.some))

pub returns-in-Some-Definition-clause-some : goal.returns-in-Some-Definition-clause-some
returns-in-Some-Definition-clause-some c =
    let d = plain_context c.args.c.now in
    let j = c.args.i - c.len-2.result in
    what_rest (scope_of c.args.inner.now) d c.args.i j (Definition (plain_arg c.in-Some-Definition.arg)) (omega (arith, c.len.ensures, c.len-2.ensures))
    (subst (λ w. IsWhatAt d j (plain_what w)) c.in-Some-Definition.field-0-is c.in-Some-Definition.ensures.some)
