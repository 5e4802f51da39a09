-- A name of an entry that is an operator, and what is none.
use Rattle.std.proofs.Common.{◌≡◌, Option, Some, None, sym, ◌∙◌, ap, subst}
use Rattle.std.specs.Prelude.{IfNone}
use Rattle.pict_syntax.specs.PlainTrees.{type_of}
use Rattle.pict_syntax.specs.Trees.{use_type}
use Rattle.pict_types.specs.PlainContext.{names_of, plain_context}
use Rattle.pict_types.specs.Types.{Plain}
use Rattle.pict_normal.specs.Normal.{kind_stop, meaning, normal}
use Rattle.pict_normal.specs.WrittenArguments.{arg_stop, normal_arg, named}
use Rattle.pict_normal.proofs.BareOperators.{arg_of_none, arg_of_type, stop_of_none, stop_of_type, operator_meant}
use Rattle.pict_normal.proofs.BinderPlaces.{kind_named, kind_there}
use Rattle.pict_normal.proofs.Refused.{kind_is}
use Rattle.pict_normal.proofs.operators.named_operator.Goals as goal

if_none : {A : Type 0} {P : Type 0} (o : Option A) → P → IfNone o P
if_none None p = p
if_none (Some x) p = tt

pub returns-in_err-entry-clause-no_arg : goal.returns-in_err-entry-clause-no_arg
unfolding type_of
returns-in_err-entry-clause-no_arg c =
    let ns = names_of c.args.c.now in
    let d = plain_context c.args.c.now in
    let n = c.in-Use.name.0 in
    let k = kind_named d n ∙ ap (kind_there d) (sym c.place.ensures ∙ c.in_err-entry.was) in
    if_none c.from_residual.result
    (subst (λ t. normal_arg ns d t ≡ Plain (normal ns d t)) (sym (ap type_of c.in-Use.is)) (arg_of_none (meaning d n) (normal ns d (use_type c.in-Use.field-0 c.in-Use.name)) k))

pub returns-in_err-entry-clause-no_stop : goal.returns-in_err-entry-clause-no_stop
unfolding type_of
returns-in_err-entry-clause-no_stop c =
    let ns = names_of c.args.c.now in
    let d = plain_context c.args.c.now in
    let n = c.in-Use.name.0 in
    let k = kind_named d n ∙ ap (kind_there d) (sym c.place.ensures ∙ c.in_err-entry.was) in
    if_none c.from_residual.result
    (subst (λ t. arg_stop ns d t ≡ kind_stop ns d t) (sym (ap type_of c.in-Use.is)) (stop_of_none (meaning d n) (kind_stop ns d (use_type c.in-Use.field-0 c.in-Use.name)) k))

pub returns-in_err-params-clause-no_arg : goal.returns-in_err-params-clause-no_arg
unfolding type_of
returns-in_err-params-clause-no_arg c =
    let ns = names_of c.args.c.now in
    let d = plain_context c.args.c.now in
    let n = c.in-Use.name.0 in
    let k = kind_is d n c.in_ok-entry.entry None (sym c.place.ensures ∙ c.in_ok-entry.was) (sym c.arity.ensures ∙ c.in_err-params.was) in
    if_none c.from_residual-in_err-params.result
    (subst (λ t. normal_arg ns d t ≡ Plain (normal ns d t)) (sym (ap type_of c.in-Use.is)) (arg_of_type (meaning d n) (normal ns d (use_type c.in-Use.field-0 c.in-Use.name)) k))

pub returns-in_err-params-clause-no_stop : goal.returns-in_err-params-clause-no_stop
unfolding type_of
returns-in_err-params-clause-no_stop c =
    let ns = names_of c.args.c.now in
    let d = plain_context c.args.c.now in
    let n = c.in-Use.name.0 in
    let k = kind_is d n c.in_ok-entry.entry None (sym c.place.ensures ∙ c.in_ok-entry.was) (sym c.arity.ensures ∙ c.in_err-params.was) in
    if_none c.from_residual-in_err-params.result
    (subst (λ t. arg_stop ns d t ≡ kind_stop ns d t) (sym (ap type_of c.in-Use.is)) (stop_of_type (meaning d n) (kind_stop ns d (use_type c.in-Use.field-0 c.in-Use.name)) k))

pub returns-clause-named : goal.returns-clause-named
unfolding type_of
returns-clause-named c =
    let d = plain_context c.args.c.now in
    let n = c.in-Use.name.0 in
    let i = c.in_ok-entry.entry in
    let p = sym c.place.ensures ∙ c.in_ok-entry.was in
    ap (λ t. named d (type_of t)) c.in-Use.is
    ∙ operator_meant d n i c.in_ok-params.params p (kind_is d n i (Some c.in_ok-params.params) p (sym c.arity.ensures ∙ c.in_ok-params.was))
