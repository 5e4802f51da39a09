-- The body of an operator is well formed.
use Rattle.std.proofs.Common.{Some, sym, ◌∙◌, ap, subst}
use Rattle.pict_types.specs.Entries.{variables}
use Rattle.pict_types.specs.Kinds.{kinds, with_parameters, IsWellFormed}
use Rattle.pict_types.specs.PlainContext.{names_of, plain_context}
use Rattle.pict_normal.specs.Meanings.{meanings}
use Rattle.pict_normal.proofs.BareOperators.{body_formed, head_is}
use Rattle.pict_normal.proofs.Expanded.{meanings_keep}
use Rattle.pict_normal.proofs.operators.expand_arg.Goals as goal

pub returns-in_ok-operator_body-in-Some-clause-formed : goal.returns-in_ok-operator_body-in-Some-clause-formed
returns-in_ok-operator_body-in-Some-clause-formed c =
    let ns = names_of c.args.c.now in
    let d = plain_context c.args.c.now in
    let o = c.in-Some.operator in
    let n = c.in_ok-params-in-Some.params in
    let arity = c.in-Some.ensures.arity ∙ ap Some (sym c.in_ok-params-in-Some.ensures) in
    subst (IsWellFormed ns (with_parameters n (kinds (variables d)))) (sym c.in_ok-operator_body-in-Some.ensures)
    (body_formed ns (kinds (variables d)) n ((meanings d).head_of o.entry) (head_is ns d o.entry n (meanings_keep ns d c.args.c.now.formed) arity))
