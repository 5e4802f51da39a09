-- One argument after the other.
use Rattle.std.proofs.Common.{sym, subst, arith}
use Rattle.std.proofs.lemmas.List.{length-take-le}
use Rattle.pict_types.proofs.Reaching.{args_formed}
use Rattle.pict_rules.specs.Regular.{kinds_in}
use Rattle.pict_infer.specs.Answering.{nothing}
use Rattle.pict_infer.specs.Environments.{environment_of}
use Rattle.pict_infer.proofs.Handed.{answer_err}
use Rattle.pict_types.specs.Plain.{plain_arg, plain_args, plain_bounds}
use Rattle.pict_lines.specs.Fields.{IsArgIn}
use Rattle.pict_lines.specs.Lines.{within_all}
use Rattle.pict_lines.proofs.WithinBounds.{all_below, before_formed, bound_formed, fit_length, one_above, one_below}
use Rattle.pict_lines.proofs.fields.within_bounds.Goals as goal

pub slice_bounds-within_bound-end : goal.slice_bounds-within_bound-end
slice_bounds-within_bound-end c =
    let n = fit_length c.args.args.now c.args.bs.now c.requires.fit in
    let h = c.loop-i-test.true in
    sym (length-take-le c.loop-i.i c.args.args.now (omega (arith, n, h)))

pub bounds-args-i : goal.bounds-args-i
bounds-args-i c =
    let n = fit_length c.args.args.now c.args.bs.now c.requires.fit in
    let h = c.loop-i-test.true in
    omega (arith, n, h)

pub within_bound-requires-clause-b : goal.within_bound-requires-clause-b
within_bound-requires-clause-b c = bound_formed (environment_of c.args.env.now) c.args.bs.now c.args.args.now c.loop-i.i c.index-bs-i.result c.loop-i-test.true c.index-bs-i.is c.requires.bounds c.requires.fit

pub within_bound-requires-clause-earlier : goal.within_bound-requires-clause-earlier
within_bound-requires-clause-earlier c = before_formed (environment_of c.args.env.now).names (kinds_in (environment_of c.args.env.now)) c.args.args.now c.loop-i.i c.requires.args

pub within_bound-requires-clause-a : goal.within_bound-requires-clause-a
within_bound-requires-clause-a c =
    let e = environment_of c.args.env.now in
    let n = fit_length c.args.args.now c.args.bs.now c.requires.fit in
    let h = c.loop-i-test.true in
    subst (λ a. IsArgIn e (plain_arg a)) (sym c.index-args-i.is) (args_formed e.names (kinds_in e) c.args.args.now c.loop-i.i c.index-args-i.result (omega (arith, n, h)) c.requires.args)

pub returns-in_err-within_bound : goal.returns-in_err-within_bound
returns-in_err-within_bound c =
    let e = environment_of c.args.env.now in
    let n = fit_length c.args.args.now c.args.bs.now c.requires.fit in
    let h = c.loop-i-test.true in
    let err = c.in_err-within_bound.field-0.0 in
    answer_err (within_all e c.args.node (plain_bounds c.args.bs.now) (plain_args c.args.args.now)) nothing c.from_residual.result err c.from_residual.ensures.1
    (one_above e c.args.node c.args.bs.now c.args.args.now c.loop-i.i c.index-bs-i.result c.index-args-i.result err h (omega (arith, n, h)) c.index-bs-i.is c.index-args-i.is c.in_err-within_bound.ensures c.loop-i.invariant)

pub loop-i-preserved : goal.loop-i-preserved
loop-i-preserved c =
    let n = fit_length c.args.args.now c.args.bs.now c.requires.fit in
    let h = c.loop-i-test.true in
    one_below (environment_of c.args.env.now) c.args.node c.args.bs.now c.args.args.now c.loop-i.i c.index-bs-i.result c.index-args-i.result h (omega (arith, n, h)) c.index-bs-i.is c.index-args-i.is c.in_ok-within_bound.ensures c.loop-i.invariant

pub returns : goal.returns
returns c = all_below (environment_of c.args.env.now) c.args.node c.args.bs.now c.args.args.now c.loop-i.i c.loop-i-test.false c.loop-i.invariant
