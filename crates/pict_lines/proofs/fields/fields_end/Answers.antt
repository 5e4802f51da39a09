-- An argument is missing, one is above its bound, and all are there.
use Rattle.std.proofs.Common.{List, sym, subst}
use Rattle.pict_types.specs.declared.types.Arg.{Arg}
use Rattle.pict_types.specs.Plain.{plain_args, plain_bounds}
use Rattle.pict_types.specs.Replacing.{FitTheirFields}
use Rattle.pict_lines.specs.Fields.{AreArgsIn}
use Rattle.pict_infer.specs.Environments.{environment_of}
use Rattle.pict_infer.proofs.Handed.{answer_err}
use Rattle.pict_lines.specs.Lines.{fields_end}
use Rattle.pict_lines.specs.Reading.{found_for}
use Rattle.pict_lines.proofs.WithinBounds.{all_fit, all_formed, end_above, end_done, end_missing}
use Rattle.pict_lines.proofs.fields.fields_end.Goals as goal

pub returns-in_err-args-clause-answer : goal.returns-in_err-args-clause-answer
returns-in_err-args-clause-answer c =
    let e = environment_of c.args.env.now in
    let bs = plain_bounds c.args.bs.now in
    let f = found_for c.args.bs.now c.args.found.now in
    let err = c.in_err-args.field-0.0 in
    answer_err (fields_end e c.args.node bs f) (λ args. plain_args args.items) c.from_residual.result err c.from_residual.ensures.1 (end_missing e c.args.node bs f err (c.in_err-args.ensures bs))

pub within_bounds-requires-clause-args : goal.within_bounds-requires-clause-args
within_bounds-requires-clause-args c =
    subst (λ (z : List Arg). AreArgsIn (environment_of c.args.env.now) (plain_args z)) (sym c.deref.ensures.value)
    (all_formed (environment_of c.args.env.now) (found_for c.args.bs.now c.args.found.now) c.args.node (plain_args c.in_ok-args.args.items) (c.in_ok-args.ensures (plain_bounds c.args.bs.now)) c.requires.fits)

pub within_bounds-requires-clause-fit : goal.within_bounds-requires-clause-fit
within_bounds-requires-clause-fit c =
    subst (λ (z : List Arg). FitTheirFields (plain_args z) (plain_bounds c.args.bs.now)) (sym c.deref.ensures.value)
    (all_fit (found_for c.args.bs.now c.args.found.now) c.args.node (plain_bounds c.args.bs.now) (plain_args c.in_ok-args.args.items) (c.in_ok-args.ensures (plain_bounds c.args.bs.now)) c.requires.kinds)

pub returns-in-Ok-clause-answer : goal.returns-in-Ok-clause-answer
returns-in-Ok-clause-answer c =
    end_done (environment_of c.args.env.now) c.args.node (plain_bounds c.args.bs.now) (found_for c.args.bs.now c.args.found.now) (plain_args c.in_ok-args.args.items) (c.in_ok-args.ensures (plain_bounds c.args.bs.now))
    (rw c.deref.ensures.value at c.in-Ok.ensures)

pub returns-in-Ok-clause-formed : goal.returns-in-Ok-clause-formed
returns-in-Ok-clause-formed c =
    all_formed (environment_of c.args.env.now) (found_for c.args.bs.now c.args.found.now) c.args.node (plain_args c.in_ok-args.args.items) (c.in_ok-args.ensures (plain_bounds c.args.bs.now)) c.requires.fits

pub returns-in-Ok-clause-fit : goal.returns-in-Ok-clause-fit
returns-in-Ok-clause-fit c =
    all_fit (found_for c.args.bs.now c.args.found.now) c.args.node (plain_bounds c.args.bs.now) (plain_args c.in_ok-args.args.items) (c.in_ok-args.ensures (plain_bounds c.args.bs.now)) c.requires.kinds

pub returns-in-Err-clause-answer : goal.returns-in-Err-clause-answer
returns-in-Err-clause-answer c =
    end_above (environment_of c.args.env.now) c.args.node (plain_bounds c.args.bs.now) (found_for c.args.bs.now c.args.found.now) (plain_args c.in_ok-args.args.items) c.in-Err.e (c.in_ok-args.ensures (plain_bounds c.args.bs.now))
    (rw c.deref.ensures.value at c.in-Err.ensures)
