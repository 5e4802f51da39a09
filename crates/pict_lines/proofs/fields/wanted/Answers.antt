-- There is no type field; or what is found is put in.
use Rattle.std.proofs.Common.{◌==◌, ◌∙◌, sym, ap, length, eqb-true}
use Rattle.pict_types.specs.Plain.{plain, plain_args, plain_bounds}
use Rattle.pict_rules.specs.Found.{with_found}
use Rattle.pict_infer.specs.Environments.{environment_of}
use Rattle.pict_infer.specs.Steps.{changed_or_same}
use Rattle.pict_infer.proofs.Handed.{answer_err}
use Rattle.pict_lines.specs.Lines.{formed}
use Rattle.pict_lines.specs.Reading.{found_for}
use Rattle.pict_lines.proofs.PutIn.{put_formed, put_under, unput_ok, unput_refused}
use Rattle.pict_lines.proofs.fields.wanted.Goals as goal

pub returns-in_err-within_limits-clause-answer : goal.returns-in_err-within_limits-clause-answer
returns-in_err-within_limits-clause-answer c =
    let e = environment_of c.args.env.now in
    let xs = c.args.found.now.list.items in
    let err = c.in_err-within_limits.field-0.0 in
    answer_err (formed e (with_found (found_for c.args.bs.now c.args.found.now) (plain c.args.t.now)) c.args.at) (λ o. changed_or_same o c.args.t.now) c.from_residual.result err c.from_residual.ensures.1
    (unput_refused e (plain_bounds c.args.bs.now) xs (plain c.args.t.now) c.args.at err
    (eqb-true (length xs) 0 (sym (c.is_empty.ensures ∙ ap (λ n. n == 0) c.args.found.now.list.ok.0) ∙ c.if-is_empty.true)) c.requires.t c.in_err-within_limits.ensures)

pub returns-then-is_empty-clause-answer : goal.returns-then-is_empty-clause-answer
returns-then-is_empty-clause-answer c =
    let xs = c.args.found.now.list.items in
    unput_ok (environment_of c.args.env.now) (plain_bounds c.args.bs.now) xs (plain c.args.t.now) c.args.at
    (eqb-true (length xs) 0 (sym (c.is_empty.ensures ∙ ap (λ n. n == 0) c.args.found.now.list.ok.0) ∙ c.if-is_empty.true)) c.requires.t c.in_ok-within_limits.ensures

pub instance-requires-clause-t : goal.instance-requires-clause-t
instance-requires-clause-t c =
    put_under (environment_of c.args.env.now) (found_for c.args.bs.now c.args.found.now) (plain_args c.deref.result.now) (plain c.args.t.now)
    (ap plain_args c.deref.ensures.value ∙ c.in_ok-args.ensures) c.requires.t

pub instance-requires-clause-args : goal.instance-requires-clause-args
instance-requires-clause-args c =
    put_formed (environment_of c.args.env.now) (found_for c.args.bs.now c.args.found.now) (plain_args c.deref.result.now)
    (ap plain_args c.deref.ensures.value ∙ c.in_ok-args.ensures) c.requires.fits
