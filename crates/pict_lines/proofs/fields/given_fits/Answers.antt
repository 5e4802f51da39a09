-- A type field is missing, the limits, and the subtype.
use Rattle.std.proofs.Common.{◌∙◌, sym, subst}
use Rattle.pict_types.specs.Plain.{plain, plain_bounds}
use Rattle.pict_rules.specs.Found.{Found, with_found}
use Rattle.pict_rules.specs.Rules.{ok}
use Rattle.pict_rules.specs.Derivations.{Runs}
use Rattle.pict_infer.specs.Environments.{environment_of}
use Rattle.pict_infer.proofs.Handed.{answer_err}
use Rattle.pict_lines.specs.Lines.{formed, given_lines}
use Rattle.pict_lines.specs.Reading.{found_for}
use Rattle.pict_lines.proofs.PutIn.{given_end, given_limits, given_missing}
use Rattle.pict_lines.proofs.fields.given_fits.Goals as goal

pub returns-then-branch : goal.returns-then-branch
returns-then-branch c =
    given_missing (environment_of c.args.env.now) c.args.node c.args.at (plain c.args.t.now) (plain c.args.given.now) (found_for c.args.bs.now c.args.found.now)
    (sym (c.in_ok-mentions_missing.ensures (plain_bounds c.args.bs.now)) ∙ c.if-branch.true)

pub returns-in_err-put : goal.returns-in_err-put
returns-in_err-put c =
    let e = environment_of c.args.env.now in
    let f : Found = found_for c.args.bs.now c.args.found.now in
    let err = c.in_err-put.field-0.0 in
    answer_err (given_lines e c.args.node c.args.at (plain c.args.t.now) (plain c.args.given.now) f) (λ x. f) c.from_residual-in_err-put.result err c.from_residual-in_err-put.ensures.1
    (given_limits e c.args.node c.args.at (plain c.args.t.now) (plain c.args.given.now) f err (sym (c.in_ok-mentions_missing.ensures (plain_bounds c.args.bs.now)) ∙ c.if-branch.false) c.in_err-put.ensures.answer)

pub returns : goal.returns
returns c =
    let e = environment_of c.args.env.now in
    let f : Found = found_for c.args.bs.now c.args.found.now in
    given_end e c.args.node c.args.at (plain c.args.t.now) (plain c.args.given.now) (plain c.changed_or_same.result.now) f c.below.result
    (sym (c.in_ok-mentions_missing.ensures (plain_bounds c.args.bs.now)) ∙ c.if-branch.false)
    (subst (λ u. Runs (formed e (with_found f (plain c.args.t.now)) c.args.node) (ok u)) (sym c.changed_or_same.ensures) c.in_ok-put.ensures.answer) c.below.ensures
