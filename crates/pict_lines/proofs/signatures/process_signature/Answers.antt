-- The signature of a process abstraction: each way in which it ends.
use Rattle.std.proofs.Common.{length, refl, ◌∙◌, ap}
use Rattle.pict_syntax.specs.PlainTrees.{pat_of}
use Rattle.pict_syntax.specs.Trees.{process_abs}
use Rattle.pict_types.specs.Entries.{variables}
use Rattle.pict_rules.specs.Environments.{Environment}
use Rattle.pict_infer.specs.Environments.{environment_of}
use Rattle.pict_infer.specs.Giving.{typed_pattern}
use Rattle.pict_lines.proofs.SignatureEnds.{process_signature_limits, process_signature_refused, process_signed, signs_err}
use Rattle.pict_lines.proofs.signatures.process_signature.Goals as goal

pub returns-in_err-typed-clause-answer : goal.returns-in_err-typed-clause-answer
returns-in_err-typed-clause-answer c = λ x q.
    let e = environment_of c.args.env.now in
    let p = pat_of c.args.p.now in
    let err = c.in_err-typed.field-0.0 in
    signs_err e x (process_abs c.args.span p q) c.from_residual.result err c.from_residual.ensures.1 (process_signature_refused e c.args.span p x q err c.in_err-typed.ensures.answer)

pub returns-in_err-has-clause-answer : goal.returns-in_err-has-clause-answer
returns-in_err-has-clause-answer c = λ x q.
    let e = environment_of c.args.env.now in
    let p = pat_of c.args.p.now in
    let err = c.in_err-has.field-0.0 in
    let typed = c.in_ok-typed.ensures.answer in
    signs_err e x (process_abs c.args.span p q) c.from_residual-in_err-has.result err c.from_residual-in_err-has.ensures.1
    (process_signature_limits e _ c.args.span p x q (typed_pattern c.in_ok-typed.typed) err typed.same.known typed.holds c.in_err-has.ensures)

pub returns-clause-answer : goal.returns-clause-answer
returns-clause-answer c = λ x q.
    let typed = c.in_ok-typed.ensures.answer in
    process_signed (environment_of c.args.env.now) _ c.args.span (pat_of c.args.p.now) x q (typed_pattern c.in_ok-typed.typed) c.in_ok-has.has c.in_ok-typed.typed.adds typed.same.known typed.holds c.in_ok-has.ensures refl
    (typed.may.base ∙ ap (λ (z : Environment). length (variables z.context)) typed.same.known)
