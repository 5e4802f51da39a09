-- The signature of a function abstraction: each way in which it ends.
use Rattle.std.proofs.Common.{length, ◌∙◌, ap, subst}
use Rattle.pict_syntax.specs.PlainTrees.{annotation_of, field_pats_of}
use Rattle.pict_syntax.specs.Trees.{function_abs}
use Rattle.pict_types.specs.Entries.{variables}
use Rattle.pict_types.specs.Plain.{plain}
use Rattle.pict_types.specs.Types.{Chan, Respond}
use Rattle.pict_rules.specs.Environments.{Environment, opened, shifted_by, within}
use Rattle.pict_rules.specs.Rules.{ok}
use Rattle.pict_rules.specs.Derivations.{Runs}
use Rattle.pict_infer.specs.Answering.{IsRefused}
use Rattle.pict_infer.specs.Environments.{environment_of}
use Rattle.pict_lines.specs.Lines.{formed}
use Rattle.pict_lines.proofs.SignatureEnds.{annotated_here, argument_given, argument_refused, argument_signature_refused, fields_signature_refused, function_signed, name_signature_refused, result_signature_refused, signs_err}
use Rattle.pict_lines.proofs.signatures.function_signature.Goals as goal

pub returns-in_err-own-clause-answer : goal.returns-in_err-own-clause-answer
returns-in_err-own-clause-answer c = λ x v.
    let e = environment_of c.args.env.now in
    let f = field_pats_of c.args.fields.now in
    let a = annotation_of c.args.annotation.now in
    let err = c.in_err-own.field-0.0 in
    signs_err e x (function_abs c.args.span f a v) c.from_residual.result err c.from_residual.ensures.1 (fields_signature_refused e c.args.span f a x v err c.in_err-own.ensures.answer)

pub returns-in_err-answer-clause-answer : goal.returns-in_err-answer-clause-answer
returns-in_err-answer-clause-answer c = λ x v.
    let e = environment_of c.args.env.now in
    let d = environment_of c.open_fields.new.env in
    let f = field_pats_of c.args.fields.now in
    let a = annotation_of c.args.annotation.now in
    let err = c.in_err-answer.field-0.0 in
    let own = c.in_ok-own.ensures.answer in
    let here = annotated_here c.context.result.now d a c.args.span c.context.ensures.names c.context.ensures.entries in
    signs_err e x (function_abs c.args.span f a v) c.from_residual-in_err-answer.result err c.from_residual-in_err-answer.ensures.1
    (result_signature_refused e d c.args.span f a x v own.fields err own.under.known own.holds (subst (λ r. IsRefused r err) here c.in_err-answer.ensures.answer))

pub close_fields-requires-clause-opened : goal.close_fields-requires-clause-opened
close_fields-requires-clause-opened c =
    let own = c.in_ok-own.ensures.answer in
    record { before = c.args.env.now; own = own.fields.own; place = c.place-outer.ensures; under = own.under }

pub returns-in_err-taken-clause-answer : goal.returns-in_err-taken-clause-answer
returns-in_err-taken-clause-answer c = λ x v.
    let e = environment_of c.args.env.now in
    let d = environment_of c.open_fields.new.env in
    let f = field_pats_of c.args.fields.now in
    let a = annotation_of c.args.annotation.now in
    let t = plain c.in_ok-answer.answer in
    let err = c.in_err-taken.field-0.0 in
    let own = c.in_ok-own.ensures.answer in
    let here = annotated_here c.context.result.now d a c.args.span c.context.ensures.names c.context.ensures.entries in
    let closed = c.in_ok-adds.ensures c.args.env.now own.fields.own c.place-outer.ensures own.under in
    signs_err e x (function_abs c.args.span f a v) c.from_residual-in_err-taken.result err c.from_residual-in_err-taken.ensures.1
    (argument_signature_refused e d c.args.span f a x v own.fields t err own.under.known own.holds (subst (λ r. Runs r (ok t)) here c.in_ok-answer.ensures.answer)
    (argument_refused e _ c.in_ok-own.own.has own.fields t c.args.span err closed.same.known own.record_ c.in_err-taken.ensures))

pub returns-in_err-has-clause-answer : goal.returns-in_err-has-clause-answer
returns-in_err-has-clause-answer c = λ x v.
    let e = environment_of c.args.env.now in
    let d = environment_of c.open_fields.new.env in
    let f = field_pats_of c.args.fields.now in
    let a = annotation_of c.args.annotation.now in
    let t = plain c.in_ok-answer.answer in
    let err = c.in_err-has.field-0.0 in
    let own = c.in_ok-own.ensures.answer in
    let here = annotated_here c.context.result.now d a c.args.span c.context.ensures.names c.context.ensures.entries in
    let closed = c.in_ok-adds.ensures c.args.env.now own.fields.own c.place-outer.ensures own.under in
    signs_err e x (function_abs c.args.span f a v) c.from_residual-in_err-has.result err c.from_residual-in_err-has.ensures.1
    (name_signature_refused e d c.args.span f a x v own.fields t (plain c.in_ok-taken.taken) err own.under.known own.holds (subst (λ r. Runs r (ok t)) here c.in_ok-answer.ensures.answer)
    (argument_given e _ c.in_ok-own.own.has own.fields t (plain c.in_ok-taken.taken) c.args.span closed.same.known own.record_ c.in_ok-taken.ensures)
    (subst (λ z. IsRefused (formed z (Chan Respond (plain c.in_ok-taken.taken)) c.args.span) err) closed.same.known c.in_err-has.ensures))

pub returns-clause-answer : goal.returns-clause-answer
returns-clause-answer c = λ x v.
    let e = environment_of c.args.env.now in
    let d = environment_of c.open_fields.new.env in
    let f = field_pats_of c.args.fields.now in
    let a = annotation_of c.args.annotation.now in
    let t = plain c.in_ok-answer.answer in
    let own = c.in_ok-own.ensures.answer in
    let here = annotated_here c.context.result.now d a c.args.span c.context.ensures.names c.context.ensures.entries in
    let closed = c.in_ok-adds.ensures c.args.env.now own.fields.own c.place-outer.ensures own.under in
    function_signed e d c.args.span f a x v own.fields t (plain c.in_ok-taken.taken) c.in_ok-has.has c.in_ok-body.body c.in_ok-adds.adds own.under.known own.holds (subst (λ r. Runs r (ok t)) here c.in_ok-answer.ensures.answer)
    (argument_given e _ c.in_ok-own.own.has own.fields t (plain c.in_ok-taken.taken) c.args.span closed.same.known own.record_ c.in_ok-taken.ensures)
    (subst (λ z. Runs (formed z (Chan Respond (plain c.in_ok-taken.taken)) c.args.span) (ok (plain c.in_ok-has.has))) closed.same.known c.in_ok-has.ensures)
    (closed.adds ∙ ap (within own.fields.own) own.adds)
    (closed.may.base ∙ ap (λ (z : Environment). length (variables z.context)) closed.same.known)
    (c.in_ok-body.ensures ∙ ap (λ n. shifted_by n t) (c.in_ok-opened.ensures ∙ ap opened own.adds))
