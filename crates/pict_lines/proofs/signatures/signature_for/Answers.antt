-- The signature of an abstraction of either form.
use Rattle.std.proofs.Common.{sym, ◌∙◌, ap, subst}
use Rattle.pict_syntax.specs.PlainTrees.{annotation_of, field_pats_of, pat_of, proc_of, val_of}
use Rattle.pict_syntax.specs.Trees.{function_abs}
use Rattle.pict_rules.specs.Rules.{signature, signature_}
use Rattle.pict_infer.specs.Asking.{IsWellAsked}
use Rattle.pict_infer.specs.Environments.{environment_of}
use Rattle.pict_lines.specs.Definitions.{Signs}
use Rattle.pict_lines.proofs.AbstractionForms.{function_form, process_form}
use Rattle.pict_lines.proofs.SignatureEnds.{signed_fields_asked, signed_pattern_asked, result_labels}
use Rattle.pict_lines.proofs.signatures.signature_for.Goals as goal

pub process_signature-requires : goal.process_signature-requires
process_signature-requires c =
    let i = c.in-Process in
    let is = process_form c.args.d.now.abs i.span i.p i.field-2 i.is in
    record {
      right = signed_pattern_asked (environment_of c.args.env.now) c.args.d.now.id i.span (pat_of i.p) (proc_of i.field-2.value)
          (subst (λ a. IsWellAsked signature_ (environment_of c.args.env.now) (signature c.args.d.now.id a)) is c.requires.right);
    }

pub function_signature-requires-clause-right : goal.function_signature-requires-clause-right
function_signature-requires-clause-right c =
    let i = c.in-Function in
    let is = function_form c.args.d.now.abs i.span i.fields i.annotation i.field-3 i.is ∙ ap (λ f. function_abs i.span (field_pats_of f) (annotation_of i.annotation) (val_of i.field-3.value)) (sym c.deref.ensures) in
    signed_fields_asked (environment_of c.args.env.now) c.args.d.now.id i.span (field_pats_of c.deref.result.now) (annotation_of i.annotation) (val_of i.field-3.value)
    (subst (λ a. IsWellAsked signature_ (environment_of c.args.env.now) (signature c.args.d.now.id a)) is c.requires.right)

pub function_signature-requires-clause-labels : goal.function_signature-requires-clause-labels
function_signature-requires-clause-labels c =
    let i = c.in-Function in
    result_labels (environment_of c.args.env.now) c.args.d.now.id i.span (field_pats_of i.fields.value) (annotation_of i.annotation) (val_of i.field-3.value)
    (subst (λ a. IsWellAsked signature_ (environment_of c.args.env.now) (signature c.args.d.now.id a)) (function_form c.args.d.now.abs i.span i.fields i.annotation i.field-3 i.is) c.requires.right)

pub returns-in-Process-clause-answer : goal.returns-in-Process-clause-answer
returns-in-Process-clause-answer c =
    let i = c.in-Process in
    subst (λ a. Signs (environment_of c.args.env.now) c.args.d.now.id a c.process_signature.result) (sym (process_form c.args.d.now.abs i.span i.p i.field-2 i.is)) (c.process_signature.ensures.answer c.args.d.now.id (proc_of i.field-2.value))

pub returns-in-Function-clause-answer : goal.returns-in-Function-clause-answer
returns-in-Function-clause-answer c =
    let i = c.in-Function in
    let is = function_form c.args.d.now.abs i.span i.fields i.annotation i.field-3 i.is ∙ ap (λ f. function_abs i.span (field_pats_of f) (annotation_of i.annotation) (val_of i.field-3.value)) (sym c.deref.ensures) in
    subst (λ a. Signs (environment_of c.args.env.now) c.args.d.now.id a c.function_signature.result) (sym is) (c.function_signature.ensures.answer c.args.d.now.id (val_of i.field-3.value))
