-- The channel of the answer is pushed last.
use Rattle.std.proofs.Common.{◌≡◌, rules, ◌∙◌, ap, subst}
use Rattle.pict_types.specs.Plain.{plain, plain_bounds, plain_labels, plain_record, plain_types}
use Rattle.pict_types.specs.Types.{PlainType, PlainTypes, Chan, Fields, Respond}
use Rattle.pict_types.proofs.Rows.{plain_fields}
use Rattle.pict_normal.specs.Normal.{and_type}
use Rattle.pict_normal.proofs.Trees.{types_and}
use Rattle.pict_infer.specs.Answering.{IsAnswer}
use Rattle.pict_infer.specs.Environments.{environment_of}
use Rattle.pict_lines.specs.Lines.{formed}
use Rattle.pict_lines.proofs.answers.argument.Goals as goal

pub returns : goal.returns
returns c =
    let ts = c.args.fields.positional.items in
    let e : plain c.in_ok-new.field-0.value ≡ plain c.args.answer = search rules in
    let all : plain_types c.push.new.self.items ≡ and_type (plain_types ts) (Chan Respond (plain c.args.answer)) =
    ap plain_types c.in_ok-push.ensures.items ∙ types_and ts _ ∙ ap (λ (u : PlainType). and_type (plain_types ts) (Chan Respond u)) e in
    let whole = plain_fields c.in_ok-new-2.field-0
    ∙ ap plain_record c.in_ok-new-2.ensures.ok
    ∙ ap (λ (us : PlainTypes). Fields (plain_bounds c.args.fields.binders.items) us (plain_labels c.args.fields.labelled.items)) all in
    subst (λ (z : PlainType). IsAnswer (formed (environment_of c.args.env.now) z c.args.span) plain c.limited.result) whole c.limited.ensures
