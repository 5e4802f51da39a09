use Rattle.std.proofs.Common.{◌≡◌, IsSome, Some, sym, ap, ◌∙◌, subst}
use Rattle.pict_core.specs.Plain.{plain_val}
use Rattle.pict_core.specs.Primitives.{effect_of}
use Rattle.pict_core.specs.Term.{Text}
use Rattle.pict_core.specs.declared.value.CoreVal.{CoreVal}
use Rattle.pict_desk.specs.Arguments.{operand_in}
use Rattle.pict_desk.proofs.Reckoning.{labels_of, made_argument}
use Rattle.pict_desk.proofs.Recording.{plain_text}
use Rattle.pict_picker.proofs.Effects.{of_text}
use Rattle.pict_picker.proofs.calling.call_operand.Goals as goal

pub call_fields-requires-clause-takes : goal.call_fields-requires-clause-takes
call_fields-requires-clause-takes c =
    let d = c.args.desk.now in
    let is = made_argument d.heap d.values.items c.args.message.now c.in-Fields.positional c.in-Fields.labelled c.deref.result.now c.in-Fields.is c.deref.ensures.value in
    (labels_of d.heap d.values.items c.in-Fields.labelled.items, subst (λ v. IsSome (effect_of c.args.p v)) is c.requires.takes)

pub returns-in-Fields-clause-effect : goal.returns-in-Fields-clause-effect
returns-in-Fields-clause-effect c e effect =
    let d = c.args.desk.now in
    let is = made_argument d.heap d.values.items c.args.message.now c.in-Fields.positional c.in-Fields.labelled c.deref.result.now c.in-Fields.is c.deref.ensures.value in
    c.call_fields.ensures.effect (labels_of d.heap d.values.items c.in-Fields.labelled.items) e (subst (λ v. effect_of c.args.p v ≡ Some e) is effect)

pub returns-in-Text-clause-effect : goal.returns-in-Text-clause-effect
returns-in-Text-clause-effect c e is =
    let d = c.args.desk.now in
    let same : operand_in d.heap d.values.items (plain_val c.args.message.now) ≡ Text c.slice.result.now =
    ap (λ (m : CoreVal). operand_in d.heap d.values.items (plain_val m)) c.in-Text.is ∙ ap (operand_in d.heap d.values.items) (plain_text c.in-Text.bytes)
    ∙ ap Text (sym c.slice.ensures) in
    c.print_text.ensures.effect c.args.at e (of_text c.args.p c.slice.result.now e (subst (λ v. effect_of c.args.p v ≡ Some e) same is))
