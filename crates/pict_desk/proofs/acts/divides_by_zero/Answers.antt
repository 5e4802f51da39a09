use Rattle.std.proofs.Common.{◌≡◌, Some, subst, ⊎_elim}
use Rattle.pict_syntax.specs.declared.primitive.Primitive.{Primitive}
use Rattle.pict_syntax.specs.declared.primitive.Primitive.TheVariants as primitive
use Rattle.pict_core.specs.Plain.{plain_val}
use Rattle.pict_core.specs.Primitives.{effect_of}
use Rattle.pict_desk.specs.Arguments.{operand_in, argument_of}
use Rattle.pict_desk.proofs.Hand.{three_taken}
use Rattle.pict_desk.proofs.acts.divides_by_zero.Goals as goal

pub returns-else-fields-eq3 : goal.returns-else-fields-eq3
returns-else-fields-eq3 c h labelled e pairs is =
    let argument = argument_of h c.args.values.now c.args.fields.now labelled in
    let three = three_taken (λ v. operand_in h c.args.values.now (plain_val v)) labelled e c.args.fields.now in
    absurd (c.if-fields-eq3.false (⊎_elim
    (λ (divides : c.args.p ≡ primitive.Divide). three _ (subst (λ (q : Primitive). effect_of q argument ≡ Some e) divides is))
    (λ (leaves : c.args.p ≡ primitive.Remainder). three _ (subst (λ (q : Primitive). effect_of q argument ≡ Some e) leaves is))
    c.in-Divide.is))
