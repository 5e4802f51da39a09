use Rattle.pict_core.specs.Plain.{plain_val}
use Rattle.pict_desk.specs.Arguments.{operand_in}
use Rattle.pict_desk.proofs.Hand.{three_taken}
use Rattle.pict_desk.proofs.acts.joined_len.Goals as goal

pub returns-else-fields-eq3 : goal.returns-else-fields-eq3
returns-else-fields-eq3 c labelled e is =
    absurd (c.if-fields-eq3.false (three_taken (λ v. operand_in c.args.heap.now c.args.values.now (plain_val v)) labelled e c.args.fields.now _ is))
