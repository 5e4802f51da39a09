use Rattle.pict_core.specs.Plain.{plain_val}
use Rattle.pict_desk.specs.Arguments.{operand_in}
use Rattle.pict_desk.proofs.Hand.{two_taken}
use Rattle.pict_desk.proofs.acts.spelled_len.Goals as goal

pub returns-else-fields-eq2 : goal.returns-else-fields-eq2
returns-else-fields-eq2 c h labelled e pairs is =
    absurd (c.if-fields-eq2.false (two_taken (λ v. operand_in h c.args.values.now (plain_val v)) labelled e c.args.fields.now _ is))
