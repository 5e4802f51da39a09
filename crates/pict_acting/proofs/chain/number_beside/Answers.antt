use Rattle.std.proofs.Common.{◌≢◌}
use Rattle.pict_core.specs.Plain.{plain_val}
use Rattle.pict_core.specs.Term.{Var}
use Rattle.pict_acting.proofs.CallNodes.{numbers_stay}
use Rattle.pict_acting.proofs.chain.number_beside.Goals as goal

pub returns : goal.returns
returns c h pairs later keeps =
    let apart : plain_val c.args.operand.now ≢ Var c.args.level = λ same. let yes = c.is_level.ensures.1 same in let no = c.if-is_level.false in cc in
    numbers_stay h c.args.values.now later c.args.level keeps (plain_val c.args.operand.now) c.number_at_hand.result apart (c.number_at_hand.ensures h pairs)
