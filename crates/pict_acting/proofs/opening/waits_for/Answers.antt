use Rattle.pict_desk.specs.Code.{core_in}
use Rattle.pict_desk.proofs.Numbered.{in_code}
use Rattle.pict_acting.proofs.CallNodes.{par_parts_inside}
use Rattle.pict_acting.proofs.opening.waits_for.Goals as goal

pub narrow_op-requires-clause-inside : goal.narrow_op-requires-clause-inside
narrow_op-requires-clause-inside c =
    let code = c.args.code.now in
    let o = c.requires.opens.1 in
    in_code code c.requires.code c.args.opening.left (par_parts_inside (core_in code) o.both o.forks.narrow.node o.forks.narrow.at c.args.opening.left c.args.opening.right o.forks.is).0

pub narrow_op-requires-then-reads_at-clause-inside : goal.narrow_op-requires-then-reads_at-clause-inside
narrow_op-requires-then-reads_at-clause-inside c =
    let code = c.args.code.now in
    let o = c.requires.opens.1 in
    in_code code c.requires.code c.args.opening.right (par_parts_inside (core_in code) o.both o.forks.narrow.node o.forks.narrow.at c.args.opening.left c.args.opening.right o.forks.is).1
