use Rattle.std.proofs.Common.{◌∙◌, length, true}
use Rattle.pict_core.specs.Term.{Var}
use Rattle.pict_code.specs.Instruction as op
use Rattle.pict_code.specs.Plain.{plain_op}
use Rattle.pict_desk.specs.Code.{core_in}
use Rattle.pict_desk.proofs.Numbered.{in_code}
use Rattle.pict_meetings.proofs.Inputs.{has_part, part_inside}
use Rattle.pict_acting.proofs.CallNodes.{also_with, message_over, par_parts_inside}
use Rattle.pict_acting.proofs.chain.call_of.Goals as goal

pub narrow_op-requires-clause-inside : goal.narrow_op-requires-clause-inside
narrow_op-requires-clause-inside c =
    let code = c.args.code.now in
    let o = c.requires.opens.1 in
    in_code code c.requires.code c.args.opening.left (par_parts_inside (core_in code) o.both o.forks.narrow.node o.forks.narrow.at c.args.opening.left c.args.opening.right o.forks.is).0

pub narrow_op-requires-2-clause-inside : goal.narrow_op-requires-2-clause-inside
narrow_op-requires-2-clause-inside c =
    let code = c.args.code.now in
    let core = core_in code in
    let opening = c.args.opening in
    let pattern = op.Bind c.in_ok-bound.bound in
    let waits = also_with core opening.left _ (op.Serve (Var opening.level) pattern c.in_ok-bound.part) c.in_ok-narrow_op.ensures.is c.in_ok-bound.ensures in
    in_code code c.requires.code c.in_ok-bound.part
    (part_inside core pattern c.in_ok-bound.part (has_part core opening.left c.in_ok-bound.part waits.narrow.node true (Var opening.level) pattern waits.narrow.at waits.is))

pub narrow_op-requires-3-clause-inside : goal.narrow_op-requires-3-clause-inside
narrow_op-requires-3-clause-inside c =
    let code = c.args.code.now in
    let o = c.requires.opens.1 in
    in_code code c.requires.code c.args.opening.right (par_parts_inside (core_in code) o.both o.forks.narrow.node o.forks.narrow.at c.args.opening.left c.args.opening.right o.forks.is).1

pub called_at-requires-clause-over : goal.called_at-requires-clause-over
called_at-requires-clause-over c chan message at is =
    let sends = c.in_ok-narrow_op-3.ensures.is in
    message_over (core_in c.args.code.now) c.args.opening.right sends.narrow.node sends.narrow.at c.requires.code.closed (length c.args.values.now) c.requires.levels chan message at (sends.is ∙ is)

pub returns : goal.returns
returns c number o h pairs =
    let core = core_in c.args.code.now in
    let opening = c.args.opening in
    record {
      both = o.both;
      output = opening.right;
      op = plain_op c.in_ok-narrow_op-3.field-0.now;
      opens = o.opens;
      forks = o.forks;
      waits = also_with core opening.left _ (op.Serve (Var opening.level) (op.Bind c.in_ok-bound.bound) c.in_ok-bound.part) c.in_ok-narrow_op.ensures.is c.in_ok-bound.ensures;
      sends = c.in_ok-narrow_op-3.ensures.is;
      answer = c.in_ok-answer.ensures h pairs;
      part = c.in_ok-narrow_op-2.ensures.is.narrow;
    }
