-- One is a subtype of the other, or none is.
use Rattle.pict_types.specs.Plain.{plain}
use Rattle.pict_infer.specs.Environments.{environment_of}
use Rattle.pict_infer.proofs.Forming.{fails, holds}
use Rattle.pict_lines.proofs.Stepping.{either_first, either_none, either_second}
use Rattle.pict_lines.proofs.parts.either.Goals as goal

pub returns-then-branch : goal.returns-then-branch
returns-then-branch c =
    either_second (environment_of c.args.env.now) (plain c.args.s) (plain c.args.t) c.args.span
    (rw c.context.ensures.entries at (holds c.in_ok-is_subtype.field-0 c.if-branch.true c.in_ok-is_subtype.ensures.answer))

pub returns-then-branch-2 : goal.returns-then-branch-2
returns-then-branch-2 c =
    either_first (environment_of c.args.env.now) (plain c.args.s) (plain c.args.t) c.args.span
    (rw c.context.ensures.entries at (fails c.in_ok-is_subtype.field-0 c.if-branch.false c.in_ok-is_subtype.ensures.answer))
    (rw c.context-2.ensures.entries at (holds c.in_ok-is_subtype-2.field-0 c.if-branch-2.true c.in_ok-is_subtype-2.ensures.answer))

pub returns : goal.returns
returns c =
    either_none (environment_of c.args.env.now) (plain c.args.s) (plain c.args.t) c.args.span
    (rw c.context.ensures.entries at (fails c.in_ok-is_subtype.field-0 c.if-branch.false c.in_ok-is_subtype.ensures.answer))
    (rw c.context-2.ensures.entries at (fails c.in_ok-is_subtype-2.field-0 c.if-branch-2.false c.in_ok-is_subtype-2.ensures.answer))
