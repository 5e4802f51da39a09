use Rattle.std.proofs.Common.{ap, ◌∙◌}
use Rattle.std.proofs.lemmas.Option.{slice_get_within}
use Rattle.pict_code.specs.Instruction as op
use Rattle.pict_code.specs.Nodes.{nodes_of}
use Rattle.pict_code.specs.Plain.{plain_op}
use Rattle.pict_code.specs.declared.instruction.Node.{Node}
use Rattle.pict_desk.specs.Code.{core_in}
use Rattle.pict_desk.proofs.Numbered.{in_code}
use Rattle.pict_acting.proofs.CallNodes.{narrow_with, also_with, new_part_inside}
use Rattle.pict_acting.proofs.opening.opening_of.Goals as goal

pub narrow_op-requires-clause-inside : goal.narrow_op-requires-clause-inside
narrow_op-requires-clause-inside c =
    let code = c.args.code.now in
    let core = core_in code in
    let narrow = c.requires.narrow in
    let low = in_code code c.requires.code c.args.number (slice_get_within (nodes_of core) c.args.number narrow.node narrow.at) in
    let opens = narrow_with code c.requires.code c.args.number c.index-code-number.result low c.index-code-number.is narrow (op.New c.in_ok-level.level c.in_ok-level.both) (ap (λ (n : Node). plain_op n.op) c.index-code-number.is ∙ c.in_ok-level.ensures.is) in
    in_code code c.requires.code c.in_ok-level.both (new_part_inside core c.args.number opens.narrow.node opens.narrow.at c.in_ok-level.level c.in_ok-level.both opens.is)

pub returns-clause-is : goal.returns-clause-is
returns-clause-is c =
    let code = c.args.code.now in
    let core = core_in code in
    let narrow = c.requires.narrow in
    let low = in_code code c.requires.code c.args.number (slice_get_within (nodes_of core) c.args.number narrow.node narrow.at) in
    record {
      both = c.in_ok-level.both;
      opens = narrow_with code c.requires.code c.args.number c.index-code-number.result low c.index-code-number.is narrow (op.New c.in_ok-level.level c.in_ok-level.both) (ap (λ (n : Node). plain_op n.op) c.index-code-number.is ∙ c.in_ok-level.ensures.is);
      forks = also_with core c.in_ok-level.both _ (op.Par c.in_ok-left.left c.in_ok-left.right) c.in_ok-narrow_op.ensures.is c.in_ok-left.ensures.is;
    }
