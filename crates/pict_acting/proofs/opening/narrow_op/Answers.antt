use Rattle.std.proofs.Common.{ℕ, ◌≤◌, ◌≡◌, List, length, sym, ap, ◌∙◌, subst, Some}
use Rattle.pict_syntax.specs.declared.limits.TheConstants.{NARROW_LIMIT}
use Rattle.pict_code.specs.Instruction.{Node}
use Rattle.pict_code.specs.Plain.{plain_node, plain_op}
use Rattle.pict_code.specs.declared.instruction.Node as written
use Rattle.pict_desk.proofs.Numbered.{coded_frame}
use Rattle.pict_acting.proofs.CallNodes.{node_there}
use Rattle.pict_acting.proofs.opening.narrow_op.Goals as goal

pub returns-then-frame_at-clause-is : goal.returns-then-frame_at-clause-is
returns-then-frame_at-clause-is c =
    let code = c.args.code.now in
    let node = c.index-code-number.result in
    let f = coded_frame code c.requires.code c.args.number c.frame_at.result.now c.frame_at.ensures in
    let there = node_there code c.requires.code c.args.number node c.requires.inside c.index-code-number.is in
    let both : Some f.node ≡ Some (plain_node node) = sym f.at ∙ there in
    let same : f.node ≡ plain_node node = cc in
    let few : length c.frame_at.result.now ≤ NARROW_LIMIT = c.if-frame_at.true in
    record {
      narrow = record {
        node = plain_node node;
        at = there;
        narrow = subst (λ (frame : List ℕ). length frame ≤ NARROW_LIMIT) (sym f.is ∙ ap (λ (n : Node). n.frame) same) few;
      };
      is = ap (λ (n : written.Node). plain_op n.op) c.index-code-number.is;
    }
