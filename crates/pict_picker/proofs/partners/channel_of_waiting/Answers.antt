use Rattle.std.proofs.Common.{ℕ, List, map, sym, ap, ◌∙◌, subst}
use Rattle.std.specs.List.{All}
use Rattle.pict_code.specs.Plain.{plain_node, plain_op}
use Rattle.pict_code.specs.Standing.{value_at}
use Rattle.pict_desk.specs.Code.{core_in}
use Rattle.pict_desk.specs.Known.{operand_value}
use Rattle.pict_desk.specs.Pairs.{IsPair}
use Rattle.pict_picker.specs.Partners.{stands_at, stands_by}
use Rattle.pict_picker.specs.Waiting.{pair_value, process_of, IsWaiting}
use Rattle.pict_picker.proofs.Acts.{node_at}
use Rattle.pict_picker.proofs.Counts.{node_stands_at}
use Rattle.pict_picker.proofs.Places.{all_get}
use Rattle.pict_picker.proofs.partners.channel_of_waiting.Goals as goal

pub returns-in-Node : goal.returns-in-Node
returns-in-Node c h waits =
    let code = c.args.code.now in
    let core = core_in code in
    let number = c.in-Node.number in
    let frame = c.in-Node.frame.items in
    let node = c.index-code-number.result in
    let is = subst (IsWaiting core h) c.in-Node.is waits in
    let there = node_at code c.requires.code h number frame is node c.index-code-number.is in
    let lent = c.deref-in-Node-2.ensures.value in
    c.channel_of_op.ensures h (subst (All (IsPair h)) (sym lent) (λ k d low. all_get (IsPair h) frame k d is.pairs low))
    ∙ ap (λ (vs : List (ℕ × ℕ)). stands_by (operand_value (value_at c.deref-in-Node.result.now (map (pair_value h) vs))) (plain_op node.op)) lent
    ∙ ap (λ (ls : List ℕ). stands_by (operand_value (value_at ls (map (pair_value h) frame))) (plain_op node.op)) (c.deref-in-Node.ensures.value ∙ ap (λ v. v.items) c.deref.ensures)
    ∙ sym (ap (λ w. stands_at (process_of core h w)) c.in-Node.is ∙ node_stands_at core h number (plain_node node) frame c.requires.code.closed there)
