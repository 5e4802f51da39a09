use Rattle.std.proofs.Common.{◌≡◌, ◌+◌, take, List, [], ◌∷◌, ◌++◌, length, map, refl, sym, ap, ◌∙◌, subst, Some, option_map}
use Rattle.std.specs.List.{slice_get}
use Rattle.std.proofs.lemmas.Option.{slice_get-map, slice_get_read}
use Rattle.pict_code.specs.Instruction.{Node}
use Rattle.pict_code.specs.Plain.{plain_node}
use Rattle.pict_desk.proofs.Making.{take_more}
use Rattle.pict_desk.specs.Constants.{AreConstants}
use Rattle.pict_desk.proofs.MadeOnce.{messages_over, constants_more, makes_more}
use Rattle.pict_desk.proofs.constants.make_constants.Goals as goal

pub make_constant_for-requires : goal.make_constant_for-requires
make_constant_for-requires c =
    let nodes = c.args.nodes.now in
    let i = c.loop-node.node-index in
    let node = c.node-item.result in
    let at : slice_get (map plain_node nodes) i ≡ Some (plain_node node) = slice_get-map plain_node nodes i ∙ ap (option_map plain_node) (slice_get_read nodes (length nodes) i node refl c.loop-node-test.true c.node-item.is) in
    record { over = messages_over (map plain_node nodes) c.requires.code i (plain_node node) at }

pub loop-node-preserved : goal.loop-node-preserved
loop-node-preserved c =
    let nodes = c.args.nodes.now in
    let i = c.loop-node.node-index in
    let node = c.node-item.result in
    let old = c.loop-node.desk in
    let new = c.make_constant_for.new.desk in
    let made = c.make_constant_for.ensures.rest in
    let more = constants_more old.heap new.heap made.words (map plain_node (take i nodes)) c.loop-node.constants.items (plain_node node) c.in_ok-constant.constant c.loop-node.invariant.are c.in_ok-constant.ensures.is in
    record {
      are = subst (AreConstants new.heap (map plain_node (take (i + 1) nodes))) (sym c.in_ok-push.ensures.items)
          (subst (λ (ns : List Node). AreConstants new.heap ns (c.loop-node.constants.items ++ c.in_ok-constant.constant ∷ [])) (sym (take_more plain_node nodes i node c.loop-node-test.true c.node-item.is)) more);
      rest = makes_more c.args.desk.now old new c.loop-node.invariant.rest made;
    }
