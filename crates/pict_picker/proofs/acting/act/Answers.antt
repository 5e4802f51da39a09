use Rattle.pict_desk.specs.Code.{core_in}
use Rattle.pict_picker.proofs.Taken.{there_low, node_taken, node_may, node_done, kept_taken, kept_may, kept_done}
use Rattle.pict_picker.proofs.acting.act.Goals as goal

pub get-requires : goal.get-requires
get-requires c = there_low (core_in c.args.code.now) c.args.desk.now.heap c.args.lists.now c.args.i c.requires.acts.0 c.requires.acts.1

pub act_node-requires : goal.act_node-requires
act_node-requires c =
    let core = core_in c.args.code.now in
    let d = c.args.desk.now in
    let lists = c.args.lists.now in
    record {
      lists = c.requires.lists;
      node = node_taken c.args.code.now d lists c.requires.lists c.args.i c.get.result.now c.get.ensures c.in-Node.number c.in-Node.frame c.in-Node.is c.deref.result.now c.deref.ensures.value;
      acts = node_may c.args.code.now d lists c.requires.lists c.args.i c.get.result.now c.get.ensures c.in-Node.number c.in-Node.frame c.in-Node.is c.deref.result.now c.deref.ensures.value
          c.args.j c.requires.acts.0 c.requires.acts.1 c.requires.acts.2;
      few = c.requires.few;
    }

pub returns-in-Node-clause-deed : goal.returns-in-Node-clause-deed
returns-in-Node-clause-deed c own here =
    node_done c.args.code.now c.args.desk.now c.args.lists.now c.requires.lists c.args.i c.get.result.now c.get.ensures c.in-Node.number c.in-Node.frame c.in-Node.is c.deref.result.now c.deref.ensures.value
    c.args.j own here c.act_node.new.desk.heap c.act_node.result c.act_node.ensures.deed

pub output_kept-requires : goal.output_kept-requires
output_kept-requires c =
    record {
      lists = c.requires.lists;
      kept = kept_taken c.args.code.now c.args.desk.now c.args.lists.now c.requires.lists c.args.i c.get.result.now c.get.ensures c.in-Output.kept c.in-Output.is;
      acts = kept_may c.args.code.now c.args.desk.now c.args.lists.now c.requires.lists c.args.i c.get.result.now c.get.ensures c.in-Output.kept c.in-Output.is
          c.args.j c.requires.acts.0 c.requires.acts.1 c.requires.acts.2;
    }

pub returns-in-Output-clause-deed : goal.returns-in-Output-clause-deed
returns-in-Output-clause-deed c own here =
    kept_done c.args.code.now c.args.desk.now c.args.lists.now c.requires.lists c.args.i c.get.result.now c.get.ensures c.in-Output.kept c.in-Output.is
    c.args.j own here c.output_kept.new.desk.heap c.output_kept.result c.output_kept.ensures.deed
