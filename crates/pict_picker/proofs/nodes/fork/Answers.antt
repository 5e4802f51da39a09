use Rattle.pict_desk.specs.Code.{core_in}
use Rattle.pict_desk.proofs.Numbered.{in_code}
use Rattle.pict_picker.proofs.Deeds.{fork_deed}
use Rattle.pict_picker.proofs.Rows.{fork_inside}
use Rattle.pict_picker.proofs.nodes.fork.Goals as goal

pub make_part-requires-clause-code : goal.make_part-requires-clause-code
make_part-requires-clause-code c = c.requires.acts.3.may.code_is

pub make_part-requires-clause-inside : goal.make_part-requires-clause-inside
make_part-requires-clause-inside c =
    let a = c.requires.acts.3 in
    let d = c.args.desk.now in
    in_code c.args.code.now a.may.code_is c.args.left (fork_inside (core_in c.args.code.now) d.heap d.values.items c.args.left c.args.right c.requires.acts.2 a.node).0

pub make_part-requires-clause-desk : goal.make_part-requires-clause-desk
make_part-requires-clause-desk c = c.requires.acts.3.may.desk

pub make_part-requires-2-clause-inside : goal.make_part-requires-2-clause-inside
make_part-requires-2-clause-inside c =
    let a = c.requires.acts.3 in
    let d = c.args.desk.now in
    in_code c.args.code.now a.may.code_is c.args.right (fork_inside (core_in c.args.code.now) d.heap d.values.items c.args.left c.args.right c.requires.acts.2 a.node).1

pub returns : goal.returns
returns c lists j own a =
    fork_deed c.args.code.now c.args.desk.now lists j own c.args.left c.args.right c.in_ok-first.first c.in_ok-second.second a c.in_ok-first.ensures c.in_ok-second.ensures
