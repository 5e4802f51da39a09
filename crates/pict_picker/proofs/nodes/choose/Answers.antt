use Rattle.std.proofs.Common.{length}
use Rattle.pict_core.specs.Plain.{plain_val}
use Rattle.pict_code.specs.Instruction as op
use Rattle.pict_desk.specs.Code.{core_in}
use Rattle.pict_desk.specs.Known.{known}
use Rattle.pict_desk.proofs.Numbered.{in_code, chosen_low}
use Rattle.pict_picker.proofs.Acts.{around_low}
use Rattle.pict_picker.proofs.Deeds.{choose_deed}
use Rattle.pict_picker.proofs.Rows.{if_over, if_inside, if_boolean}
use Rattle.pict_picker.proofs.nodes.choose.Goals as goal

pub chosen-part-requires-clause-over : goal.chosen-part-requires-clause-over
chosen-part-requires-clause-over c =
    let a = c.requires.acts.3 in
    let d = c.args.desk.now in
    let core = core_in c.args.code.now in
    let test = plain_val c.args.test.now in
    if_over core d.heap d.values.items test c.args.yes c.args.no c.requires.acts.2 a.may.code_is.closed a.node (length d.values.items)
    (around_low core (known d.heap d.values.items) (op.If test c.args.yes c.args.no) c.requires.acts.2 a.node d a.may.desk)

pub chosen-part-requires-clause-pairs : goal.chosen-part-requires-clause-pairs
chosen-part-requires-clause-pairs c = c.requires.acts.3.may.desk.pairs

pub chosen-part-requires-clause-boolean : goal.chosen-part-requires-clause-boolean
chosen-part-requires-clause-boolean c =
    let a = c.requires.acts.3 in
    let d = c.args.desk.now in
    if_boolean (core_in c.args.code.now) d.heap d.values.items (plain_val c.args.test.now) c.args.yes c.args.no c.requires.acts.2 a.may.code_is.closed a.node c.requires.acts.0 c.requires.acts.1 a.may.right

pub make_part-requires-clause-code : goal.make_part-requires-clause-code
make_part-requires-clause-code c = c.requires.acts.3.may.code_is

pub make_part-requires-clause-inside : goal.make_part-requires-clause-inside
make_part-requires-clause-inside c =
    let a = c.requires.acts.3 in
    let d = c.args.desk.now in
    let code = c.args.code.now in
    let low = if_inside (core_in code) d.heap d.values.items (plain_val c.args.test.now) c.args.yes c.args.no c.requires.acts.2 a.may.code_is.closed a.node in
    let b = c.chosen-part.ensures in
    chosen_low b.0 c.args.yes c.args.no _ c.chosen-part.result (in_code code a.may.code_is c.args.yes low.0) (in_code code a.may.code_is c.args.no low.1) b.2

pub make_part-requires-clause-desk : goal.make_part-requires-clause-desk
make_part-requires-clause-desk c = c.requires.acts.3.may.desk

pub returns : goal.returns
returns c lists j own a =
    let b = c.chosen-part.ensures in
    choose_deed c.args.code.now c.args.desk.now lists j own (plain_val c.args.test.now) c.args.yes c.args.no c.chosen-part.result b.0 c.in_ok-kept.kept a b.1 b.2 c.in_ok-kept.ensures
