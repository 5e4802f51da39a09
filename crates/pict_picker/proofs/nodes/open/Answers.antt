use Rattle.std.proofs.Common.{refl, sym, arith}
use Rattle.std.proofs.lemmas.List.{length-set}
use Rattle.pict_desk.specs.Code.{core_in}
use Rattle.pict_desk.proofs.Numbered.{in_code}
use Rattle.pict_picker.proofs.Deeds.{values_desk, opened_pairs, open_deed}
use Rattle.pict_picker.proofs.Rows.{new_inside, new_level}
use Rattle.pict_picker.proofs.nodes.open.Goals as goal

pub index_mut-requires : goal.index_mut-requires
index_mut-requires c =
    let a = c.requires.acts.3 in
    let d = c.args.desk.now in
    omega (arith, new_level (core_in c.args.code.now) d.heap d.values.items c.args.level c.args.part c.requires.acts.2 a.node d a.may.desk, d.values.ok)

pub make_part-requires-clause-code : goal.make_part-requires-clause-code
make_part-requires-clause-code c = c.requires.acts.3.may.code_is

pub make_part-requires-clause-inside : goal.make_part-requires-clause-inside
make_part-requires-clause-inside c =
    let a = c.requires.acts.3 in
    let d = c.args.desk.now in
    in_code c.args.code.now a.may.code_is c.args.part (new_inside (core_in c.args.code.now) d.heap d.values.items c.args.level c.args.part c.requires.acts.2 a.node)

pub make_part-requires-clause-desk : goal.make_part-requires-clause-desk
make_part-requires-clause-desk c =
    let a = c.requires.acts.3 in
    let d = c.args.desk.now in
    let inside = new_level (core_in c.args.code.now) d.heap d.values.items c.args.level c.args.part c.requires.acts.2 a.node d a.may.desk in
    (values_desk (core_in c.args.code.now) d _ refl
    (opened_pairs c.args.code.now d c.requires.acts.0 c.requires.acts.1 c.requires.acts.2 c.args.level c.args.part c.args.channels c.pack.result c.pack.ensures.fits (sym c.pack.ensures.pair) inside a.may.desk.pairs)
    (length-set d.values.items c.args.level c.pack.result) a.may.desk).desk

pub returns-clause-deed : goal.returns-clause-deed
returns-clause-deed c lists j own a many =
    let d = c.args.desk.now in
    let inside = new_level (core_in c.args.code.now) d.heap d.values.items c.args.level c.args.part own a.node d a.may.desk in
    open_deed c.args.code.now d lists j own c.args.level c.args.part c.args.channels c.pack.result c.pack.ensures.fits (sym c.pack.ensures.pair) inside c.in_ok-opened.opened a many c.in_ok-opened.ensures

pub returns-clause-rest : goal.returns-clause-rest
returns-clause-rest c =
    let a = c.requires.acts.3 in
    let d = c.args.desk.now in
    let inside = new_level (core_in c.args.code.now) d.heap d.values.items c.args.level c.args.part c.requires.acts.2 a.node d a.may.desk in
    values_desk (core_in c.args.code.now) d _ refl
    (opened_pairs c.args.code.now d c.requires.acts.0 c.requires.acts.1 c.requires.acts.2 c.args.level c.args.part c.args.channels c.pack.result c.pack.ensures.fits (sym c.pack.ensures.pair) inside a.may.desk.pairs)
    (length-set d.values.items c.args.level c.pack.result) a.may.desk

pub returns-in_err-opened-clause-rest : goal.returns-in_err-opened-clause-rest
returns-in_err-opened-clause-rest c =
    let a = c.requires.acts.3 in
    let d = c.args.desk.now in
    let inside = new_level (core_in c.args.code.now) d.heap d.values.items c.args.level c.args.part c.requires.acts.2 a.node d a.may.desk in
    values_desk (core_in c.args.code.now) d _ refl
    (opened_pairs c.args.code.now d c.requires.acts.0 c.requires.acts.1 c.requires.acts.2 c.args.level c.args.part c.args.channels c.pack.result c.pack.ensures.fits (sym c.pack.ensures.pair) inside a.may.desk.pairs)
    (length-set d.values.items c.args.level c.pack.result) a.may.desk
