use Rattle.std.proofs.Common.{◌≤◌, map, sym, ap, ◌∙◌, subst, Some}
use Rattle.std.specs.Vec.{vec_capacity}
use Rattle.pict_code.specs.Plain.{plain_node}
use Rattle.pict_desk.specs.Code.{core_in}
use Rattle.pict_picker.specs.Acting.{ReadsAt}
use Rattle.pict_picker.specs.Parts.{waiting_width}
use Rattle.pict_picker.proofs.Deeds.{keeps_desk, reads_at, node_is, alone_deed, beside_deed}
use Rattle.pict_picker.proofs.meeting.send.Goals as goal

pub returns-then-j-len-clause-deed : goal.returns-then-j-len-clause-deed
returns-then-j-len-clause-deed c lists own s w =
    let past = c.if-j-len.true in
    alone_deed c.args.code.now c.args.desk.now lists c.args.j c.args.channel c.args.message c.args.at own s c.kept_on.result c.kept_on.ensures c.args.list.now.items w
    (subst (λ n. n ≤ c.args.j) c.len.ensures past)

pub returns-then-j-len-clause-rest : goal.returns-then-j-len-clause-rest
returns-then-j-len-clause-rest c = keeps_desk (core_in c.args.code.now) c.args.desk.now c.requires.acts.2.may.desk

pub serve-requires : goal.serve-requires
serve-requires c =
    let a = c.requires.acts in
    record {
      acts = (
        a.0,
        c.args.j,
        c.args.at,
        a.1,
        a.2,
        subst (ReadsAt c.args.code.now c.args.desk.now a.0 c.args.j c.args.channel c.in-Node.number) (sym c.deref.ensures.value)
            (reads_at c.args.code.now c.args.desk.now a.0 c.args.channel c.args.list.now.items a.3 c.args.j c.in-Node.number c.get.result.now c.in-Node.frame.items c.get.ensures
            (node_is c.get.result.now c.in-Node.number c.in-Node.frame c.in-Node.is)),
      );
      empty = c.requires.empty;
      room = subst (λ w. waiting_width (map plain_node c.args.code.now) w ≤ vec_capacity c.args.room) c.in-Node.is (c.requires.room c.get.result.now c.get.ensures);
    }

pub returns-in-Node-clause-deed : goal.returns-in-Node-clause-deed
returns-in-Node-clause-deed c lists own s w =
    c.serve.ensures.deed lists c.args.j c.args.at own s
    (subst (ReadsAt c.args.code.now c.args.desk.now lists c.args.j c.args.channel c.in-Node.number) (sym c.deref.ensures.value)
    (reads_at c.args.code.now c.args.desk.now lists c.args.channel c.args.list.now.items w c.args.j c.in-Node.number c.get.result.now c.in-Node.frame.items c.get.ensures
    (node_is c.get.result.now c.in-Node.number c.in-Node.frame c.in-Node.is)))

pub returns-in-Output-clause-deed : goal.returns-in-Output-clause-deed
returns-in-Output-clause-deed c lists own s w =
    beside_deed c.args.code.now c.args.desk.now lists c.args.j c.args.channel c.args.message c.args.at own s c.kept_on-in-Output.result c.kept_on-in-Output.ensures c.args.list.now.items w
    c.in-Output.field-0 (c.get.ensures ∙ ap Some c.in-Output.is)

pub returns-in-Output-clause-rest : goal.returns-in-Output-clause-rest
returns-in-Output-clause-rest c = keeps_desk (core_in c.args.code.now) c.args.desk.now c.requires.acts.2.may.desk
