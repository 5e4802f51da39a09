use Rattle.std.proofs.Common.{◌≤◌, ap, ◌∙◌, subst, Some}
use Rattle.pict_code.specs.Plain.{plain_pat}
use Rattle.pict_desk.specs.Code.{core_in}
use Rattle.pict_picker.proofs.Deeds.{keeps_desk, sent_at, node_is, receiver_alone, receiver_beside}
use Rattle.pict_picker.proofs.meeting.receive.Goals as goal

pub returns-then-j-len-clause-deed : goal.returns-then-j-len-clause-deed
returns-then-j-len-clause-deed c lists own r w =
    receiver_alone c.args.code.now c.args.desk.now lists c.args.j c.args.channel c.args.replicated (plain_pat c.args.pattern.now) c.args.part own r c.args.list.now.items w
    (subst (λ n. n ≤ c.args.j) c.len.ensures c.if-j-len.true)

pub returns-then-j-len-clause-rest : goal.returns-then-j-len-clause-rest
returns-then-j-len-clause-rest c = keeps_desk (core_in c.args.code.now) c.args.desk.now c.requires.acts.2.acts.may.desk

pub take-requires : goal.take-requires
take-requires c =
    let a = c.requires.acts in
    record { acts = (a.0, c.args.j, a.1, a.2, sent_at c.args.code.now c.args.desk.now a.0 c.args.channel c.args.list.now.items a.3 c.args.j c.in-Output.kept (c.get.ensures ∙ ap Some c.in-Output.is)) }

pub returns-in-Output-clause-deed : goal.returns-in-Output-clause-deed
returns-in-Output-clause-deed c lists own r w =
    c.take.ensures.deed lists c.args.j own r (sent_at c.args.code.now c.args.desk.now lists c.args.channel c.args.list.now.items w c.args.j c.in-Output.kept (c.get.ensures ∙ ap Some c.in-Output.is))

pub returns-in-Node-clause-deed : goal.returns-in-Node-clause-deed
returns-in-Node-clause-deed c lists own r w =
    receiver_beside c.args.code.now c.args.desk.now lists c.args.j c.args.channel c.args.replicated (plain_pat c.args.pattern.now) c.args.part own r c.args.list.now.items w
    c.in-Node.field-0 c.in-Node.field-1.items c.get.result.now c.get.ensures (node_is c.get.result.now c.in-Node.field-0 c.in-Node.field-1 c.in-Node.is)

pub returns-in-Node-clause-rest : goal.returns-in-Node-clause-rest
returns-in-Node-clause-rest c = keeps_desk (core_in c.args.code.now) c.args.desk.now c.requires.acts.2.acts.may.desk
