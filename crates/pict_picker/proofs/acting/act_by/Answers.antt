use Rattle.std.proofs.Common.{refl, sym, ap, ◌∙◌, subst, arith}
use Rattle.pict_code.specs.Plain.{plain_op}
use Rattle.pict_desk.specs.Code.{core_in}
use Rattle.pict_picker.specs.Acting.{ActsBy}
use Rattle.pict_picker.specs.Picker.{channel_processes}
use Rattle.pict_picker.proofs.Acts.{channels_many}
use Rattle.pict_picker.proofs.Deeds.{keeps_desk, heap_stays, zero_deed}
use Rattle.pict_picker.proofs.acting.act_by.Goals as goal

pub returns-in-Zero-clause-deed : goal.returns-in-Zero-clause-deed
returns-in-Zero-clause-deed c own a =
    let lists = channel_processes (core_in c.args.code.now) c.args.desk.now.heap c.args.lists.now in
    zero_deed c.args.code.now c.args.desk.now lists c.args.j own (subst (λ o. ActsBy c.args.code.now c.args.desk.now lists c.args.j o own) (ap plain_op c.in-Zero.is) a)

pub returns-in-Zero-clause-rest : goal.returns-in-Zero-clause-rest
returns-in-Zero-clause-rest c = keeps_desk (core_in c.args.code.now) c.args.desk.now c.requires.acts.1.may.desk

pub fork-requires : goal.fork-requires
fork-requires c =
    let lists = channel_processes (core_in c.args.code.now) c.args.desk.now.heap c.args.lists.now in
    record { acts = (lists, c.args.j, c.requires.acts.0, subst (λ o. ActsBy c.args.code.now c.args.desk.now lists c.args.j o c.requires.acts.0) (ap plain_op c.in-Par.is) c.requires.acts.1) }

pub returns-in-Par-clause-deed : goal.returns-in-Par-clause-deed
returns-in-Par-clause-deed c own a =
    let lists = channel_processes (core_in c.args.code.now) c.args.desk.now.heap c.args.lists.now in
    c.fork.ensures lists c.args.j own (subst (λ o. ActsBy c.args.code.now c.args.desk.now lists c.args.j o own) (ap plain_op c.in-Par.is) a)

pub returns-in-Par-clause-rest : goal.returns-in-Par-clause-rest
returns-in-Par-clause-rest c = keeps_desk (core_in c.args.code.now) c.args.desk.now c.requires.acts.1.may.desk

pub open-requires : goal.open-requires
open-requires c =
    let lists = channel_processes (core_in c.args.code.now) c.args.desk.now.heap c.args.lists.now in
    record { acts = (lists, c.args.j, c.requires.acts.0, subst (λ o. ActsBy c.args.code.now c.args.desk.now lists c.args.j o c.requires.acts.0) (ap plain_op c.in-New.is) c.requires.acts.1); few = let n = c.len.ensures ∙ c.args.lists.now.channels.ok.0 in omega (arith, n, c.requires.few) }

pub returns-in-New-clause-deed : goal.returns-in-New-clause-deed
returns-in-New-clause-deed c own a =
    let core = core_in c.args.code.now in
    let lists = channel_processes core c.args.desk.now.heap c.args.lists.now in
    c.open.ensures.deed lists c.args.j own (subst (λ o. ActsBy c.args.code.now c.args.desk.now lists c.args.j o own) (ap plain_op c.in-New.is) a)
    (channels_many c.args.lists.now core c.args.desk.now.heap ∙ sym (c.len.ensures ∙ c.args.lists.now.channels.ok.0))

pub choose-requires : goal.choose-requires
choose-requires c =
    let lists = channel_processes (core_in c.args.code.now) c.args.desk.now.heap c.args.lists.now in
    record { acts = (lists, c.args.j, c.requires.acts.0, subst (λ o. ActsBy c.args.code.now c.args.desk.now lists c.args.j o c.requires.acts.0) (ap plain_op c.in-If.is) c.requires.acts.1) }

pub returns-in-If-clause-deed : goal.returns-in-If-clause-deed
returns-in-If-clause-deed c own a =
    let lists = channel_processes (core_in c.args.code.now) c.args.desk.now.heap c.args.lists.now in
    c.choose.ensures lists c.args.j own (subst (λ o. ActsBy c.args.code.now c.args.desk.now lists c.args.j o own) (ap plain_op c.in-If.is) a)

pub returns-in-If-clause-rest : goal.returns-in-If-clause-rest
returns-in-If-clause-rest c = keeps_desk (core_in c.args.code.now) c.args.desk.now c.requires.acts.1.may.desk

pub output-requires-clause-acts : goal.output-requires-clause-acts
output-requires-clause-acts c =
    let lists = channel_processes (core_in c.args.code.now) c.args.desk.now.heap c.args.lists.now in
    (c.requires.acts.0, subst (λ o. ActsBy c.args.code.now c.args.desk.now lists c.args.j o c.requires.acts.0) (ap plain_op c.in-Out.is) c.requires.acts.1)

pub returns-in-Out-clause-deed : goal.returns-in-Out-clause-deed
returns-in-Out-clause-deed c own a =
    let lists = channel_processes (core_in c.args.code.now) c.args.desk.now.heap c.args.lists.now in
    c.output.ensures.deed own (subst (λ o. ActsBy c.args.code.now c.args.desk.now lists c.args.j o own) (ap plain_op c.in-Out.is) a)

pub input-requires-clause-acts : goal.input-requires-clause-acts
input-requires-clause-acts c =
    let lists = channel_processes (core_in c.args.code.now) c.args.desk.now.heap c.args.lists.now in
    (c.requires.acts.0, subst (λ o. ActsBy c.args.code.now c.args.desk.now lists c.args.j o c.requires.acts.0) (ap plain_op c.in-In.is) c.requires.acts.1)

pub returns-in-In-clause-deed : goal.returns-in-In-clause-deed
returns-in-In-clause-deed c own a =
    let lists = channel_processes (core_in c.args.code.now) c.args.desk.now.heap c.args.lists.now in
    c.input.ensures.deed own (subst (λ o. ActsBy c.args.code.now c.args.desk.now lists c.args.j o own) (ap plain_op c.in-In.is) a)

pub input-requires-in-Serve-clause-acts : goal.input-requires-in-Serve-clause-acts
input-requires-in-Serve-clause-acts c =
    let lists = channel_processes (core_in c.args.code.now) c.args.desk.now.heap c.args.lists.now in
    (c.requires.acts.0, subst (λ o. ActsBy c.args.code.now c.args.desk.now lists c.args.j o c.requires.acts.0) (ap plain_op c.in-Serve.is) c.requires.acts.1)

pub returns-in-Serve-clause-deed : goal.returns-in-Serve-clause-deed
returns-in-Serve-clause-deed c own a =
    let lists = channel_processes (core_in c.args.code.now) c.args.desk.now.heap c.args.lists.now in
    c.input-in-Serve.ensures.deed own (subst (λ o. ActsBy c.args.code.now c.args.desk.now lists c.args.j o own) (ap plain_op c.in-Serve.is) a)

pub returns-in-Par-clause-undone : goal.returns-in-Par-clause-undone
returns-in-Par-clause-undone c u = heap_stays c.args.desk.now.heap c.args.desk.now.heap refl

pub returns-in-If-clause-undone : goal.returns-in-If-clause-undone
returns-in-If-clause-undone c u = heap_stays c.args.desk.now.heap c.args.desk.now.heap refl

pub returns-in-New-clause-undone : goal.returns-in-New-clause-undone
returns-in-New-clause-undone c u = heap_stays c.args.desk.now.heap c.open.new.desk.heap c.open.ensures.heap

pub returns-in-In-clause-undone : goal.returns-in-In-clause-undone
returns-in-In-clause-undone c u = heap_stays c.args.desk.now.heap c.input.new.desk.heap c.input.ensures.heap

pub returns-in-Serve-clause-undone : goal.returns-in-Serve-clause-undone
returns-in-Serve-clause-undone c u = heap_stays c.args.desk.now.heap c.input-in-Serve.new.desk.heap c.input-in-Serve.ensures.heap

pub returns-in-Zero-clause-undone : goal.returns-in-Zero-clause-undone
returns-in-Zero-clause-undone c u = absurd u
