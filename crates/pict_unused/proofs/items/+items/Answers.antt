-- One more of a list is read.
use Rattle.std.proofs.Common.{rules, ◌<◌, length}
use Rattle.pict_unused.proofs.Forms.{before_decs, before_definitions, before_vals, before_labelled_vals, before_procs, one_dec, one_definition, one_val, one_labelled_val, one_proc}
use Rattle.pict_unused.proofs.items.+items.Goals as goal

pub declarations-loop-d-init : goal.declarations-loop-d-init
declarations-loop-d-init t c = before_decs c.args.out.now.items

pub declarations-loop-d-preserved : goal.declarations-loop-d-preserved
declarations-loop-d-preserved t c =
    let h : c.loop-d.d-index < length c.args.ds.now = search rules in
    one_dec c.args.out.now.items c.loop-d.out.items c.declaration.new.out.items c.args.ds.now c.loop-d.d-index c.d-item.result h c.d-item.is c.loop-d.invariant c.in_ok-declaration.ensures

pub definitions-loop-d-init : goal.definitions-loop-d-init
definitions-loop-d-init t c = before_definitions c.args.out.now.items

pub definitions-loop-d-preserved : goal.definitions-loop-d-preserved
definitions-loop-d-preserved t c =
    let h : c.loop-d.d-index < length c.args.ds.now = search rules in
    one_definition c.args.out.now.items c.loop-d.out.items _ c.abstraction.new.out.items c.args.ds.now c.loop-d.d-index c.d-item.result h c.d-item.is c.loop-d.invariant c.in_ok-abstraction.ensures (search rules)

pub values-loop-v-init : goal.values-loop-v-init
values-loop-v-init t c = before_vals c.args.out.now.items

pub values-loop-v-preserved : goal.values-loop-v-preserved
values-loop-v-preserved t c =
    let h : c.loop-v.v-index < length c.args.vs.now = search rules in
    one_val c.args.out.now.items c.loop-v.out.items c.value.new.out.items c.args.vs.now c.loop-v.v-index c.v-item.result h c.v-item.is c.loop-v.invariant c.in_ok-value.ensures

pub labelled_values-loop-l-init : goal.labelled_values-loop-l-init
labelled_values-loop-l-init t c = before_labelled_vals c.args.out.now.items

pub labelled_values-loop-l-preserved : goal.labelled_values-loop-l-preserved
labelled_values-loop-l-preserved t c =
    let h : c.loop-l.l-index < length c.args.ls.now = search rules in
    one_labelled_val c.args.out.now.items c.loop-l.out.items c.value.new.out.items c.args.ls.now c.loop-l.l-index c.l-item.result h c.l-item.is c.loop-l.invariant c.in_ok-value.ensures

pub processes-loop-p-init : goal.processes-loop-p-init
processes-loop-p-init t c = before_procs c.args.out.now.items

pub processes-loop-p-preserved : goal.processes-loop-p-preserved
processes-loop-p-preserved t c =
    let h : c.loop-p.p-index < length c.args.ps.now = search rules in
    one_proc c.args.out.now.items c.loop-p.out.items c.process.new.out.items c.args.ps.now c.loop-p.p-index c.p-item.result h c.p-item.is c.loop-p.invariant c.in_ok-process.ensures
