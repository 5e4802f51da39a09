use Rattle.pict_desk.specs.Code.{core_in}
use Rattle.pict_sites.proofs.Dids.{shown_of, did_by}
use Rattle.pict_sites.proofs.did.step.Goals as goal

pub did_of-requires : goal.did_of-requires
did_of-requires c = (c.act.new.store.desk.heap, shown_of (core_in c.args.code.now) c.args.store.now c.act.new.store c.in_ok-event.event c.in_ok-event.ensures.steps.step)

pub returns : goal.returns
returns c =
    let core = core_in c.args.code.now in
    let h = c.act.new.store.desk.heap in
    let is = shown_of core c.args.store.now c.act.new.store c.in_ok-event.event c.in_ok-event.ensures.steps.step in
    did_by core c.args.store.now c.act.new.store c.in_ok-event.event c.did_of.result c.did_of.ensures.trap (c.did_of.ensures.label h is) (c.did_of.ensures.event h is) c.in_ok-event.ensures.steps.step
