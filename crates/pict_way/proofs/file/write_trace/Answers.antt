use Rattle.std.proofs.Common.{◌+◌, refl}
use Rattle.pict_core.specs.Plain.{plain_core}
use Rattle.pict_orders.specs.Plain.{configuration_of}
use Rattle.pict_way.proofs.Tracing.{none_yet, traced_more, stuck_at}
use Rattle.pict_way.proofs.file.write_trace.Goals as goal

pub loop-index-init : goal.loop-index-init
loop-index-init c = none_yet c.args.names.now (plain_core c.args.process) (configuration_of c.in_ok-state.state) c.args.out.now.items c.requires.closed c.in_ok-state.ensures

pub loop-index-preserved : goal.loop-index-preserved
loop-index-preserved c =
    traced_more c.args.names.now (plain_core c.args.process) c.args.choices.now c.loop-index.index (c.loop-index.index + 1) (record { ready = 0; partner = 0 }) (configuration_of c.loop-index.state)
    (configuration_of c.write_step.new.state) c.args.out.now.items c.loop-index.out.items c.write_step.new.out.items c.loop-index-test.true refl c.loop-index.invariant
    (c.in_ok-write_step.ensures.traced c.if-not-branch.false c.loop-index.invariant.is)

pub returns-then-not-branch-clause-stuck : goal.returns-then-not-branch-clause-stuck
returns-then-not-branch-clause-stuck c = λ not.
    stuck_at c.args.names.now (plain_core c.args.process) c.args.choices.now c.loop-index.index (record { ready = 0; partner = 0 }) (configuration_of c.loop-index.state)
    c.args.out.now.items c.loop-index.out.items c.loop-index-test.true c.loop-index.invariant (c.in_ok-write_step.ensures.stuck c.if-not-branch.true c.loop-index.invariant.is)
