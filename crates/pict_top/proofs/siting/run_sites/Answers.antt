use Rattle.std.proofs.Common.{◌-◌, sym, subst}
use Rattle.std.proofs.lemmas.Result.{IfOk-weaker}
use Rattle.pict_outside.proofs.Gaining.{keeps_same}
use Rattle.pict_core.specs.Plain.{plain_core}
use Rattle.pict_network.specs.Network.{opening_network}
use Rattle.pict_sites.specs.Runs.{IsRightFrom}
use Rattle.pict_sites.proofs.Right.{runs_are_right}
use Rattle.pict_top.specs.Changes.{change_of}
use Rattle.pict_top.proofs.Ends.{at_err}
use Rattle.pict_top.proofs.Sited.{has_run_on, some_run_on_part, some_run_on_failed, sited_nothing}
use Rattle.pict_top.proofs.siting.run_sites.Goals as goal

pub run_network-requires-clause-right : goal.run_network-requires-clause-right
run_network-requires-clause-right g c =
    let N = opening_network (c.args.sites - 1) (plain_core c.args.core.now) in
    (N, c.in-Ok.ensures.stands, subst (IsRightFrom N) (sym c.new-chooser.ensures) (runs_are_right (c.args.sites - 1) (plain_core c.args.core.now) c.args.seed c.requires.closed c.requires.right))

pub returns-in-Err-clause-memory : goal.returns-in-Err-clause-memory
returns-in-Err-clause-memory g c is =
    sited_nothing (plain_core c.args.core.now) c.args.sites c.args.seed c.args.fuel (change_of g.O.Sink.taken g.O.Sink.faults c.args.out.now c.args.out.now) c.requires.closed c.requires.right (keeps_same _)

pub returns-clause-ran : goal.returns-clause-ran
returns-clause-ran g c =
    IfOk-weaker c.run_network.result _ _
    (λ end ran. has_run_on c.args.names.now (plain_core c.args.core.now) c.args.sites c.args.seed c.args.fuel _ c.new-chooser.ensures _
    (change_of g.O.Sink.taken g.O.Sink.faults c.args.out.now c.run_network.new.out) end (ran _ c.in-Ok.ensures.stands))
    c.run_network.ensures.end

pub returns-clause-sink : goal.returns-clause-sink
returns-clause-sink g c is =
    some_run_on_failed c.args.names.now (plain_core c.args.core.now) c.args.sites c.args.seed c.args.fuel _ c.new-chooser.ensures
    (runs_are_right (c.args.sites - 1) (plain_core c.args.core.now) c.args.seed c.requires.closed c.requires.right) _ (change_of g.O.Sink.taken g.O.Sink.faults c.args.out.now c.run_network.new.out)
    (at_err is c.run_network.ensures.broken _ c.in-Ok.ensures.stands) (c.run_network.ensures.sink is)

pub returns-clause-memory : goal.returns-clause-memory
returns-clause-memory g c is =
    some_run_on_part c.args.names.now (plain_core c.args.core.now) c.args.sites c.args.seed c.args.fuel _ c.new-chooser.ensures
    (runs_are_right (c.args.sites - 1) (plain_core c.args.core.now) c.args.seed c.requires.closed c.requires.right) _ (change_of g.O.Sink.taken g.O.Sink.faults c.args.out.now c.run_network.new.out)
    (at_err is c.run_network.ensures.broken _ c.in-Ok.ensures.stands)
