use Rattle.std.proofs.lemmas.Result.{IfOk-weaker}
use Rattle.pict_outside.proofs.Gaining.{keeps_same}
use Rattle.pict_core.specs.Plain.{plain_core}
use Rattle.pict_core.specs.Configuration.{opening}
use Rattle.pict_top.specs.Changes.{change_of}
use Rattle.pict_top.proofs.Ends.{at_err}
use Rattle.pict_top.proofs.Running.{has_run, some_run_failed, some_run_part, some_run}
use Rattle.pict_top.proofs.run.run_core.Goals as goal

pub watch-requires-clause-right : goal.watch-requires-clause-right
watch-requires-clause-right g c = record { configuration = opening (plain_core c.args.core); is = c.in-Ok.ensures.is; stands = c.in-Ok.ensures.stands; right = c.requires.right }

pub returns-in-Err-clause-memory : goal.returns-in-Err-clause-memory
returns-in-Err-clause-memory g c is = some_run (plain_core c.args.core) c.args.fuel _ (change_of g.O.Sink.taken g.O.Sink.faults c.args.out.now c.args.out.now) c.requires.right (keeps_same _)

pub returns-clause-ran : goal.returns-clause-ran
returns-clause-ran g c =
    IfOk-weaker c.watch.result _ _
    (λ end ran. has_run c.args.form c.args.names.now (plain_core c.args.core) c.args.fuel _ (change_of g.O.Sink.taken g.O.Sink.faults c.args.out.now c.watch.new.out) end
    (ran (opening (plain_core c.args.core)) c.in-Ok.ensures.is c.in-Ok.ensures.stands))
    c.watch.ensures.end

pub returns-clause-sink : goal.returns-clause-sink
returns-clause-sink g c is =
    some_run_failed c.args.form c.args.names.now (plain_core c.args.core) c.args.fuel c.requires.right _ (change_of g.O.Sink.taken g.O.Sink.faults c.args.out.now c.watch.new.out)
    (at_err is c.watch.ensures.broken (opening (plain_core c.args.core)) c.in-Ok.ensures.is c.in-Ok.ensures.stands) (c.watch.ensures.sink is)

pub returns-clause-memory : goal.returns-clause-memory
returns-clause-memory g c is =
    some_run_part c.args.form c.args.names.now (plain_core c.args.core) c.args.fuel c.requires.right _ (change_of g.O.Sink.taken g.O.Sink.faults c.args.out.now c.watch.new.out)
    (at_err is c.watch.ensures.broken (opening (plain_core c.args.core)) c.in-Ok.ensures.is c.in-Ok.ensures.stands)
