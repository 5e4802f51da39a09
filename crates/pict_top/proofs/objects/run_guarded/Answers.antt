use Rattle.std.proofs.lemmas.Result.{IfOk-weaker}
use Rattle.pict_core.specs.Plain.{plain_core}
use Rattle.pict_top.specs.Changes.{change_of}
use Rattle.pict_top.proofs.Ends.{at_err}
use Rattle.pict_top.proofs.Executing.{ran_to, some_ran, some_ran_failed}
use Rattle.pict_top.proofs.objects.run_guarded.Goals as goal

pub returns-clause-ran : goal.returns-clause-ran
returns-clause-ran g c =
    IfOk-weaker c.print_run.result _ _
    (λ end ran. ran_to c.args.names.now (plain_core c.args.core.now) c.args.fuel end (change_of g.O.Sink.taken g.O.Sink.faults c.args.out.now c.print_run.new.out) ran)
    c.print_run.ensures.end

pub returns-clause-sink : goal.returns-clause-sink
returns-clause-sink g c is =
    some_ran_failed c.args.names.now (plain_core c.args.core.now) c.args.fuel _ (change_of g.O.Sink.taken g.O.Sink.faults c.args.out.now c.print_run.new.out)
    (at_err is c.print_run.ensures.broken) (c.print_run.ensures.sink is)

pub returns-clause-memory : goal.returns-clause-memory
returns-clause-memory g c is =
    some_ran c.args.names.now (plain_core c.args.core.now) c.args.fuel _ (change_of g.O.Sink.taken g.O.Sink.faults c.args.out.now c.print_run.new.out) (at_err is c.print_run.ensures.broken)
