use Rattle.pict_machine.specs.Machine.{view_of}
use Rattle.pict_view.proofs.AtPlaces.{ready_is}
use Rattle.pict_machine.proofs.machine.Machine.ready.Goals as goal

pub returns-clause-unfinished : goal.returns-clause-unfinished
returns-clause-unfinished c = ready_is (view_of c.args.self.now) c.is_ready.result c.is_ready.ensures
