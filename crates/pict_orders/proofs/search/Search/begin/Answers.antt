use Rattle.pict_core.specs.Plain.{plain_core}
use Rattle.pict_orders.specs.Plain.{configuration_of}
use Rattle.pict_orders.proofs.Beginning.{begin_by, opening_begins}
use Rattle.pict_orders.proofs.search.Search.begin.Goals as goal

pub returns-clause-goes : goal.returns-clause-goes
returns-clause-goes c =
    begin_by (plain_core c.args.process) c.args.self.now c.reach.new.self c.reach.result c.new.result.items c.new-2.result.items (configuration_of c.in_ok-state.state) c.new.ensures.items c.new-2.ensures.items c.in_ok-state.ensures
    c.reach.ensures.goes

pub returns-clause-first : goal.returns-clause-first
returns-clause-first c =
    opening_begins (plain_core c.args.process) c.args.self.now c.reach.new.self c.reach.result c.new.result.items c.new-2.result.items (configuration_of c.in_ok-state.state) c.new-2.ensures.items c.in_ok-state.ensures
    c.reach.ensures.first
