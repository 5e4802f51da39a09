use Rattle.pict_core.specs.Plain.{plain_core}
use Rattle.pict_orders.proofs.Beginning.{whole_by, half_by, begins_on}
use Rattle.pict_orders.proofs.search.Search.explore.Goals as goal

pub returns-in-All-clause-goes : goal.returns-in-All-clause-goes
returns-in-All-clause-goes c =
    whole_by (plain_core c.args.process) c.args.self.now c.begin.new.self c.run.new.self c.in_ok-extent.extent c.run.result c.in_ok-extent.ensures.goes c.in-All.is c.run.ensures.goes

pub returns-in_default-clause-goes : goal.returns-in_default-clause-goes
returns-in_default-clause-goes c =
    λ u h. half_by (plain_core c.args.process) c.args.self.now c.begin.new.self c.in_ok-extent.extent (c.in_ok-extent.ensures.goes u h) c.in_default.not-All

pub returns-in-All-clause-first : goal.returns-in-All-clause-first
returns-in-All-clause-first c =
    begins_on (plain_core c.args.process) c.args.self.now c.begin.new.self c.run.new.self c.in_ok-extent.extent c.run.result c.in_ok-extent.ensures.goes c.in-All.is c.in_ok-extent.ensures.first
    c.run.ensures.goes

pub returns-in_default-clause-first : goal.returns-in_default-clause-first
returns-in_default-clause-first c = λ closed h none. c.in_ok-extent.ensures.first closed none
