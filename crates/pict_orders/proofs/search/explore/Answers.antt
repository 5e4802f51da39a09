use Rattle.pict_core.specs.Plain.{plain_core}
use Rattle.pict_orders.proofs.Trying.{begins}
use Rattle.pict_orders.proofs.Beginning.{all_explored, all_full, all_traps}
use Rattle.pict_orders.proofs.search.explore.Goals as goal

pub returns-clause-found : goal.returns-clause-found
returns-clause-found c =
    let g = c.in_ok-extent.ensures.goes c.requires.closed (begins (plain_core c.args.process) c.new.result.items c.new-2.result.items c.new.ensures.items c.new-2.ensures.items) in
    g.is

pub returns-clause-all : goal.returns-clause-all
returns-clause-all c = λ whole.
    all_explored (plain_core c.args.process) _ c.explore.new.self c.in_ok-extent.extent
    (c.in_ok-extent.ensures.goes c.requires.closed (begins (plain_core c.args.process) c.new.result.items c.new-2.result.items c.new.ensures.items c.new-2.ensures.items)) whole

pub returns-clause-full : goal.returns-clause-full
returns-clause-full c = λ none.
    all_full (plain_core c.args.process) _ c.explore.new.self c.in_ok-extent.extent
    (c.in_ok-extent.ensures.goes c.requires.closed (begins (plain_core c.args.process) c.new.result.items c.new-2.result.items c.new.ensures.items c.new-2.ensures.items)) none

pub returns-clause-traps : goal.returns-clause-traps
returns-clause-traps c = λ whole.
    all_traps (plain_core c.args.process) _ c.explore.new.self c.in_ok-extent.extent
    (c.in_ok-extent.ensures.goes c.requires.closed (begins (plain_core c.args.process) c.new.result.items c.new-2.result.items c.new.ensures.items c.new-2.ensures.items)) whole

pub returns-clause-first : goal.returns-clause-first
returns-clause-first c =
    c.in_ok-extent.ensures.first c.requires.closed (begins (plain_core c.args.process) c.new.result.items c.new-2.result.items c.new.ensures.items c.new-2.ensures.items) c.new.ensures.items
