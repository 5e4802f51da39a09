use Rattle.pict_view.specs.Watching.{Saw, SawOrTore}
use Rattle.pict_machine.specs.Events as machine
use Rattle.pict_network.specs.Network as plain
use Rattle.pict_sites.specs.Alone.{StandsIn}
use Rattle.pict_sites.specs.Network.{StandsForNetwork}
use Rattle.pict_sites.specs.Runs.{RanOn, BrokeOffOn}
use Rattle.pict_sites.proofs.Going.{ran_as, broke_as, end_as, error_as}
use Rattle.pict_sites.proofs.network.Network.run.Goals as goal

pub watch-answer-requires-clause-right : goal.watch-answer-requires-clause-right
watch-answer-requires-clause-right g c = (c.requires.right.0, c.begin-alone.ensures.stands c.requires.right.0 c.requires.right.1, c.requires.right.2)

pub returns-clause-end : goal.returns-clause-end
returns-clause-end g c =
    let mid = c.watch-answer.new.self in
    let last = c.rest.new.self in
    let saw = Saw (g.W.Watcher.next c.args.watcher.now) (g.W.Watcher.view c.args.watcher.now) (g.W.Watcher.view c.watch-answer.new.watcher) in
    end_as (λ end. (N : plain.Network) → StandsIn c.begin-alone.result c.begin-alone.new.self N → RanOn (StandsIn c.begin-alone.result mid) N c.args.chooser.now c.args.fuel (machine.end_of end) saw)
    (λ end. (N : plain.Network) → StandsForNetwork c.args.self.now N → RanOn (StandsForNetwork last) N c.args.chooser.now c.args.fuel (machine.end_of end) saw)
    (λ end ran N st. ran_as (StandsIn c.begin-alone.result mid) (StandsForNetwork last) c.rest.ensures.stands N c.args.chooser.now c.args.fuel saw (machine.end_of end) (ran N (c.begin-alone.ensures.stands N st)))
    c.watch-answer.result c.watch-answer.ensures.end

pub returns-clause-broken : goal.returns-clause-broken
returns-clause-broken g c =
    let mid = c.watch-answer.new.self in
    let last = c.rest.new.self in
    let saw = SawOrTore (g.W.Watcher.next c.args.watcher.now) (g.W.Watcher.torn c.args.watcher.now) (g.W.Watcher.view c.args.watcher.now) (g.W.Watcher.view c.watch-answer.new.watcher) in
    error_as ((N : plain.Network) → StandsIn c.begin-alone.result c.begin-alone.new.self N → BrokeOffOn (StandsIn c.begin-alone.result mid) N c.args.chooser.now c.args.fuel saw)
    ((N : plain.Network) → StandsForNetwork c.args.self.now N → BrokeOffOn (StandsForNetwork last) N c.args.chooser.now c.args.fuel saw)
    (λ broke N st. broke_as (StandsIn c.begin-alone.result mid) (StandsForNetwork last) c.rest.ensures.stands N c.args.chooser.now c.args.fuel saw (broke N (c.begin-alone.ensures.stands N st)))
    c.watch-answer.result c.watch-answer.ensures.broken
