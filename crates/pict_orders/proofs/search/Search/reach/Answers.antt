use Rattle.std.proofs.Common.{map}
use Rattle.pict_orders.specs.Plain.{configuration_of, place_of}
use Rattle.pict_orders.proofs.Going.{extends_itself, goes_to_full, settles_to_full}
use Rattle.pict_orders.proofs.Trying.{goes_to_limit}
use Rattle.pict_orders.proofs.Beginning.{none_begins, first_begins, reach_known, reach_new}
use Rattle.pict_orders.proofs.search.Search.reach.Goals as goal

pub returns-then-not-branch-clause-goes : goal.returns-then-not-branch-clause-goes
returns-then-not-branch-clause-goes c = λ p h is r.
    goes_to_full p c.args.self.now _ h
    (settles_to_full p (map place_of c.args.choices.items) (map place_of c.settle.new.choices.items) c.args.bytes.items (configuration_of c.args.state) (configuration_of c.settle.new.self) r
    (c.in_ok-settle.ensures.full is c.if-not-branch.true))

pub returns-then-len-self-clause-goes : goal.returns-then-len-self-clause-goes
returns-then-len-self-clause-goes c = λ p h is r. goes_to_limit p c.args.self.now c.args.self.now _ h (extends_itself c.args.self.now)

pub returns-then-branch-clause-goes : goal.returns-then-branch-clause-goes
returns-then-branch-clause-goes c =
    reach_known c.args.self.now (map place_of c.args.choices.items) (map place_of c.settle.new.choices.items) c.args.bytes.items (configuration_of c.args.state) (configuration_of c.settle.new.self)
    (λ is. c.in_ok-settle.ensures.settled is c.if-not-branch.false) c.deref-3.result.now c.deref-3.ensures.value (c.in_ok-has.ensures c.if-branch.true)

pub returns-clause-goes : goal.returns-clause-goes
returns-clause-goes c =
    reach_new c.args.self.now (map place_of c.args.choices.items) (map place_of c.settle.new.choices.items) c.args.bytes.items (configuration_of c.args.state) (configuration_of c.settle.new.self)
    (λ is. c.in_ok-settle.ensures.settled is c.if-not-branch.false) c.add.new.self c.in_ok-add.ensures

pub returns-then-not-branch-clause-first : goal.returns-then-not-branch-clause-first
returns-then-not-branch-clause-first c = λ none is. none_begins c.args.self.now c.args.bytes.items (configuration_of c.args.state) none

pub returns-then-len-self-clause-first : goal.returns-then-len-self-clause-first
returns-then-len-self-clause-first c = λ none is. none_begins c.args.self.now c.args.bytes.items (configuration_of c.args.state) none

pub returns-then-branch-clause-first : goal.returns-then-branch-clause-first
returns-then-branch-clause-first c = λ none is. none_begins c.args.self.now c.args.bytes.items (configuration_of c.args.state) none

pub returns-clause-first : goal.returns-clause-first
returns-clause-first c = λ none is.
    first_begins c.args.self.now c.add.new.self (map place_of c.args.choices.items) (map place_of c.settle.new.choices.items) c.args.bytes.items (configuration_of c.args.state) (configuration_of c.settle.new.self)
    none c.in_ok-add.ensures (c.in_ok-settle.ensures.settled is c.if-not-branch.false)
