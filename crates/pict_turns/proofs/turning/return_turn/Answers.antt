use Rattle.std.proofs.Common.{ℕ, List, ◌+◌, ◌≡◌, get_or, length, sym, ap, ◌∙◌, subst, arith}
use Rattle.pict_blocks.proofs.Costs.{costs_more}
use Rattle.pict_blocks.proofs.Held.{made_no_more}
use Rattle.pict_region.specs.RegionState.{spare}
use Rattle.pict_turns.specs.Acting.{IsStore}
use Rattle.pict_desk.specs.Code.{core_in}
use Rattle.pict_turns.specs.Views.{acting_words}
use Rattle.pict_turns.specs.declared.store.Store.{Store}
use Rattle.pict_turns.specs.declared.turn.Turn.{Turn}
use Rattle.pict_turns.proofs.Taking.{some_acts, rested_ready, rested_store}
use Rattle.pict_turns.proofs.Turns.{words_nobody, ready_nobody, cost_is}
use Rattle.pict_turns.proofs.turning.return_turn.Goals as goal

pub set_down-block-requires-clause-acting : goal.set_down-block-requires-clause-acting
set_down-block-requires-clause-acting c = some_acts (core_in c.args.code.now) c.args.store.now c.requires.store (λ e. c.in_default.not-Nobody (c.get.ensures ∙ e))

pub returns-in-Nobody-clause-ready : goal.returns-in-Nobody-clause-ready
returns-in-Nobody-clause-ready c =
    let core = core_in c.args.code.now in
    sym (ready_nobody core c.args.store.now (words_nobody core c.args.store.now (sym c.get.ensures ∙ c.in-Nobody.is)))

pub returns-in-Nobody-clause-rest : goal.returns-in-Nobody-clause-rest
returns-in-Nobody-clause-rest c = ap (λ (t : Turn). record c.args.store.now { turn = t }) (sym c.get.ensures ∙ c.in-Nobody.is)

pub returns-in_default-clause-store : goal.returns-in_default-clause-store
returns-in_default-clause-store c =
    let core = core_in c.args.code.now in
    let s = c.args.store.now in
    let a = some_acts core s c.requires.store (λ e. c.in_default.not-Nobody (c.get.ensures ∙ e)) in
    subst (IsStore core) (sym (ap (λ (x : Store). record x { queues = c.push_front.new.self }) c.set_down-block.ensures.rest))
    (rested_store core s c.set_down-block.new.store.queues c.push_front.new.self c.set_down-block.result a c.set_down-block.ensures.made
    c.push_front.ensures.pushed c.push_front.ensures.other_contents c.push_front.ensures.rest.queues)

pub returns-in_default-clause-ready : goal.returns-in_default-clause-ready
returns-in_default-clause-ready c =
    let core = core_in c.args.code.now in
    let s = c.args.store.now in
    let a = some_acts core s c.requires.store (λ e. c.in_default.not-Nobody (c.get.ensures ∙ e)) in
    rested_ready core s c.set_down-block.new.store.queues c.push_front.new.self c.set_down-block.result a c.set_down-block.ensures.made
    c.push_front.ensures.pushed c.push_front.ensures.other_contents c.push_front.ensures.rest.queues

pub returns-in_default-clause-others : goal.returns-in_default-clause-others
returns-in_default-clause-others c = λ queue apart. c.push_front.ensures.other_contents queue apart ∙ c.set_down-block.ensures.made.contents queue

pub returns-in_default-clause-rest : goal.returns-in_default-clause-rest
returns-in_default-clause-rest c = ap (λ (x : Store). record x { queues = c.push_front.new.self }) c.set_down-block.ensures.rest

pub returns-in_default-clause-queues : goal.returns-in_default-clause-queues
returns-in_default-clause-queues c = c.push_front.ensures.rest.queues ∙ ap length c.set_down-block.ensures.made.queues

pub returns-in_default-clause-no_more : goal.returns-in_default-clause-no_more
returns-in_default-clause-no_more c =
    made_no_more c.args.store.now.queues c.set_down-block.new.store.queues c.push_front.new.self _ _ _ c.set_down-block.ensures.made c.push_front.ensures.gone

pub returns-in_default-clause-blocks : goal.returns-in_default-clause-blocks
returns-in_default-clause-blocks c = λ width. c.push_front.ensures.blocks width ∙ c.set_down-block.ensures.made.blocks width

pub returns-in_default-clause-takes : goal.returns-in_default-clause-takes
returns-in_default-clause-takes c =
    let old = c.args.store.now.queues in
    let made = c.set_down-block.new.store.queues in
    let new = c.push_front.new.self in
    let width = length (acting_words (core_in c.args.code.now) c.args.store.now) + 1 in
    let m = c.set_down-block.ensures.made in
    let free : (w : ℕ) → spare new.region w ≡ spare made.region w = λ w. ap (λ (f : List ℕ). get_or f w 0) c.push_front.ensures.rest.free in
    record {
      own = let e = free width in let s = m.spare in omega (arith, e, s);
      others = λ other apart. free other ∙ m.widths other apart;
      queues = c.push_front.ensures.rest.spare_queues ∙ m.spare_queues;
    }

pub returns-in_default-clause-cost : goal.returns-in_default-clause-cost
returns-in_default-clause-cost c =
    let core = core_in c.args.code.now in
    let s = c.args.store.now in
    let a = some_acts core s c.requires.store (λ e. c.in_default.not-Nobody (c.get.ensures ∙ e)) in
    let cost = cost_is core s (acting_words core s) a.has in
    costs_more s.queues c.set_down-block.new.store.queues c.push_front.new.self (length (acting_words core s) + 1) 2 _ (omega (arith, cost)) c.set_down-block.ensures.cost c.push_front.ensures.cost
