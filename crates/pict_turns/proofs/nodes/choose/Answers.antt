use Rattle.std.proofs.Common.{ℕ, ◌∷◌, [], sym, ap, ◌∙◌, subst, map, arith}
use Rattle.pict_core.specs.Plain.{plain_val}
use Rattle.pict_core.specs.Step.{Quiet}
use Rattle.pict_core.specs.Term.{Val}
use Rattle.pict_code.specs.Instruction as op
use Rattle.pict_code.specs.Plain.{plain_node}
use Rattle.pict_desk.specs.Known.{operand_value}
use Rattle.pict_queue.specs.QueuesState.{QueuesState}
use Rattle.pict_desk.specs.Code.{core_in}
use Rattle.pict_blocks.specs.Parts.{block_width}
use Rattle.pict_turns.specs.Widths.{MakesOnly}
use Rattle.pict_turns.proofs.Adding.{used_after, used_less, adds_chosen}
use Rattle.pict_turns.proofs.Handing.{handed_cost}
use Rattle.pict_turns.proofs.Making.{makes_chosen}
use Rattle.pict_turns.proofs.Numbered.{coded_inside, if_parts, test_over, test_boolean, chosen_width}
use Rattle.pict_desk.proofs.Numbered.{coded_frame, in_code, chosen_low}
use Rattle.pict_turns.proofs.Room.{can_hold, store_still, acts_still, known_still, done_after, refused_still}
use Rattle.pict_turns.proofs.Steps.{choose_by}
use Rattle.pict_turns.proofs.nodes.choose.Goals as goal
use Rattle.pict_turns.proofs.Passing.{refused_step}
use Rattle.pict_turns.proofs.Whole.{choose_steps}
use Rattle.pict_turns.proofs.Working.{refused_cost}

pub chosen-part-requires-clause-over : goal.chosen-part-requires-clause-over
chosen-part-requires-clause-over c =
    test_over (core_in c.args.code.now) c.args.store.now (plain_val c.args.test.now) c.args.yes c.args.no c.requires.code.closed c.requires.acts

pub chosen-part-requires-clause-boolean : goal.chosen-part-requires-clause-boolean
chosen-part-requires-clause-boolean c =
    test_boolean (core_in c.args.code.now) c.args.store.now (plain_val c.args.test.now) c.args.yes c.args.no c.requires.code.closed c.requires.acts c.requires.right

pub frame_at-frame-requires : goal.frame_at-frame-requires
frame_at-frame-requires c =
    let low = if_parts (core_in c.args.code.now) c.args.store.now (plain_val c.args.test.now) c.args.yes c.args.no c.requires.acts in
    let b = c.chosen-part.ensures in
    chosen_low b.0 c.args.yes c.args.no _ c.chosen-part.result
    (in_code c.args.code.now c.requires.code c.args.yes low.0) (in_code c.args.code.now c.requires.code c.args.no low.1) b.2

pub hand_on_from-requires-clause-turn : goal.hand_on_from-requires-clause-turn
hand_on_from-requires-clause-turn c =
    (store_still (core_in c.args.code.now) c.args.store.now c.reserve_part.new.store c.reserve_part.ensures.rest c.requires.acts.acting.store).turn

pub hand_on_from-requires-clause-can : goal.hand_on_from-requires-clause-can
hand_on_from-requires-clause-can c = can_hold c.reserve_part.new.store c.frame_at-frame.result.now _ c.in_ok-reserve_part.ensures.ok

pub hand_on_from-requires-clause-inside : goal.hand_on_from-requires-clause-inside
hand_on_from-requires-clause-inside c =
    let mid = c.reserve_part.new.store in
    coded_inside c.args.code.now c.requires.code mid (store_still (core_in c.args.code.now) c.args.store.now mid c.reserve_part.ensures.rest c.requires.acts.acting.store)
    c.chosen-part.result c.frame_at-frame.result.now c.frame_at-frame.ensures

pub hand_on_from-requires-clause-pairs : goal.hand_on_from-requires-clause-pairs
hand_on_from-requires-clause-pairs c =
    (store_still (core_in c.args.code.now) c.args.store.now c.reserve_part.new.store c.reserve_part.ensures.rest c.requires.acts.acting.store).pairs

pub returns-clause-turn : goal.returns-clause-turn
returns-clause-turn c = λ first second one other.
    let core = core_in c.args.code.now in
    let f = coded_frame c.args.code.now c.requires.code c.chosen-part.result c.frame_at-frame.result.now c.frame_at-frame.ensures in
    let b = c.chosen-part.ensures in
    let low = chosen_width (map plain_node c.args.code.now) b.0 c.chosen-part.result c.args.yes c.args.no c.frame_at-frame.result.now first second b.2 c.frame_at-frame.ensures one other in
    let cost = handed_cost core c.reserve_part.new.store c.hand_on_from.new.store c.chosen-part.result c.frame_at-frame.result.now (c.hand_on_from.ensures.hands core f) in
    omega (arith, low, cost)

pub returns-clause-blocks : goal.returns-clause-blocks
returns-clause-blocks c = λ b is.
    let a = c.chosen-part.ensures in
    let old = c.args.store.now.queues in
    makes_chosen (map plain_node c.args.code.now) old c.hand_on_from.new.store.queues _ a.0 b c.args.yes c.args.no c.chosen-part.result _ a.1 is a.2 c.frame_at-frame.ensures
    (subst (λ (q : QueuesState). MakesOnly old q (block_width c.frame_at-frame.result.now ∷ [])) (sym c.hand_on_from.ensures.queues) c.reserve_part.ensures.most)

pub returns-clause-work : goal.returns-clause-work
returns-clause-work c = ap (λ (q : QueuesState). q.region.work) c.hand_on_from.ensures.queues ∙ c.reserve_part.ensures.rest.work

pub returns-clause-steps : goal.returns-clause-steps
returns-clause-steps c =
    let core = core_in c.args.code.now in
    let old = c.args.store.now in
    let mid = c.reserve_part.new.store in
    let rest = c.reserve_part.ensures.rest in
    let f = coded_frame c.args.code.now c.requires.code c.chosen-part.result c.frame_at-frame.result.now c.frame_at-frame.ensures in
    let test = plain_val c.args.test.now in
    let b = c.chosen-part.ensures in
    let done = done_after core old mid rest c.hand_on_from.new.store Quiet
    (choose_by core mid c.hand_on_from.new.store c.args.yes c.args.no c.chosen-part.result test b.0 c.frame_at-frame.result.now c.requires.code.closed
    (acts_still core old mid rest (op.If test c.args.yes c.args.no) c.requires.acts)
    (ap (λ (value : ℕ → Val). operand_value value test) (known_still core old mid rest) ∙ b.1) b.2 f (c.hand_on_from.ensures.hands core f) c.in_ok-reserve_part.ensures.ok.block) in
    choose_steps c.args.code.now c.requires.code old c.hand_on_from.new.store _ (record { done = done; event = tt })
    (plain_val c.args.test.now) c.args.yes c.args.no c.requires.acts c.requires.right
    (λ first second x y. let t = returns-clause-turn c first second x y in omega (arith, t)) (returns-clause-work c) (returns-clause-blocks c)
    (λ one is. adds_chosen (map plain_node c.args.code.now) old c.hand_on_from.new.store _ b.0 one c.args.yes c.args.no c.chosen-part.result _ b.1 is b.2 c.frame_at-frame.ensures
    (used_after old.desk.heap.room c.reserve_part.new.store.desk.heap.room c.hand_on_from.new.store.desk.heap.room _ c.reserve_part.ensures.rest.room (c.hand_on_from.ensures.hands core f).used))

pub returns-in_err-reserve_part-clause-blocks : goal.returns-in_err-reserve_part-clause-blocks
returns-in_err-reserve_part-clause-blocks c = λ b is.
    let a = c.chosen-part.ensures in
    makes_chosen (map plain_node c.args.code.now) c.args.store.now.queues c.reserve_part.new.store.queues _ a.0 b c.args.yes c.args.no c.chosen-part.result _ a.1 is a.2 c.frame_at-frame.ensures
    c.reserve_part.ensures.most

pub returns-in_err-reserve_part-clause-steps : goal.returns-in_err-reserve_part-clause-steps
returns-in_err-reserve_part-clause-steps c =
    let core = core_in c.args.code.now in
    let old = c.args.store.now in
    let mid = c.reserve_part.new.store in
    let refused = refused_still core old mid c.reserve_part.ensures.rest c.requires.acts.acting.store in
    let same = refused_cost core old mid refused in
    choose_steps c.args.code.now c.requires.code old mid _ (refused_step core old mid c.from_residual.result _ c.from_residual.ensures.1 refused)
    (plain_val c.args.test.now) c.args.yes c.args.no c.requires.acts c.requires.right
    (λ first second x y. omega (arith, same)) c.reserve_part.ensures.rest.work (returns-in_err-reserve_part-clause-blocks c)
    (λ b is. used_less c.args.store.now.desk.heap.room c.reserve_part.new.store.desk.heap.room _ c.reserve_part.ensures.rest.room)
