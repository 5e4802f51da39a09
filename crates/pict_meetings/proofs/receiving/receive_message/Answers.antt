use Rattle.std.proofs.Common.{ℕ, ◌≡◌, ◌+◌, List, ◌∷◌, [], length, map, refl, sym, ap, ◌∙◌, subst, arith}
use Rattle.std.specs.List.{slice_index_or}
use Rattle.pict_code.specs.Instruction.{Node}
use Rattle.pict_code.specs.Nodes.{nodes_of, input_op}
use Rattle.pict_code.specs.Plain.{plain_pat, plain_node}
use Rattle.pict_code.specs.ReadBack.{unleveled}
use Rattle.pict_meetings.specs.Room.{CanHoldBeside}
use Rattle.pict_desk.specs.Code.{core_in, HasFrame}
use Rattle.pict_turns.specs.Parts.{CanHold}
use Rattle.pict_blocks.specs.Parts.{block_width}
use Rattle.pict_turns.specs.Views.{acting_words}
use Rattle.pict_turns.specs.Widths.{MakesOnly}
use Rattle.pict_turns.proofs.Making.{makes_before}
use Rattle.pict_desk.proofs.Numbered.{in_code, same_frame}
use Rattle.pict_turns.proofs.Room.{words_still, done_after, refused_still, cost_still}
use Rattle.pict_turns.proofs.Turns.{acting_room}
use Rattle.pict_meetings.proofs.Inputs.{part_inside}
use Rattle.pict_meetings.proofs.Receipts.{receives_part}
use Rattle.pict_turns.proofs.Passing.{refused_step, may_reserve}
use Rattle.pict_meetings.proofs.Passing.{receives_reserved}
use Rattle.pict_meetings.proofs.AtChannels.{input_process}
use Rattle.pict_turns.proofs.Adding.{used_after, used_less}
use Rattle.pict_turns.proofs.InPlace.{plain_input}
use Rattle.pict_meetings.proofs.Plainly.{same_part, not_replicated, message_length, receives_kept}
use Rattle.pict_turns.proofs.Working.{costs_reserved}
use Rattle.pict_meetings.proofs.receiving.receive_message.Goals as goal

pub frame_at-frame-requires : goal.frame_at-frame-requires
frame_at-frame-requires c =
    let core = core_in c.args.code.now in
    let pattern = plain_pat c.args.pattern.now in
    in_code c.args.code.now c.requires.may.code_is c.args.part
    (part_inside core pattern c.args.part (receives_part core c.args.store.now c.args.channel c.args.replicated pattern c.args.part c.requires.receives))

pub meet_message-value-requires-clause-receives : goal.meet_message-value-requires-clause-receives
meet_message-value-requires-clause-receives c =
    receives_reserved (core_in c.args.code.now) c.args.store.now c.reserve_part_of_input.new.store c.reserve_part_of_input.ensures.rest c.args.channel c.args.replicated (plain_pat c.args.pattern.now) c.args.part c.requires.receives

pub meet_message-value-requires-clause-right : goal.meet_message-value-requires-clause-right
meet_message-value-requires-clause-right c = (may_reserve c.args.code.now c.args.store.now c.reserve_part_of_input.new.store c.reserve_part_of_input.ensures.rest c.requires.may).right

pub meet_message-value-requires-clause-can : goal.meet_message-value-requires-clause-can
meet_message-value-requires-clause-can c = λ frame f.
    subst (CanHold c.reserve_part_of_input.new.store) (same_frame (map plain_node c.args.code.now) c.args.part c.frame_at-frame.result.now frame c.frame_at-frame.ensures f) c.in_ok-reserve_part_of_input.ensures.can

pub meet_message-value-requires-clause-beside : goal.meet_message-value-requires-clause-beside
meet_message-value-requires-clause-beside c = λ yes frame f.
    let core = core_in c.args.code.now in
    let mid = c.reserve_part_of_input.new.store in
    let wide : length (acting_words core mid) + 1 ≡ c.acting_width-width.result =
    ap (λ (words : List (List ℕ)). length (slice_index_or words 0 []) + 1) (words_still core c.args.store.now mid c.reserve_part_of_input.ensures.rest) ∙ c.acting_width-width.ensures in
    subst (λ (w : ℕ). CanHoldBeside mid w frame) (sym wide)
    (subst (CanHoldBeside mid c.acting_width-width.result) (same_frame (map plain_node c.args.code.now) c.args.part c.frame_at-frame.result.now frame c.frame_at-frame.ensures f) (c.in_ok-reserve_part_of_input.ensures.beside yes))

pub returns-clause-step : goal.returns-clause-step
returns-clause-step c =
    let core = core_in c.args.code.now in
    let mid = c.reserve_part_of_input.new.store in
    let new = c.meet_message-value.new.store in
    let met = c.meet_message-value.ensures in
    record {
      done = done_after core c.args.store.now mid c.reserve_part_of_input.ensures.rest new _ met.done;
      event = met.pair;
    }

pub returns-in_err-reserve_part_of_input-clause-step : goal.returns-in_err-reserve_part_of_input-clause-step
returns-in_err-reserve_part_of_input-clause-step c =
    refused_step (core_in c.args.code.now) c.args.store.now c.reserve_part_of_input.new.store c.from_residual.result _ c.from_residual.ensures.1
    (refused_still (core_in c.args.code.now) c.args.store.now c.reserve_part_of_input.new.store c.reserve_part_of_input.ensures.rest c.requires.may.acting.store)

pub returns-clause-cost : goal.returns-clause-cost
returns-clause-cost c frame f =
    costs_reserved c.args.store.now c.reserve_part_of_input.new.store c.meet_message-value.new.store.queues _ _ c.reserve_part_of_input.ensures.rest (c.meet_message-value.ensures.cost frame f) (omega arith)

pub returns-clause-turn : goal.returns-clause-turn
returns-clause-turn c frame f =
    let same = cost_still (core_in c.args.code.now) c.args.store.now c.reserve_part_of_input.new.store c.reserve_part_of_input.ensures.rest in
    let t = c.meet_message-value.ensures.turn frame f in
    omega (arith, same, t)

pub returns-in_err-reserve_part_of_input-clause-turn : goal.returns-in_err-reserve_part_of_input-clause-turn
returns-in_err-reserve_part_of_input-clause-turn c frame f =
    let same = cost_still (core_in c.args.code.now) c.args.store.now c.reserve_part_of_input.new.store c.reserve_part_of_input.ensures.rest in omega (arith, same)

pub returns-clause-blocks : goal.returns-clause-blocks
returns-clause-blocks c frame f =
    let old = c.args.store.now.queues in
    let last = c.meet_message-value.new.store.queues in
    let width = c.acting_width-width.result in
    subst (λ (w : ℕ). MakesOnly old last (w ∷ block_width frame ∷ [])) (sym c.acting_width-width.ensures)
    (subst (λ frame. MakesOnly old last (width ∷ block_width frame ∷ [])) (same_frame (map plain_node c.args.code.now) c.args.part c.frame_at-frame.result.now frame c.frame_at-frame.ensures f)
    (makes_before old c.reserve_part_of_input.new.store.queues last (width ∷ block_width c.frame_at-frame.result.now ∷ []) c.reserve_part_of_input.ensures.most c.meet_message-value.ensures.blocks))

pub returns-in_err-reserve_part_of_input-clause-blocks : goal.returns-in_err-reserve_part_of_input-clause-blocks
returns-in_err-reserve_part_of_input-clause-blocks c frame f =
    let old = c.args.store.now.queues in
    let mid = c.reserve_part_of_input.new.store.queues in
    subst (λ (w : ℕ). MakesOnly old mid (w ∷ block_width frame ∷ [])) (sym c.acting_width-width.ensures)
    (subst (λ frame. MakesOnly old mid (c.acting_width-width.result ∷ block_width frame ∷ []))
    (same_frame (map plain_node c.args.code.now) c.args.part c.frame_at-frame.result.now frame c.frame_at-frame.ensures f) c.reserve_part_of_input.ensures.most)

pub returns-clause-plain : goal.returns-clause-plain
returns-clause-plain c x =
    let core = core_in c.args.code.now in
    let nodes = map plain_node c.args.code.now in
    let s = c.args.store.now in
    let pattern = plain_pat c.args.pattern.now in
    let receives = c.requires.receives in
    let p = input_process core s c.args.channel c.args.replicated pattern c.args.part receives in
    let once = not_replicated core s (acting_words core s) c.args.channel c.args.replicated (unleveled pattern) p.0 p.1 x in
    let i = plain_input core s (input_op c.args.replicated receives.chan pattern c.args.part) receives.acts x in
    let same : c.args.part ≡ x.part = same_part c.args.replicated receives.chan i.0 pattern i.1 c.args.part x.part i.2 in
    let has : HasFrame nodes c.args.part x.room.frame = subst (λ (ns : List Node). HasFrame ns c.args.part x.room.frame) c.requires.may.code_is.nodes_are (subst (λ (n : ℕ). HasFrame (nodes_of core) n x.room.frame) (sym same) x.room.has) in
    let r = c.reserve_part_of_input.ensures in
    let kept = receives_kept core s (acting_room core s c.requires.may.acting) x (message_length core s (acting_words core s) c.requires.may.acting.store x) c.reserve_part_of_input.new.store c.frame_at-frame.result.now
    (same_frame nodes c.args.part c.frame_at-frame.result.now x.room.frame c.frame_at-frame.ensures has) r.rest (r.one once) (r.plain once) in
    (refl, λ width. c.meet_message-value.ensures.blocks width ∙ kept.1 width)

pub returns-in_err-reserve_part_of_input-clause-plain : goal.returns-in_err-reserve_part_of_input-clause-plain
returns-in_err-reserve_part_of_input-clause-plain c x =
    let core = core_in c.args.code.now in
    let nodes = map plain_node c.args.code.now in
    let s = c.args.store.now in
    let pattern = plain_pat c.args.pattern.now in
    let receives = c.requires.receives in
    let p = input_process core s c.args.channel c.args.replicated pattern c.args.part receives in
    let once = not_replicated core s (acting_words core s) c.args.channel c.args.replicated (unleveled pattern) p.0 p.1 x in
    let i = plain_input core s (input_op c.args.replicated receives.chan pattern c.args.part) receives.acts x in
    let same : c.args.part ≡ x.part = same_part c.args.replicated receives.chan i.0 pattern i.1 c.args.part x.part i.2 in
    let has : HasFrame nodes c.args.part x.room.frame = subst (λ (ns : List Node). HasFrame ns c.args.part x.room.frame) c.requires.may.code_is.nodes_are (subst (λ (n : ℕ). HasFrame (nodes_of core) n x.room.frame) (sym same) x.room.has) in
    let r = c.in_err-reserve_part_of_input.ensures in
    let kept = receives_kept core s (acting_room core s c.requires.may.acting) x (message_length core s (acting_words core s) c.requires.may.acting.store x) c.reserve_part_of_input.new.store c.frame_at-frame.result.now
    (same_frame nodes c.args.part c.frame_at-frame.result.now x.room.frame c.frame_at-frame.ensures has) r.rest (r.one once) (r.plain once) in
    let no = kept.0 in
    cc

pub returns-clause-adds : goal.returns-clause-adds
returns-clause-adds c =
    used_after c.args.store.now.desk.heap.room c.reserve_part_of_input.new.store.desk.heap.room c.meet_message-value.new.store.desk.heap.room _ c.reserve_part_of_input.ensures.rest.room
    c.meet_message-value.ensures.adds

pub returns-in_err-reserve_part_of_input-clause-adds : goal.returns-in_err-reserve_part_of_input-clause-adds
returns-in_err-reserve_part_of_input-clause-adds c =
    used_less c.args.store.now.desk.heap.room c.reserve_part_of_input.new.store.desk.heap.room _ c.reserve_part_of_input.ensures.rest.room
