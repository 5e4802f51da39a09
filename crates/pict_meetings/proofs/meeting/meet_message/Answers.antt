use Rattle.std.proofs.Common.{ℕ, ◌+◌, ◌<◌, ◌≤◌, List, length, map, sym, ap, ◌∙◌, subst, arith}
use Rattle.std.specs.List.{All}
use Rattle.std.specs.Option.{IsSome}
use Rattle.pict_core.specs.Matching.{match_value}
use Rattle.pict_core.specs.Step.{Comm}
use Rattle.pict_code.specs.Plain.{plain_node, plain_pat}
use Rattle.pict_code.specs.ReadBack.{unleveled}
use Rattle.pict_heap.specs.HeapState.{KeepsWords}
use Rattle.pict_region.specs.RegionState.{blocks}
use Rattle.pict_queue.specs.QueuesState.{IsHeld}
use Rattle.pict_queue.specs.Contents.{contents}
use Rattle.pict_view.specs.Moved.{if_replicated}
use Rattle.pict_desk.specs.Binding.{BindsPattern}
use Rattle.pict_desk.specs.Known.{value_in}
use Rattle.pict_desk.specs.Pairs.{IsPair, ArePairs}
use Rattle.pict_turns.specs.Acting.{IsDone}
use Rattle.pict_desk.specs.Code.{core_in}
use Rattle.pict_blocks.specs.Parts.{block_width}
use Rattle.pict_turns.specs.Turns.{turn_cost}
use Rattle.pict_turns.specs.Views.{acting_words}
use Rattle.pict_turns.specs.declared.store.Store.{Store}
use Rattle.pict_turns.proofs.Adding.{used_behind, used_same, adds_part}
use Rattle.pict_turns.proofs.Numbered.{coded_inside}
use Rattle.pict_desk.proofs.Numbered.{coded_at, in_code, same_frame}
use Rattle.pict_turns.proofs.Views.{pair_stays}
use Rattle.pict_meetings.proofs.Firsts.{first_message}
use Rattle.pict_meetings.proofs.Inputs.{pattern_rises, pattern_inside, part_inside}
use Rattle.pict_meetings.proofs.Meets.{message_met}
use Rattle.pict_meetings.proofs.Readying.{Readies}
use Rattle.pict_meetings.proofs.Receipts.{receives_part, receives_fits, can_still, received_ready, received_cost}
use Rattle.pict_meetings.proofs.meeting.meet_message.Goals as goal

pub frame_at-frame-requires : goal.frame_at-frame-requires
frame_at-frame-requires c =
    let core = core_in c.args.code.now in
    let p = plain_pat c.args.pattern.now in
    in_code c.args.code.now c.requires.code c.args.part
    (part_inside core p c.args.part (receives_part core c.args.store.now c.args.channel c.args.replicated p c.args.part c.requires.receives))

pub bind_levels-requires-clause-pair : goal.bind_levels-requires-clause-pair
bind_levels-requires-clause-pair c =
    let core = core_in c.args.code.now in
    let s = c.args.store.now in
    let m = first_message core s.desk.heap (contents s.queues (c.args.channel + 1)) (c.requires.receives.acts.acting.store.blocks (c.args.channel + 1)) c.requires.first in
    subst (IsPair s.desk.heap) (sym (c.take_message-message.ensures.taken m.kept m.rest m.is).0) m.message

pub bind_levels-requires-clause-fits : goal.bind_levels-requires-clause-fits
bind_levels-requires-clause-fits c =
    let core = core_in c.args.code.now in
    let s = c.args.store.now in
    let p = plain_pat c.args.pattern.now in
    let m = first_message core s.desk.heap (contents s.queues (c.args.channel + 1)) (c.requires.receives.acts.acting.store.blocks (c.args.channel + 1)) c.requires.first in
    subst (λ (w : ℕ × ℕ). IsSome (match_value (unleveled p) (value_in s.desk.heap w.0 w.1))) (sym (c.take_message-message.ensures.taken m.kept m.rest m.is).0)
    (receives_fits core s c.args.channel c.args.replicated p c.args.part c.requires.receives m.kept m.rest c.requires.queue m.is c.requires.right)

pub bind_levels-requires-clause-inside : goal.bind_levels-requires-clause-inside
bind_levels-requires-clause-inside c =
    let core = core_in c.args.code.now in
    let p = plain_pat c.args.pattern.now in
    pattern_inside core p c.args.part (receives_part core c.args.store.now c.args.channel c.args.replicated p c.args.part c.requires.receives)
    c.args.store.now c.requires.receives.acts.acting.store

pub bind_levels-requires-clause-rising : goal.bind_levels-requires-clause-rising
bind_levels-requires-clause-rising c =
    let core = core_in c.args.code.now in
    let p = plain_pat c.args.pattern.now in
    pattern_rises core p c.args.part (receives_part core c.args.store.now c.args.channel c.args.replicated p c.args.part c.requires.receives)

pub make_last-requires-clause-can : goal.make_last-requires-clause-can
make_last-requires-clause-can c =
    let core = core_in c.args.code.now in
    let frame = c.frame_at-frame.result.now in
    can_still core c.args.store.now c.bind_levels.new.store c.args.channel c.args.replicated (plain_pat c.args.pattern.now) c.args.part c.requires.receives
    c.take_message-message.new.queues c.bind_levels.ensures.rest c.take_message-message.ensures.spare frame (c.requires.can frame c.frame_at-frame.ensures)

pub make_last-requires-clause-inside : goal.make_last-requires-clause-inside
make_last-requires-clause-inside c =
    let inside = coded_inside c.args.code.now c.requires.code c.args.store.now c.requires.receives.acts.acting.store c.args.part c.frame_at-frame.result.now c.frame_at-frame.ensures in
    subst (λ (n : ℕ). All (λ level. level < n) c.frame_at-frame.result.now) (sym c.bind_levels.ensures.levels) inside

pub returns-clause-pair : goal.returns-clause-pair
returns-clause-pair c =
    let core = core_in c.args.code.now in
    let s = c.args.store.now in
    let mid = c.bind_levels.new.store in
    let new = c.make_last.new.store in
    let p = plain_pat c.args.pattern.now in
    let frame = c.frame_at-frame.result.now in
    let rest = c.bind_levels.ensures.rest in
    let f = c.frame_at-frame.ensures in
    let m = first_message core s.desk.heap (contents s.queues (c.args.channel + 1)) (c.requires.receives.acts.acting.store.blocks (c.args.channel + 1)) c.requires.first in
    let readies = received_ready core s mid c.args.channel c.args.replicated p c.args.part c.requires.receives c.take_message-message.new.queues rest c.take_message-message.ensures.spare
    c.bind_levels.ensures.binds.others new frame (subst (λ h. ArePairs h mid.desk.values.items) (sym (ap (λ (x : Store). x.desk.heap) rest)) c.bind_levels.ensures.pairs)
    (λ e. c.requires.beside e frame f) (c.requires.can frame f) c.make_last.ensures.behind
    (λ e. c.make_last.ensures.alone e core (record { node = f.node; at = coded_at c.args.code.now c.requires.code c.args.part frame f; is = f.is })) in
    subst (IsPair new.desk.heap) (sym (c.take_message-message.ensures.taken m.kept m.rest m.is).0)
    (pair_stays s.desk.heap new.desk.heap (subst (λ h. KeepsWords h new.desk.heap) (ap (λ (x : Store). x.desk.heap) rest) readies.keeps) m.kept.message m.message)

pub returns-clause-done : goal.returns-clause-done
returns-clause-done c =
    let core = core_in c.args.code.now in
    let s = c.args.store.now in
    let mid = c.bind_levels.new.store in
    let new = c.make_last.new.store in
    let p = plain_pat c.args.pattern.now in
    let frame = c.frame_at-frame.result.now in
    let rest = c.bind_levels.ensures.rest in
    let f = c.frame_at-frame.ensures in
    let m = first_message core s.desk.heap (contents s.queues (c.args.channel + 1)) (c.requires.receives.acts.acting.store.blocks (c.args.channel + 1)) c.requires.first in
    let taken = c.take_message-message.ensures.taken m.kept m.rest m.is in
    let readies = received_ready core s mid c.args.channel c.args.replicated p c.args.part c.requires.receives c.take_message-message.new.queues rest c.take_message-message.ensures.spare
    c.bind_levels.ensures.binds.others new frame (subst (λ h. ArePairs h mid.desk.values.items) (sym (ap (λ (x : Store). x.desk.heap) rest)) c.bind_levels.ensures.pairs)
    (λ e. c.requires.beside e frame f) (c.requires.can frame f) c.make_last.ensures.behind
    (λ e. c.make_last.ensures.alone e core (record { node = f.node; at = coded_at c.args.code.now c.requires.code c.args.part frame f; is = f.is })) in
    subst (λ (w : ℕ × ℕ). IsDone core s new (Comm c.args.channel (value_in new.desk.heap w.0 w.1))) (sym taken.0)
    (message_met core s mid new c.args.channel c.args.part c.args.replicated p c.requires.receives c.requires.queue m.kept m.rest m.is m.message
    (ap (λ (x : Store). x.desk.heap) rest)
    (ap (λ (x : Store). contents x.queues (c.args.channel + 1)) rest ∙ taken.1)
    (λ queue apart. ap (λ (x : Store). contents x.queues queue) rest ∙ c.take_message-message.ensures.others queue apart)
    (ap (λ (x : Store). length x.queues.queues) rest ∙ c.take_message-message.ensures.queues)
    (subst (λ (w : ℕ × ℕ). BindsPattern s.desk.heap p (value_in s.desk.heap w.0 w.1) s.desk.values.items mid.desk.values.items) taken.0 c.bind_levels.ensures.binds)
    c.bind_levels.ensures.levels c.bind_levels.ensures.pairs f.node (coded_at c.args.code.now c.requires.code c.args.part frame f)
    (subst (λ (ls : List ℕ). Readies core mid new (if_replicated c.args.replicated (acting_words core s)) c.args.part ls) (sym f.is) readies)
    (λ other held.
    c.take_message-message.ensures.no_more other (subst (λ (x : Store). IsHeld x.queues other) rest (c.make_last.ensures.no_more other held)))
    (let first = c.take_message-message.ensures.queues in
    let left = c.take_message-message.ensures.spare_queues in
    let bound = ap (λ (x : Store). length x.queues.queues + x.queues.spare_queues) rest in
    let same = readies.queues in
    let last = c.make_last.ensures.spare_queues in
    omega (arith, first, left, bound, same, last)))

pub returns-clause-turn : goal.returns-clause-turn
returns-clause-turn c = λ frame has_frame.
    let core = core_in c.args.code.now in
    let s = c.args.store.now in
    let mid = c.bind_levels.new.store in
    let new = c.make_last.new.store in
    let p = plain_pat c.args.pattern.now in
    let own = c.frame_at-frame.result.now in
    let rest = c.bind_levels.ensures.rest in
    let f = c.frame_at-frame.ensures in
    let readies = received_ready core s mid c.args.channel c.args.replicated p c.args.part c.requires.receives c.take_message-message.new.queues rest c.take_message-message.ensures.spare
    c.bind_levels.ensures.binds.others new own (subst (λ h. ArePairs h mid.desk.values.items) (sym (ap (λ (x : Store). x.desk.heap) rest)) c.bind_levels.ensures.pairs)
    (λ e. c.requires.beside e own f) (c.requires.can own f) c.make_last.ensures.behind
    (λ e. c.make_last.ensures.alone e core (record { node = f.node; at = coded_at c.args.code.now c.requires.code c.args.part own f; is = f.is })) in
    subst (λ (ls : List ℕ). turn_cost core new ≤ turn_cost core s + (block_width ls + 4)) (same_frame (map plain_node c.args.code.now) c.args.part own frame f has_frame)
    (received_cost core s mid c.args.channel c.args.replicated p c.args.part c.requires.receives c.take_message-message.new.queues rest c.take_message-message.ensures.spare
    c.bind_levels.ensures.binds.others new own readies)

pub returns-clause-blocks : goal.returns-clause-blocks
returns-clause-blocks c = λ width.
    c.make_last.ensures.blocks width ∙ ap (λ (x : Store). blocks x.queues.region width) c.bind_levels.ensures.rest ∙ c.take_message-message.ensures.blocks width

pub returns-clause-adds : goal.returns-clause-adds
returns-clause-adds c =
    let core = core_in c.args.code.now in
    let s = c.args.store.now in
    let mid = c.bind_levels.new.store in
    let new = c.make_last.new.store in
    let own = c.frame_at-frame.result.now in
    let f = c.frame_at-frame.ensures in
    adds_part (map plain_node c.args.code.now) s new c.args.part own f
    (used_same s.desk.heap mid.desk.heap new.desk.heap.room _ (ap (λ (x : Store). x.desk.heap) c.bind_levels.ensures.rest)
    (used_behind core c.args.replicated mid new c.args.part own c.make_last.ensures.behind
    (λ e. c.make_last.ensures.alone e core (record { node = f.node; at = coded_at c.args.code.now c.requires.code c.args.part own f; is = f.is }))))
