use Rattle.std.proofs.Common.{ℕ, ◌+◌, ◌<◌, ◌≤◌, ◌≡◌, true, List, length, set, refl, sym, ap, ◌∙◌, subst, arith, rules}
use Rattle.std.proofs.lemmas.Option.{slice_get_within}
use Rattle.std.specs.List.{All}
use Rattle.pict_core.specs.Term.{Var}
use Rattle.pict_code.specs.Instruction as op
use Rattle.pict_code.specs.Nodes.{nodes_of}
use Rattle.pict_region.specs.RegionState.{RegionState, spare, blocks, KeepsBlocks}
use Rattle.pict_blocks.specs.Parts.{block_width}
use Rattle.pict_desk.specs.Code.{core_in}
use Rattle.pict_desk.specs.Pairs.{ArePairs}
use Rattle.pict_desk.proofs.Numbered.{coded_frame, in_code}
use Rattle.pict_meetings.proofs.Inputs.{has_part, pattern_inside}
use Rattle.pict_turns.proofs.Making.{makes_before}
use Rattle.pict_turns.proofs.Numbered.{coded_inside}
use Rattle.pict_turns.proofs.Room.{store_still}
use Rattle.pict_acting.specs.Chain.{BeginsCall}
use Rattle.pict_acting.specs.Opening.{PutsLast}
use Rattle.pict_acting.proofs.Bounding.{made_few, push_low}
use Rattle.pict_acting.proofs.CallNodes.{new_level_inside, narrow_frame, frame_of_narrow, wide_in}
use Rattle.pict_acting.proofs.CallSteps.{call_made, call_after, another_left}
use Rattle.pict_acting.proofs.chain.make_call.Goals as goal

pub frame_at-own-requires : goal.frame_at-own-requires
frame_at-own-requires c =
    let code = c.args.code.now in
    let n = (c.requires.begins.2 c.args.store.now.desk.heap c.requires.store.pairs).waits.narrow in
    in_code code c.requires.code c.args.call.reader (slice_get_within (nodes_of (core_in code)) c.args.call.reader n.node n.at)

pub frame_at-frame-requires : goal.frame_at-frame-requires
frame_at-frame-requires c =
    let code = c.args.code.now in
    let n = (c.requires.begins.2 c.args.store.now.desk.heap c.requires.store.pairs).part in
    in_code code c.requires.code c.args.call.part (slice_get_within (nodes_of (core_in code)) c.args.call.part n.node n.at)

pub put_last-requires-clause-narrow : goal.put_last-requires-clause-narrow
put_last-requires-clause-narrow c =
    let n = (c.requires.begins.2 c.args.store.now.desk.heap c.requires.store.pairs).waits.narrow in
    narrow_frame c.args.code.now c.requires.code c.args.call.reader c.frame_at-own.result.now c.frame_at-own.ensures n

pub put_last-requires-clause-spare : goal.put_last-requires-clause-spare
put_last-requires-clause-spare c =
    subst (λ (r : RegionState). 1 ≤ spare r (block_width c.frame_at-own.result.now)) (sym c.add_channel-channel.ensures.adds.region) c.in_ok-make_room.ensures.own

pub returns-in_err-make_room-clause-blocks : goal.returns-in_err-make_room-clause-blocks
returns-in_err-make_room-clause-blocks c =
    let code = c.args.code.now in
    let own = wide_in code c.requires.code c.args.call.reader c.frame_at-own.result.now c.frame_at-own.ensures in
    let frame = wide_in code c.requires.code c.args.call.part c.frame_at-frame.result.now c.frame_at-frame.ensures in
    made_few (core_in code) c.args.store.now.queues c.make_room.new.store.queues _ _ _ own own frame c.make_room.ensures.most

pub add_channel-channel-requires-clause-inside : goal.add_channel-channel-requires-clause-inside
add_channel-channel-requires-clause-inside c =
    let s = c.args.store.now in
    let b = c.requires.begins.2 s.desk.heap c.requires.store.pairs in
    let low = new_level_inside (core_in c.args.code.now) c.requires.begins.0 b.opens.narrow.node b.opens.narrow.at (length s.desk.values.items) c.requires.store.levels c.args.call.level b.both b.opens.is in
    let same = ap length c.make_room.ensures.rest.values in
    omega (arith, low, same)

pub put_last-requires-clause-inside : goal.put_last-requires-clause-inside
put_last-requires-clause-inside c =
    let s = c.args.store.now in
    let own = c.frame_at-own.result.now in
    let inside = coded_inside c.args.code.now c.requires.code s c.requires.store c.args.call.reader own c.frame_at-own.ensures in
    let many = c.add_channel-channel.ensures.adds.levels ∙ ap length c.make_room.ensures.rest.values in
    subst (λ (n : ℕ). All (λ level. level < n) own) (sym many) inside

pub index_mut-requires : goal.index_mut-requires
index_mut-requires c =
    let s = c.args.store.now in
    let core = core_in c.args.code.now in
    let call = c.args.call in
    let b = c.requires.begins.2 s.desk.heap c.requires.store.pairs in
    let pattern = op.Bind call.bound in
    let form = has_part core call.reader call.part b.waits.narrow.node true (Var call.level) pattern b.waits.narrow.at b.waits.is in
    let low = (pattern_inside core pattern call.part form s c.requires.store).0 in
    let added = c.add_channel-channel.ensures.adds.levels in
    let same = ap length c.make_room.ensures.rest.values in
    let parked = ap (λ d. length d.values.items) c.put_last.ensures.puts.desk in
    omega (arith, low, added, same, parked)

pub returns-clause-made : goal.returns-clause-made
returns-clause-made c =
    let code = c.args.code.now in
    let core = core_in code in
    let call = c.args.call in
    let s = c.args.store.now in
    let only = c.make_room.ensures.rest in
    let mid = c.make_room.new.store in
    let opened = c.add_channel-channel.new.store in
    let added = c.add_channel-channel.ensures.adds in
    let channel = c.add_channel-channel.result in
    let put = c.put_last.new.store in
    let own = c.frame_at-own.result.now in
    let frame = c.frame_at-frame.result.now in
    let store = store_still core s mid only c.requires.store in
    let begins : BeginsCall core mid.desk.heap mid.desk.values.items c.requires.begins.0 call =
    subst (λ (vs : List (ℕ × ℕ)). BeginsCall core mid.desk.heap vs c.requires.begins.0 call) (sym only.values)
    (c.requires.begins.2 mid.desk.heap (subst (ArePairs mid.desk.heap) only.values store.pairs)) in
    let own_is = frame_of_narrow code c.requires.code call.reader own c.frame_at-own.ensures begins.waits.narrow in
    let frame_is = frame_of_narrow code c.requires.code call.part frame c.frame_at-frame.ensures begins.part in
    let from : c.from.result ≡ channel = search rules in
    let queue : c.from.result + 1 ≡ channel + 1 = ap (λ (k : ℕ). k + 1) from in
    let parked : PutsLast opened put (channel + 1) call.reader begins.waits.narrow.node.frame =
    subst (λ (k : ℕ). PutsLast opened put k call.reader begins.waits.narrow.node.frame) queue
    (subst (PutsLast opened put (c.from.result + 1) call.reader) own_is c.put_last.ensures.puts) in
    let both = c.in_ok-make_room.ensures.both in
    let region : RegionState = opened.queues.region in
    let one : 1 ≤ spare region (block_width frame) = subst (λ (r : RegionState). 1 ≤ spare r (block_width frame)) (sym added.region) both.can.block in
    let two : block_width own ≡ block_width frame → 2 ≤ spare region (block_width frame) =
    λ same. subst (λ (r : RegionState). 2 ≤ spare r (block_width frame)) (sym added.region) (both.left same) in
    let room : 1 ≤ spare put.queues.region (block_width frame) =
    another_left region put.queues.region (block_width own) (block_width frame) c.put_last.ensures.puts.taken c.put_last.ensures.puts.widths one two in
    rw c.set.ensures (call_after core s mid _ _ only
    (call_made core c.requires.code.closed mid opened _ c.requires.begins.0 channel call c.pack-value.result store (only.turn ∙ c.requires.begins.1) begins (only.contents 0 ∙ c.requires.alone)
    c.add_channel-channel.ensures.number added c.pack-value.ensures.fits (sym c.pack-value.ensures.pair)
    (ap (λ d. d.heap) parked.desk ∙ added.heap) (ap (λ d. set d.values.items call.bound c.pack-value.result) parked.desk) refl
    parked.last parked.others parked.queues parked.no_more parked.spare_queues
    (subst (λ (ls : List ℕ). 1 ≤ spare put.queues.region (block_width ls)) frame_is room)))

pub returns-clause-blocks : goal.returns-clause-blocks
returns-clause-blocks c =
    let code = c.args.code.now in
    let own = wide_in code c.requires.code c.args.call.reader c.frame_at-own.result.now c.frame_at-own.ensures in
    let frame = wide_in code c.requires.code c.args.call.part c.frame_at-frame.result.now c.frame_at-frame.ensures in
    let mid = c.make_room.new.store.queues in
    let last = c.put_last.new.store.queues in
    let keeps : KeepsBlocks mid.region last.region = λ width.
    c.put_last.ensures.puts.blocks width ∙ ap (λ (r : RegionState). blocks r width) c.add_channel-channel.ensures.adds.region in
    made_few (core_in code) c.args.store.now.queues last _ _ _ own own frame (makes_before c.args.store.now.queues mid last _ c.make_room.ensures.most keeps)

pub returns-clause-cost : goal.returns-clause-cost
returns-clause-cost c =
    let code = c.args.code.now in
    let f = coded_frame code c.requires.code c.args.call.reader c.frame_at-own.result.now c.frame_at-own.ensures in
    let low = push_low (core_in code) c.args.call.reader f.node f.at in
    let same = ap length f.is in
    let room = c.make_room.ensures.rest.work in
    let opened = ap (λ (r : RegionState). r.work) c.add_channel-channel.ensures.adds.region in
    let put_least = c.put_last.ensures.cost.least in
    let put_most = c.put_last.ensures.cost.most in
    record { least = omega (arith, room, opened, put_least); most = omega (arith, low, same, room, opened, put_most) }
