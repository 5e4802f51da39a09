use Rattle.std.proofs.Common.{ℕ, ◌+◌, ◌<◌, ◌≤◌, ◌≡◌, length, sym, ap, ◌∙◌, subst, arith, rules}
use Rattle.std.proofs.lemmas.Option.{slice_get_within}
use Rattle.std.specs.List.{All}
use Rattle.pict_code.specs.Nodes.{nodes_of}
use Rattle.pict_region.specs.RegionState.{RegionState, spare, blocks, KeepsBlocks}
use Rattle.pict_blocks.specs.Parts.{block_width}
use Rattle.pict_desk.specs.Code.{core_in}
use Rattle.pict_desk.proofs.Numbered.{coded_frame, in_code}
use Rattle.pict_turns.proofs.Making.{makes_before}
use Rattle.pict_turns.proofs.Numbered.{coded_inside}
use Rattle.pict_turns.proofs.Room.{store_still}
use Rattle.pict_acting.specs.Opening.{PutsLast}
use Rattle.pict_acting.proofs.Bounding.{made_few, push_low}
use Rattle.pict_acting.proofs.CallNodes.{new_level_inside, frame_of_narrow, narrow_frame, wide_in}
use Rattle.pict_acting.proofs.CallSteps.{another_left}
use Rattle.pict_acting.proofs.WaitSteps.{wait_made, wait_after}
use Rattle.pict_acting.proofs.opening.make_wait.Goals as goal

pub frame_at-own-requires : goal.frame_at-own-requires
frame_at-own-requires c =
    let code = c.args.code.now in
    let n = c.requires.waits.waits.narrow in
    in_code code c.requires.code c.args.opening.left (slice_get_within (nodes_of (core_in code)) c.args.opening.left n.node n.at)

pub frame_at-frame-requires : goal.frame_at-frame-requires
frame_at-frame-requires c =
    let code = c.args.code.now in
    let n = c.requires.waits.other in
    in_code code c.requires.code c.args.opening.right (slice_get_within (nodes_of (core_in code)) c.args.opening.right n.node n.at)

pub returns-in_err-make_room-clause-blocks : goal.returns-in_err-make_room-clause-blocks
returns-in_err-make_room-clause-blocks c =
    let code = c.args.code.now in
    let own = wide_in code c.requires.code c.args.opening.left c.frame_at-own.result.now c.frame_at-own.ensures in
    let frame = wide_in code c.requires.code c.args.opening.right c.frame_at-frame.result.now c.frame_at-frame.ensures in
    made_few (core_in code) c.args.store.now.queues c.make_room.new.store.queues _ _ _ own own frame c.make_room.ensures.most

pub add_channel-channel-requires-clause-inside : goal.add_channel-channel-requires-clause-inside
add_channel-channel-requires-clause-inside c =
    let s = c.args.store.now in
    let b = c.requires.begins in
    let low = new_level_inside (core_in c.args.code.now) b.number b.opens.opens.narrow.node b.opens.opens.narrow.at (length s.desk.values.items) c.requires.store.levels c.args.opening.level b.opens.both b.opens.opens.is in
    let same = ap length c.make_room.ensures.rest.values in
    omega (arith, low, same)

pub put_last-requires-clause-narrow : goal.put_last-requires-clause-narrow
put_last-requires-clause-narrow c =
    narrow_frame c.args.code.now c.requires.code c.args.opening.left c.frame_at-own.result.now c.frame_at-own.ensures c.requires.waits.waits.narrow

pub put_last-requires-clause-spare : goal.put_last-requires-clause-spare
put_last-requires-clause-spare c =
    subst (λ (r : RegionState). 1 ≤ spare r (block_width c.frame_at-own.result.now)) (sym c.add_channel-channel.ensures.adds.region) c.in_ok-make_room.ensures.own

pub put_last-requires-clause-inside : goal.put_last-requires-clause-inside
put_last-requires-clause-inside c =
    let s = c.args.store.now in
    let own = c.frame_at-own.result.now in
    let inside = coded_inside c.args.code.now c.requires.code s c.requires.store c.args.opening.left own c.frame_at-own.ensures in
    let many = c.add_channel-channel.ensures.adds.levels ∙ ap length c.make_room.ensures.rest.values in
    subst (λ (n : ℕ). All (λ level. level < n) own) (sym many) inside

pub put_last-requires-2-clause-narrow : goal.put_last-requires-2-clause-narrow
put_last-requires-2-clause-narrow c =
    narrow_frame c.args.code.now c.requires.code c.args.opening.right c.frame_at-frame.result.now c.frame_at-frame.ensures c.requires.waits.other

pub put_last-requires-2-clause-spare : goal.put_last-requires-2-clause-spare
put_last-requires-2-clause-spare c =
    let own = c.frame_at-own.result.now in
    let frame = c.frame_at-frame.result.now in
    let both = c.in_ok-make_room.ensures.both in
    let added = c.add_channel-channel.ensures.adds in
    let region = c.add_channel-channel.new.store.queues.region in
    let one : 1 ≤ spare region (block_width frame) = subst (λ (r : RegionState). 1 ≤ spare r (block_width frame)) (sym added.region) both.can.block in
    let two : block_width own ≡ block_width frame → 2 ≤ spare region (block_width frame) =
    λ same. subst (λ (r : RegionState). 2 ≤ spare r (block_width frame)) (sym added.region) (both.left same) in
    another_left region c.put_last.new.store.queues.region (block_width own) (block_width frame) c.put_last.ensures.puts.taken c.put_last.ensures.puts.widths one two

pub put_last-requires-2-clause-inside : goal.put_last-requires-2-clause-inside
put_last-requires-2-clause-inside c =
    let s = c.args.store.now in
    let frame = c.frame_at-frame.result.now in
    let inside = coded_inside c.args.code.now c.requires.code s c.requires.store c.args.opening.right frame c.frame_at-frame.ensures in
    let many = ap (λ d. length d.values.items) c.put_last.ensures.puts.desk ∙ c.add_channel-channel.ensures.adds.levels ∙ ap length c.make_room.ensures.rest.values in
    subst (λ (n : ℕ). All (λ level. level < n) frame) (sym many) inside

pub returns-clause-made : goal.returns-clause-made
returns-clause-made c =
    let code = c.args.code.now in
    let core = core_in code in
    let opening = c.args.opening in
    let s = c.args.store.now in
    let only = c.make_room.ensures.rest in
    let mid = c.make_room.new.store in
    let opened = c.add_channel-channel.new.store in
    let channel = c.add_channel-channel.result in
    let w = c.requires.waits in
    let begins = c.requires.begins in
    let own_is = frame_of_narrow code c.requires.code opening.left c.frame_at-own.result.now c.frame_at-own.ensures w.waits.narrow in
    let frame_is = frame_of_narrow code c.requires.code opening.right c.frame_at-frame.result.now c.frame_at-frame.ensures w.other in
    let from : c.from.result ≡ channel = search rules in
    let queue : c.from.result + 1 ≡ channel + 1 = ap (λ (k : ℕ). k + 1) from in
    let parked : PutsLast opened c.put_last.new.store (channel + 1) opening.left w.waits.narrow.node.frame =
    subst (λ (k : ℕ). PutsLast opened c.put_last.new.store k opening.left w.waits.narrow.node.frame) queue
    (subst (PutsLast opened c.put_last.new.store (c.from.result + 1) opening.left) own_is c.put_last.ensures.puts) in
    let readied : PutsLast c.put_last.new.store c.put_last-2.new.store 0 opening.right w.other.node.frame =
    subst (PutsLast c.put_last.new.store c.put_last-2.new.store 0 opening.right) frame_is c.put_last-2.ensures.puts in
    rw c.set.ensures (wait_after core s mid _ only
    (wait_made core c.requires.code.closed mid opened c.put_last.new.store c.put_last-2.new.store begins.number channel opening (store_still core s mid only c.requires.store) (only.turn ∙ begins.turn) begins.opens w
    c.add_channel-channel.ensures.number c.add_channel-channel.ensures.adds parked readied))

pub returns-clause-blocks : goal.returns-clause-blocks
returns-clause-blocks c =
    let code = c.args.code.now in
    let own = wide_in code c.requires.code c.args.opening.left c.frame_at-own.result.now c.frame_at-own.ensures in
    let frame = wide_in code c.requires.code c.args.opening.right c.frame_at-frame.result.now c.frame_at-frame.ensures in
    let mid = c.make_room.new.store.queues in
    let last = c.put_last-2.new.store.queues in
    let keeps : KeepsBlocks mid.region last.region = λ width.
    c.put_last-2.ensures.puts.blocks width ∙ c.put_last.ensures.puts.blocks width ∙ ap (λ (r : RegionState). blocks r width) c.add_channel-channel.ensures.adds.region in
    made_few (core_in code) c.args.store.now.queues last _ _ _ own own frame (makes_before c.args.store.now.queues mid last _ c.make_room.ensures.most keeps)

pub returns-clause-cost : goal.returns-clause-cost
returns-clause-cost c =
    let code = c.args.code.now in
    let f = coded_frame code c.requires.code c.args.opening.left c.frame_at-own.result.now c.frame_at-own.ensures in
    let g = coded_frame code c.requires.code c.args.opening.right c.frame_at-frame.result.now c.frame_at-frame.ensures in
    let low = push_low (core_in code) c.args.opening.left f.node f.at in
    let other_low = push_low (core_in code) c.args.opening.right g.node g.at in
    let same = ap length f.is in
    let other_same = ap length g.is in
    let room = c.make_room.ensures.rest.work in
    let opened = ap (λ (r : RegionState). r.work) c.add_channel-channel.ensures.adds.region in
    let least = c.put_last.ensures.cost.least in
    let most = c.put_last.ensures.cost.most in
    let other_least = c.put_last-2.ensures.cost.least in
    let other_most = c.put_last-2.ensures.cost.most in
    record { least = omega (arith, room, opened, least, other_least); most = omega (arith, low, same, other_low, other_same, room, opened, most, other_most) }
