use Rattle.std.proofs.Common.{ℕ, ◌+◌, ◌*◌, ◌≤◌, ◌<◌, List, length, sym, subst, arith, ◌∙◌}
use Rattle.std.specs.List.{All}
use Rattle.pict_blocks.specs.Framed.{node_words}
use Rattle.pict_blocks.specs.Writing.{IsMade}
use Rattle.pict_region.specs.RegionState.{spare}
use Rattle.pict_desk.specs.Code.{core_in}
use Rattle.pict_turns.proofs.Numbered.{coded_inside}
use Rattle.pict_desk.proofs.Numbered.{coded_frame, in_code}
use Rattle.pict_blocks.proofs.Costs.{costs_up}
use Rattle.pict_turns.proofs.Taking.{node_fits}
use Rattle.pict_turns.proofs.Turns.{acting_room, node_inside}
use Rattle.pict_turns.proofs.turning.set_down.Goals as goal

pub frame_at-frame-requires : goal.frame_at-frame-requires
frame_at-frame-requires c =
    in_code c.args.code.now c.requires.code c.in-Node.number (node_inside (core_in c.args.code.now) c.args.store.now c.requires.acting c.in-Node.number (sym c.get.ensures ∙ c.in-Node.is))

pub block_of-requires-clause-narrow : goal.block_of-requires-clause-narrow
block_of-requires-clause-narrow c =
    let core = core_in c.args.code.now in
    let f = coded_frame c.args.code.now c.requires.code c.in-Node.number c.frame_at-frame.result.now c.frame_at-frame.ensures in
    (node_fits core c.args.store.now c.requires.acting c.in-Node.number (sym c.get.ensures ∙ c.in-Node.is) c.frame_at-frame.result.now f).narrow

pub block_of-requires-clause-spare : goal.block_of-requires-clause-spare
block_of-requires-clause-spare c =
    let core = core_in c.args.code.now in
    let s = c.args.store.now in
    let f = coded_frame c.args.code.now c.requires.code c.in-Node.number c.frame_at-frame.result.now c.frame_at-frame.ensures in
    subst (λ (w : ℕ). 1 ≤ spare s.queues.region w) (node_fits core s c.requires.acting c.in-Node.number (sym c.get.ensures ∙ c.in-Node.is) c.frame_at-frame.result.now f).width (acting_room core s c.requires.acting)

pub block_of-requires-clause-known : goal.block_of-requires-clause-known
block_of-requires-clause-known c =
    subst (λ (vs : List (ℕ × ℕ)). All (λ level. level < length vs) c.frame_at-frame.result.now) (sym c.deref.ensures.value)
    (coded_inside c.args.code.now c.requires.code c.args.store.now c.requires.acting.store c.in-Node.number c.frame_at-frame.result.now c.frame_at-frame.ensures)

pub returns-in-Node-clause-made : goal.returns-in-Node-clause-made
returns-in-Node-clause-made c =
    let core = core_in c.args.code.now in
    let s = c.args.store.now in
    let f = coded_frame c.args.code.now c.requires.code c.in-Node.number c.frame_at-frame.result.now c.frame_at-frame.ensures in
    let fits = node_fits core s c.requires.acting c.in-Node.number (sym c.get.ensures ∙ c.in-Node.is) c.frame_at-frame.result.now f in
    subst (λ (ws : List ℕ). IsMade s.queues c.block_of.new.queues c.block_of.result ws (length ws + 1)) (sym fits.words)
    (subst (IsMade s.queues c.block_of.new.queues c.block_of.result (node_words s.desk.values.items c.in-Node.number c.frame_at-frame.result.now)) (sym fits.long)
    (subst (λ (vs : List (ℕ × ℕ)). IsMade s.queues c.block_of.new.queues c.block_of.result (node_words vs c.in-Node.number c.frame_at-frame.result.now) (2 + 2 * length c.frame_at-frame.result.now))
    c.deref.ensures.value c.block_of.ensures.made))

pub returns-in-Node-clause-cost : goal.returns-in-Node-clause-cost
returns-in-Node-clause-cost c =
    let core = core_in c.args.code.now in
    let s = c.args.store.now in
    let f = coded_frame c.args.code.now c.requires.code c.in-Node.number c.frame_at-frame.result.now c.frame_at-frame.ensures in
    let width = (node_fits core s c.requires.acting c.in-Node.number (sym c.get.ensures ∙ c.in-Node.is) c.frame_at-frame.result.now f).width in
    costs_up s.queues c.block_of.new.queues _ _ (omega (arith, width)) c.block_of.ensures.cost

pub set_down_other-requires-clause-other : goal.set_down_other-requires-clause-other
set_down_other-requires-clause-other c = λ number e. c.in_default.not-Node number (c.get.ensures ∙ e)
